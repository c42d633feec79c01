-- The messages that an end sent.
use Rattle.std.specs.Prelude.{◌≡◌, ℕ, suc, List, [], ◌∷◌, Option, Ok}
use Rattle.std.specs.List.{flat_map}
use Rattle.rasta_pcap.specs.declared.fault.Side.{Side}
use Rattle.rasta_pdu.specs.Params.{Parameters}
use Rattle.rasta_pdu.specs.Pdu.{messages_in}
use Rattle.rasta_check.specs.Capture.Crossing.{Crossing, nothing_crossed, sent_by}
use Rattle.rasta_check.specs.Capture.SentLists.{FirstCopy}
use Rattle.rasta_check.specs.Model.Taken.{data_copies}
use Rattle.seatmelon_reading.specs.Tapes.{NumberedPacket}
use Rattle.seatmelon_suppose.specs.Filling.{origin_at}
use Rattle.seatmelon_suppose.specs.Mending.{after_packets, mended, origins_from}
use Rattle.seatmelon_suppose.specs.declared.filling.Filling.{Filling}
use Rattle.seatmelon_suppose.specs.declared.sent.SentMessage.{SentMessage}

-- the messages of a data PDU, from this number on; it was captured there, if at all
abbrev pub messages_from : Option ℕ → ℕ → List (List ℕ) → List SentMessage
messages_from place number [] = []
messages_from place number (m ∷ messages) =
    record { «data» = place; index = number } ∷ messages_from place (suc number) messages

-- those of a first copy
abbrev pub sent_of_copy : List (Option ℕ) → FirstCopy → List SentMessage
sent_of_copy origins c = messages_from (origin_at origins c.place) 0 (messages_in c.pdu.safety.body)

-- all messages that an end sent, in order: those of its data, each once
abbrev pub sent_messages : List (Option ℕ) → List FirstCopy → List SentMessage
sent_messages origins sent = flat_map (sent_of_copy origins) (data_copies sent)

-- all messages that an end sent by the first of these fillings; none where there is none
abbrev pub IsSentBy : Parameters → List NumberedPacket → Side → List Filling → List SentMessage → Type 0
IsSentBy p packets side [] sent = sent ≡ []
IsSentBy p packets side (f ∷ more) sent =
    (k : Crossing) × (after_packets (nothing_crossed p) (mended p f.pdus.items packets) ≡ Ok k)
    × (sent ≡ sent_messages (origins_from f.pdus.items 0 packets) (sent_by k side))
