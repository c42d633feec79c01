-- What is told of a supposition.
use Rattle.std.specs.Prelude.{◌≡◌, ℕ, suc, ◌^◌, ◌&&◌, nat_eq, nat_lt, List, [], ◌∷◌, map, length, slice_get, true, All}
use Rattle.std.specs.Prelude.{Option, None, Some, unwrap_or, if◌then◌else◌}
use Rattle.std.specs.List.{Contains, cons_option}
use Rattle.std.specs.Option.{option_and_then}
use Rattle.rasta_pcap.specs.declared.fault.Side.{Side}
use Rattle.rasta_pcap.specs.declared.fault.Side.TheVariants.{Client, Server}
use Rattle.rasta_pdu.specs.Params.{Parameters}
use Rattle.seatmelon_reading.specs.Tapes.{NumberedPacket, taped_in}
use Rattle.seatmelon_reading.specs.declared.notes.Notes.{Notes}
use Rattle.seatmelon_reading.specs.declared.tape.Tape.{Tape}
use Rattle.seatmelon_suppose.specs.Spelling.{messages_of_packet}
use Rattle.seatmelon_suppose.specs.Supposition.{IsSupposition}
use Rattle.seatmelon_suppose.specs.declared.filling.Listed.{Listed}
use Rattle.seatmelon_suppose.specs.declared.supposition.Messages.{Messages}
use Rattle.seatmelon_suppose.specs.declared.sent.SentMessage.{SentMessage}
use Rattle.seatmelon_suppose.specs.declared.supposition.Supposition.{Supposition}
use Rattle.seatmelon_account.specs.Messages.{Placed, placed_at, placed_of}
use Rattle.seatmelon_account.specs.Starts.{start_in}
use Rattle.seatmelon_account.specs.declared.hypothesis.Hypothesis.{Hypothesis}
use Rattle.seatmelon_account.specs.declared.messages.Direction.{Direction}
use Rattle.seatmelon_account.specs.declared.messages.Message.{Message}

-- a message of this data is listed with this proof
pub record IsProofIn (listed : List Listed) (place proof : ℕ) : Type 0 where
  pub message : Listed
  pub listed_so : Contains listed message
  pub data_so : message.data ≡ place
  pub proof_so : message.proof ≡ proof

-- a message that is told as surely taken is listed
abbrev pub IsListed : List Listed → Message → Type 0
IsListed listed m = (proof : ℕ) → m.proof ≡ Some proof → IsProofIn listed m.data proof

abbrev pub AreListed : List Listed → List Message → Type 0
AreListed listed messages = All (IsListed listed) messages

-- the proof that is told of the message told in this order, if its data stands at this place: that of the one that is
-- listed there
abbrev pub proof_if : ℕ → Option Listed → Option ℕ
proof_if place None = None
proof_if place (Some l) = if nat_eq l.data place && nat_lt l.proof (2 ^ 32) then Some l.proof else None

abbrev pub proof_listed : List Listed → ℕ → ℕ → Option ℕ
proof_listed listed order place = proof_if place (slice_get listed order)

-- each message that is told has the proof of the one that is listed there, and no other one
abbrev pub AreProved : List Listed → List Message → Type 0
AreProved listed messages = (i : ℕ) (m : Message) → slice_get messages i ≡ Some m
    → m.proof ≡ proof_listed listed i m.data

-- ---- the messages of captured data

-- a message with its number, the place of its data, and its bytes
pub record Numbered : Type 0 where
  pub number : ℕ
  pub placed : Placed

abbrev pub numbered_of : Message → Numbered
numbered_of m = record { number = m.number; placed = placed_of m }

-- the message of this number among those of the packet at a place; empty where there is none
abbrev pub message_in : Parameters → List NumberedPacket → ℕ → ℕ → List ℕ
message_in p packets place index = unwrap_or (slice_get (messages_of_packet p (slice_get packets place)) index) []

abbrev pub message_from : Parameters → List NumberedPacket → ℕ → ℕ → ℕ → Option Numbered
message_from p packets number index place = if nat_lt place (2 ^ 32)
    then Some (record { number = number; placed = placed_at place (message_in p packets place index) }) else None

-- a message that an end sent, as the one of this number, if its data was captured, at a place of 32 bits
abbrev pub captured_as : Parameters → List NumberedPacket → ℕ → SentMessage → Option Numbered
captured_as p packets number s = option_and_then (message_from p packets number s.index) s.«data»

-- those of captured data among these messages, of which the first has this number
abbrev pub captured_from : Parameters → List NumberedPacket → ℕ → List SentMessage → List Numbered
captured_from p packets number [] = []
captured_from p packets number (s ∷ more) =
    cons_option (captured_as p packets number s) (captured_from p packets (suc number) more)

-- the messages of an end as they are told: all of captured data that it sent by the first filling, in order, and as many
-- are counted as surely taken as are listed
pub record IsToldOf (sender : Side) (p : Parameters) (packets : List NumberedPacket) (m : Messages)
    (d : Direction) : Type 0 where
  pub end : d.sender ≡ sender
  pub taken : d.taken ≡ length m.taken.items
  pub all : map numbered_of d.messages.items ≡ captured_from p packets 0 m.sent.items
  pub proved : AreProved m.taken.items d.messages.items
  pub messages : AreListed m.taken.items d.messages.items

abbrev pub supposition_in : Hypothesis → Supposition
supposition_in h = h.supposition

-- this is supposed of the packets of a capture, which were kept, where at most so many PDUs may be supposed
abbrev pub IsSupposed : Parameters → Tape → ℕ → Supposition → Type 0
IsSupposed p tape most s = (tape.is_kept ≡ true) × IsSupposition p (taped_in tape) most s

-- the checker has judged each filling, and each message that is counted or told as surely taken is one that was
-- answered so
pub record IsHypothesis (p : Parameters) (n : Notes) (most : ℕ) (h : Hypothesis) : Type 0 where
  pub supposed : IsSupposed p n.tape most h.supposition
  pub has_code : h.has_code ≡ nat_lt 0 p.code_length
  pub start : h.start ≡ start_in p n.before
  pub client : IsToldOf Client p (taped_in n.tape) h.supposition.client h.client
  pub server : IsToldOf Server p (taped_in n.tape) h.supposition.server h.server
