-- Packets and records as the code holds them.
use Rattle.std.specs.Prelude.{ℕ, List, [], ◌∷◌, codes}
use Rattle.rasta_pcap.specs.declared.stream.RecordReader.{RecordReader}
use Rattle.rasta_pcap.specs.Capture.{cursor_at, reading}
use Rattle.rasta_pcap.specs.Stream.{count_in, order_in}
use Rattle.rasta_pdu.specs.Params.{Parameters}
use Rattle.rasta_pdu.specs.Pdu.{messages_in, read_code, value_of}
use Rattle.rasta_show.specs.Lines.{ShownPacket, codes_line, front_words, messages_text}
use Rattle.rasta_line.specs.Texts.{words_before}
use Rattle.rasta_show.specs.Show.{packet, passed_over, refused, Shown, Sight, shown_of, status_after, text_from}
use Rattle.rasta_show.specs.declared.shown_packet.ShownPacket.{ShownPacket as HeldPacket}
use Rattle.rasta_show.specs.declared.show.Seen.{Seen}
use Rattle.rasta_show.specs.declared.show.Seen.TheVariants as seen

abbrev pub packet_of : HeldPacket → ShownPacket
packet_of q = record {
  record_number = q.«record»;
  channel = q.channel;
  side = q.side;
  pdu = value_of q.pdu;
  code = read_code q.pdu;
}

-- what comes before the messages of a packet at its place
abbrev pub data_front : ℕ → ShownPacket → List ℕ
data_front place q = words_before (front_words place q) (words_before (codes "data" ∷ []) [])

-- a packet with messages at its place
abbrev pub data_line : ℕ → ShownPacket → List ℕ
data_line place q = words_before (front_words place q)
    (words_before (codes "data" ∷ messages_text (messages_in q.pdu.safety.body)
    ∷ []) (codes_line q.code q.pdu.check_bytes))

-- what a record is
abbrev pub sight_in : Seen → Sight
sight_in seen.PassedOver = passed_over
sight_in (seen.Packet q) = packet (packet_of q)
sight_in (seen.Refused f) = refused f

-- what the bytes show that are left to a reading, its records up to the last one of the window
abbrev pub shown_left : Parameters → RecordReader → List ℕ → Shown
shown_left p r rest = shown_of p (reading p.last_record (cursor_at (order_in r) rest (count_in r)))

abbrev pub text_left : Parameters → RecordReader → List ℕ → List ℕ
text_left p r rest = text_from 0 (shown_left p r rest)

abbrev pub status_left : Parameters → RecordReader → List ℕ → ℕ
status_left p r rest = status_after (shown_left p r rest).fault
