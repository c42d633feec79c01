-- What `show` writes of a capture.
use Rattle.std.specs.Prelude.{ℕ, ◌+◌, List, [], ◌∷◌, ◌++◌, length, Option, Some, None, Result, Ok, Err}
use Rattle.rasta_pcap.specs.declared.fault.Fault.{Fault}
use Rattle.rasta_pcap.specs.Fault.{fault_of_end}
use Rattle.rasta_pcap.specs.Capture.{Numbered, Reading, reading_of}
use Rattle.rasta_udp.specs.Frame.{Packet}
use Rattle.rasta_pdu.specs.Params.{Parameters}
use Rattle.rasta_pdu.specs.Pdu.{RedundancyPdu, code_of, decode_of}
use Rattle.rasta_pdu.specs.Records.{recorded_packet}
use Rattle.rasta_show.specs.Lines.{ShownPacket, packet_line, packets_line}
use Rattle.rasta_line.specs.Texts.{refused_line}

-- what a record is: before the window or of no channel, a packet of the connection, or refused
pub data Sight : Type 0 where
  passed_over : Sight
  packet : ShownPacket → Sight
  refused : Fault → Sight

-- a PDU's fault speaks of its sender
abbrev pub sight_of_pdu : Parameters → ℕ → Packet → Result RedundancyPdu Fault → Sight
sight_of_pdu p number d (Ok pdu) = packet (record {
  record_number = number;
  channel = d.channel;
  side = d.side;
  pdu = pdu;
  code = code_of p d.side pdu.safety;
})
sight_of_pdu p number d (Err f) = refused (fault_of_end f.number number d.side)

abbrev pub sight_of_packet : Parameters → ℕ → Result (Option Packet) Fault → Sight
sight_of_packet p number (Ok None) = passed_over
sight_of_packet p number (Ok (Some d)) = sight_of_pdu p number d (decode_of p d.side d.payload)
sight_of_packet p number (Err f) = refused f

unfoldable pub sight_of : Parameters → Numbered → Sight
sight_of p r = sight_of_packet p r.0 (recorded_packet p r)

-- the packets up to the first fault, and that fault
pub record Shown : Type 0 where
  pub packets : List ShownPacket
  pub fault : Option Fault

abbrev pub with_sight : Sight → Shown → Shown
with_sight passed_over more = more
with_sight (packet q) more = record { packets = q ∷ more.packets; fault = more.fault }
with_sight (refused f) more = record { packets = []; fault = Some f }

-- what records show, and the fault after them
unfoldable pub shown_in : Parameters → List Numbered → Option Fault → Shown
shown_in p [] fault = record { packets = []; fault = fault }
shown_in p (r ∷ rs) fault = with_sight (sight_of p r) (shown_in p rs fault)

abbrev pub shown_of : Parameters → Reading → Shown
shown_of p r = shown_in p r.records r.fault

-- what a file shows, up to the last record of the window
abbrev pub shown : Parameters → List ℕ → Shown
shown p file = shown_of p (reading_of p.last_record file)

-- the lines of packets, of which the first stands at this place
unfoldable pub lines_from : ℕ → List ShownPacket → List ℕ
lines_from place [] = []
lines_from place (q ∷ qs) = packet_line place q ++ lines_from (place + 1) qs

abbrev pub last_line : ℕ → Option Fault → List ℕ
last_line count None = packets_line count
last_line count (Some f) = refused_line f

-- the lines of the packets, and the last line
unfoldable pub text_from : ℕ → Shown → List ℕ
text_from place s = lines_from place s.packets ++ last_line (place + length s.packets) s.fault

-- the text of a file
abbrev pub show_text : Parameters → List ℕ → List ℕ
show_text p file = text_from 0 (shown p file)

-- 1 where the last line is a refusal
abbrev pub status_after : Option Fault → ℕ
status_after None = 0
status_after (Some f) = 1

abbrev pub show_status : Parameters → List ℕ → ℕ
show_status p file = status_after (shown p file).fault
