-- What is read of a capture: the packets that crossed with what each side sent, or the first fault.
use Rattle.std.specs.Prelude.{ℕ, List, [], ◌∷◌, ◌++◌, length, Option, Some, None, Result, Ok, Err, Bool, ◌&&◌, nat_le}
use Rattle.std.specs.Prelude.{if◌then◌else◌}
use Rattle.rasta_pcap.specs.declared.fault.Fault.{Fault}
use Rattle.rasta_pcap.specs.declared.fault.Side.{Side}
use Rattle.rasta_pcap.specs.declared.fault.Side.TheVariants.{Client, Server}
use Rattle.rasta_pcap.specs.Fault.{fault_at, fault_of_end, too_many}
use Rattle.rasta_pcap.specs.Capture.{Numbered, Reading, reading_of}
use Rattle.rasta_udp.specs.Frame.{Packet}
use Rattle.rasta_pdu.specs.Params.{Parameters}
use Rattle.rasta_pdu.specs.Pdu.{RedundancyPdu, decode_of}
use Rattle.rasta_pdu.specs.Records.{recorded_packet}
use Rattle.rasta_check.specs.Capture.SentLists.{FirstCopy}
use Rattle.rasta_check.specs.Capture.PacketFaults.{copy_with, packet_fault}
use Rattle.rasta_check.specs.Capture.Crossing.{Crossing, nothing_crossed, sent_by}
use Rattle.rasta_check.specs.Model.World.{most_sent}
use Rattle.rasta_check.specs.Model.Theorem.{most_packets}

-- ---- the next packet

-- a sent list goes on with a PDU whose number is new
abbrev pub after_pdu : List FirstCopy → ℕ → RedundancyPdu → Option FirstCopy → List FirstCopy
after_pdu sent place pdu None = sent ++ record { place = place; pdu = pdu } ∷ []
after_pdu sent place pdu (Some copy) = sent

abbrev pub after_read : List FirstCopy → ℕ → Result RedundancyPdu Fault → List FirstCopy
after_read sent place (Ok pdu) = after_pdu sent place pdu (copy_with sent pdu.number)
after_read sent place (Err fault) = sent

-- what the sender of a packet has sent after it
abbrev pub sent_after : Crossing → Packet → List FirstCopy
sent_after k packet =
    after_read (sent_by k packet.side) (length k.packets) (decode_of k.params packet.side packet.payload)

-- one more packet, whose sender has sent this list after it
abbrev pub crossing_with : Crossing → Packet → Side → List FirstCopy → Crossing
crossing_with k packet Client sent = record k { packets = k.packets ++ packet ∷ []; client = sent }
crossing_with k packet Server sent = record k { packets = k.packets ++ packet ∷ []; server = sent }

abbrev pub with_packet : Crossing → Packet → Crossing
with_packet k packet = crossing_with k packet packet.side (sent_after k packet)

abbrev pub keeps_limits : Crossing → Bool
keeps_limits k =
    nat_le (length k.packets) most_packets && (nat_le (length k.client) most_sent && nat_le (length k.server) most_sent)

-- at this record the limits are kept
abbrev pub within_limits : ℕ → Crossing → Result Crossing Fault
within_limits number k = if keeps_limits k then Ok k else Err (fault_at too_many number)

-- a packet's fault speaks of its sender
abbrev pub after_judged : Crossing → ℕ → Packet → Option ℕ → Result Crossing Fault
after_judged k number packet (Some fault) = Err (fault_of_end fault number packet.side)
after_judged k number packet None = within_limits number (with_packet k packet)

-- the crossing with the packet of this record, or its fault
unfoldable pub after_packet : Crossing → ℕ → Packet → Result Crossing Fault
after_packet k number packet = after_judged k number packet (packet_fault k.params (sent_by k packet.side) packet)

-- ---- the next record

abbrev pub after_found : Crossing → ℕ → Result (Option Packet) Fault → Result Crossing Fault
after_found k number (Ok None) = Ok k
after_found k number (Ok (Some packet)) = after_packet k number packet
after_found k number (Err fault) = Err fault

unfoldable pub after_record : Crossing → Numbered → Result Crossing Fault
after_record k r = after_found k r.0 (recorded_packet k.params r)

-- ---- the packet in a record

abbrev pub packet_found : Result (Option Packet) Fault → Option Packet
packet_found (Ok packet) = packet
packet_found (Err fault) = None

-- the packet of the connection that a record holds; none before the window
abbrev pub packet_at : Parameters → Numbered → Option Packet
packet_at p r = packet_found (recorded_packet p r)

-- ---- a file

abbrev pub at_end : Crossing → Option Fault → Result Crossing Fault
at_end k None = Ok k
at_end k (Some fault) = Err fault

abbrev pub then_crossing : Result Crossing Fault → (Crossing → Result Crossing Fault) → Result Crossing Fault
then_crossing (Ok k) next = next k
then_crossing (Err fault) next = Err fault

-- the crossing with these records one after the other, up to the first fault, and then the fault that ended the reading
unfoldable pub after_records : Crossing → List Numbered → Option Fault → Result Crossing Fault
after_records k [] fault = at_end k fault
after_records k (r ∷ rs) fault = then_crossing (after_record k r) (λ (next : Crossing). after_records next rs fault)

abbrev pub after_reading : Crossing → Reading → Result Crossing Fault
after_reading k r = after_records k r.records r.fault

-- what crossed by a file, up to the last record of the window, or the first fault
abbrev pub crossing_of : Parameters → List ℕ → Result Crossing Fault
crossing_of p file = after_reading (nothing_crossed p) (reading_of p.last_record file)
