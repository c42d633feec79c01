-- The packet of the connection in a record.
use Rattle.std.specs.Prelude.{ℕ, Option, None, Result, Ok, Err, nat_lt, if◌then◌else◌}
use Rattle.rasta_pcap.specs.declared.fault.Fault.{Fault}
use Rattle.rasta_pcap.specs.Capture.{Numbered}
use Rattle.rasta_pcap.specs.Fault.{fault_at}
use Rattle.rasta_udp.specs.Frame.{Packet, packet_in}
use Rattle.rasta_pdu.specs.Params.{Parameters}

-- a fault names the record of its frame
abbrev pub at_record : ℕ → Result (Option Packet) Fault → Result (Option Packet) Fault
at_record number (Ok found) = Ok found
at_record number (Err fault) = Err (fault_at fault.number number)

-- none before the window, where no record is judged; a frame's fault speaks of no end
abbrev pub recorded_packet : Parameters → Numbered → Result (Option Packet) Fault
recorded_packet p r = if nat_lt r.0 p.first_record then Ok None else at_record r.0 (packet_in p.channels r.1)
