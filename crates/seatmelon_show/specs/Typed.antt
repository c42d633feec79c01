-- The type of a packet.
use Rattle.std.specs.Prelude.{Option, None, Result, Ok, Err}
use Rattle.rasta_pcap.specs.declared.fault.Fault.{Fault}
use Rattle.rasta_udp.specs.Frame.{Packet}
use Rattle.rasta_pdu.specs.declared.kind.Kind.{Kind}
use Rattle.rasta_pdu.specs.Fields.{kind_in}
use Rattle.seatmelon_show.specs.Sighted.{Seen}

abbrev pub kind_found : Result Packet Fault → Option Kind
kind_found (Ok packet) = kind_in packet.payload
kind_found (Err fault) = None

-- the type of a packet, if it has one
abbrev pub kind_seen : Seen → Option Kind
kind_seen s = kind_found s.found
