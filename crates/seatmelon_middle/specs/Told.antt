-- When it is told what the packets of a connection show alone.
use Rattle.std.specs.Prelude.{◌&&◌, ◌||◌, Bool, false, not, List, nat_eq, Option, None, Some, is_none}
use Rattle.rasta_pcap.specs.declared.fault.Fault.{Fault}
use Rattle.rasta_udp.specs.Frame.{Packet}
use Rattle.rasta_pdu.specs.Params.{Parameters}
use Rattle.seatmelon_middle.specs.Packets.{opens_first}

-- of one that is refused by this fault and whose first packet opens the connection or doesn't: numbers have a gap, no
-- run explains the packets, or neither opening nor quiet point is there
abbrev pub tells : Parameters → Option Bool → Fault → Bool
tells p None fault = false
tells p (Some opens) fault = (is_none p.quiet && not opens) || (nat_eq fault.number 28 || nat_eq fault.number 60)

abbrev pub tells_by : Parameters → List Packet → Fault → Bool
tells_by p packets fault = tells p (opens_first p packets) fault
