-- The PDUs that packets spell.
use Rattle.std.specs.Prelude.{ℕ, Bool, false, List, slice_get, Option, None, Some, Result, Ok, Err, option_map}
use Rattle.std.specs.Option.{option_and_then}
use Rattle.rasta_pcap.specs.declared.fault.Fault.{Fault}
use Rattle.rasta_udp.specs.Frame.{Packet}
use Rattle.rasta_pdu.specs.Params.{Parameters}
use Rattle.rasta_pdu.specs.Pdu.{RedundancyPdu, decode_of, is_kind}
use Rattle.rasta_pdu.specs.declared.kind.Kind.TheVariants.{ConnectionRequest}

abbrev pub pdu_read : Result RedundancyPdu Fault → Option RedundancyPdu
pdu_read (Ok pdu) = Some pdu
pdu_read (Err fault) = None

-- the PDU that a packet spells, if it spells one
abbrev pub pdu_of : Parameters → Packet → Option RedundancyPdu
pdu_of p packet = pdu_read (decode_of p packet.side packet.payload)

-- that of the packet at a place
abbrev pub pdu_there : Parameters → List Packet → ℕ → Option RedundancyPdu
pdu_there p packets place = option_and_then (pdu_of p) (slice_get packets place)

abbrev pub requests : Option RedundancyPdu → Bool
requests None = false
requests (Some pdu) = is_kind ConnectionRequest pdu.safety.kind

-- whether the first packet opens the connection, if there is one
abbrev pub opens_first : Parameters → List Packet → Option Bool
opens_first p packets = option_map (λ (packet : Packet). requests (pdu_of p packet)) (slice_get packets 0)
