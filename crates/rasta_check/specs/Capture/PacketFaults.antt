-- The fault of the next packet, after those of which its side sent a list.
use Rattle.std.specs.Prelude.{ℕ, ◌+◌, Bool, true, List, [], ◌∷◌, length, Option, Some, None, Result, Ok, Err, find}
use Rattle.std.specs.Prelude.{if◌then◌else◌, ◌==◌}
use Rattle.std.specs.Str.{bytes_eq}
use Rattle.rasta_pcap.specs.declared.fault.Fault.{Fault}
use Rattle.rasta_pcap.specs.declared.fault.Side.{Side}
use Rattle.rasta_pcap.specs.Fault.{copy_differs, number_gap}
use Rattle.rasta_udp.specs.Frame.{Packet}
use Rattle.rasta_pdu.specs.Params.{Parameters}
use Rattle.rasta_pdu.specs.Pdu.{RedundancyPdu, redundancy_bytes, decode_of}
use Rattle.rasta_end.specs.State.{wrapped}
use Rattle.rasta_check.specs.Capture.SentLists.{FirstCopy}

-- the first copy with this redundancy number
abbrev pub copy_with : List FirstCopy → ℕ → Option FirstCopy
copy_with sent number = find (λ (copy : FirstCopy). copy.pdu.number == number) sent

-- the number that follows those of a sent list; the first is free
abbrev pub is_next_number : List FirstCopy → ℕ → Bool
is_next_number [] number = true
is_next_number (copy ∷ copies) number = number == wrapped (copy.pdu.number + length (copy ∷ copies))

-- the fault of a packet of a known number: it differs from the first copy
abbrev pub repeat_fault : Parameters → Side → FirstCopy → List ℕ → Option ℕ
repeat_fault p side copy bytes = if bytes_eq (redundancy_bytes p side copy.pdu) bytes then None else Some copy_differs

-- the fault of a packet that spells this PDU, by the first copy of its number
abbrev pub number_fault : Parameters → Side → List FirstCopy → List ℕ → RedundancyPdu → Option FirstCopy → Option ℕ
number_fault p side sent bytes pdu (Some copy) = repeat_fault p side copy bytes
number_fault p side sent bytes pdu None = if is_next_number sent pdu.number then None else Some number_gap

-- the same by what its bytes spell
abbrev pub read_fault : Parameters → Side → List FirstCopy → List ℕ → Result RedundancyPdu Fault → Option ℕ
read_fault p side sent bytes (Err fault) = Some fault.number
read_fault p side sent bytes (Ok pdu) = number_fault p side sent bytes pdu (copy_with sent pdu.number)

-- the fault of a packet after those of which this side sent this list: its bytes spell no PDU, or it differs from the
-- first copy of its number, or its number skips some
abbrev pub packet_fault : Parameters → List FirstCopy → Packet → Option ℕ
packet_fault p sent packet = read_fault p packet.side sent packet.payload (decode_of p packet.side packet.payload)
