-- The lengths of payloads.
use Rattle.std.specs.Prelude.{ℕ, Bool, true, ◌==◌}
use Rattle.rasta_pdu.specs.declared.kind.Kind.{Kind}
use Rattle.rasta_pdu.specs.declared.kind.Kind.TheVariants.{ConnectionRequest, ConnectionResponse, RetransmissionRequest}
use Rattle.rasta_pdu.specs.declared.kind.Kind.TheVariants.{RetransmissionResponse, DisconnectionRequest, Heartbeat}
use Rattle.rasta_pdu.specs.declared.kind.Kind.TheVariants.{Data, RetransmittedData}

-- a payload of this kind can have so many bytes
abbrev pub has_payload_length : Kind → ℕ → Bool
has_payload_length ConnectionRequest n = n == 14
has_payload_length ConnectionResponse n = n == 14
has_payload_length RetransmissionRequest n = n == 0
has_payload_length RetransmissionResponse n = n == 0
has_payload_length DisconnectionRequest n = n == 4
has_payload_length Heartbeat n = n == 0
has_payload_length Data n = true
has_payload_length RetransmittedData n = true
