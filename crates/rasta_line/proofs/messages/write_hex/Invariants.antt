use Rattle.std.proofs.Common.{◌≡◌, length}
use Rattle.hex.specs.Hex.{encode_lower}
use Rattle.rasta_pcap.proofs.Sending.{Sent}
use Rattle.rasta_line.proofs.messages.write_hex.Given as goal

-- the digits of what is left are left, and no write failed
abbrev pub invariant-loop-rest : goal.invariant-loop-rest
invariant-loop-rest g l =
    Sent (encode_lower l.bytes) (encode_lower l.rest) (g.W.Sink.contents l.fn.writer) (g.W.Sink.contents l.writer)
    × (g.W.Sink.failure_count l.writer ≡ g.W.Sink.failure_count l.fn.writer)

abbrev pub decreases-loop-rest : goal.decreases-loop-rest
decreases-loop-rest g l = length l.rest
