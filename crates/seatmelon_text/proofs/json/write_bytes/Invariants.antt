use Rattle.std.proofs.Common.{◌≡◌, ◌≤◌, length}
use Rattle.seatmelon_text.proofs.json.write_bytes.Given as goal

abbrev pub invariant-loop-byte : goal.invariant-loop-byte
invariant-loop-byte g l =
    (length l.room ≡ 256) × (l.len ≤ 256) × (g.W.Sink.failure_count l.writer ≡ g.W.Sink.failure_count l.fn.writer)
