use Rattle.std.proofs.Common.{ℕ, List}
use Rattle.std.specs.Io.KnownBytes.{Appends, Consumes}
use Rattle.seatmelon_cooked.proofs.filling.copy.Given as goal

-- what the source lost is what was written
abbrev pub invariant-loop : goal.invariant-loop
invariant-loop g l = (done : List ℕ) × Consumes (g.S.Source.remaining l.fn.source) (g.S.Source.remaining l.source) done
    × Appends (g.W.Sink.contents l.fn.writer) (g.W.Sink.contents l.writer) done
