use Rattle.std.proofs.Common.{take}
use Rattle.rasta_check.proofs.Prelude.{IsCrossing}
use Rattle.rasta_check.specs.Middle.Seen.{IsSeen}
use Rattle.rasta_check.proofs.shown.Shown.of_store.Given as goal

-- the packets so far were taken in
abbrev pub invariant-loop-place : goal.invariant-loop-place
invariant-loop-place l = record {
  seen : IsSeen l.store.params (take l.place l.store.packets) l.shown;
  crossing : IsCrossing l.store;
}
