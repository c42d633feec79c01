use Rattle.std.proofs.Common.{◌≡◌, ◌++◌, drop, map}
use Rattle.rasta_check.specs.Internals.Conveyed.{Rise}
use Rattle.rasta_check.specs.Internals.ResentUnits.{settled_at}
use Rattle.rasta_check.proofs.resent.settlements.Given as goal

-- what was settled so far, and at the confirmations that are left
abbrev pub invariant-loop-confirmation : goal.invariant-loop-confirmation
invariant-loop-confirmation l = Rise l.conveyance.sights.now
    → l.settled.items ++ map (settled_at l.base l.conveyance.sights.now) (drop l.confirmation-index l.confirmations)
    ≡ map (settled_at l.base l.conveyance.sights.now) l.confirmations
