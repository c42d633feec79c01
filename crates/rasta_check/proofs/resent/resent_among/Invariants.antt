use Rattle.std.proofs.Common.{◌≡◌, ◌++◌, drop, filter_map}
use Rattle.rasta_check.specs.Internals.Conveyed.{Rise}
use Rattle.rasta_check.specs.Internals.ResentUnits.{resent_at}
use Rattle.rasta_check.proofs.resent.resent_among.Given as goal

-- what was found so far, and what is among the sights that are left
abbrev pub invariant-loop-sight : goal.invariant-loop-sight
invariant-loop-sight l = Rise l.conveyance.sights.now
    → l.found.items ++ filter_map (resent_at l.conveyance.sights.now) (drop l.sight-index l.conveyance.sights.now)
    ≡ filter_map (resent_at l.conveyance.sights.now) l.conveyance.sights.now
