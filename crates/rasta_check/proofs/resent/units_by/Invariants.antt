use Rattle.std.proofs.Common.{◌≡◌, ◌++◌, drop, map}
use Rattle.rasta_check.specs.Internals.ResentUnits.{unit_by}
use Rattle.rasta_check.proofs.resent.units_by.Given as goal

-- the units so far, and those that are left
abbrev pub invariant-loop-resent : goal.invariant-loop-resent
invariant-loop-resent l = l.units.items ++ map (unit_by l.settlements) (drop l.resent-index l.resent) ≡ map (unit_by l.settlements) l.resent
