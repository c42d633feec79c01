use Rattle.std.proofs.Common.{◌≡◌, drop, filter_map}
use Rattle.rasta_check.specs.Internals.ResentUnits.{resent_at}
use Rattle.rasta_check.proofs.resent.has_resent.Given as goal

-- none is found before the sights that are left
abbrev pub invariant-loop-sight : goal.invariant-loop-sight
invariant-loop-sight l = filter_map (resent_at l.sights) (drop l.sight-index l.sights) ≡ filter_map (resent_at l.sights) l.sights
