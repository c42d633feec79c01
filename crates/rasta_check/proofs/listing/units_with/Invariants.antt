use Rattle.rasta_check.proofs.Middle.ProofPlaces.{AreFirstUnits}
use Rattle.rasta_check.proofs.listing.units_with.Given as goal

-- the units of the data so far
abbrev pub invariant-loop-index : goal.invariant-loop-index
invariant-loop-index l = AreFirstUnits l.data_sights l.places l.index l.units.items
