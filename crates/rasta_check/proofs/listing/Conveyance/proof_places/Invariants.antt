use Rattle.std.proofs.Common.{◌≡◌, [], drop}
use Rattle.rasta_check.specs.Internals.Conveyed.{Rise, proofs_by}
use Rattle.rasta_check.proofs.listing.Conveyance.proof_places.Given as goal

-- the places so far, and those that the confirmations that are left add
abbrev pub invariant-loop-confirmation : goal.invariant-loop-confirmation
invariant-loop-confirmation l = Rise l.self.sights.now
    → proofs_by l.base l.self.sights.now l.places.items (drop l.confirmation-index l.confirmations) ≡ proofs_by l.base l.self.sights.now [] l.confirmations
