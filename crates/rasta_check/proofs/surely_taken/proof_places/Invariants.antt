use Rattle.std.proofs.Common.{◌≡◌, [], drop}
use Rattle.rasta_check.proofs.Prelude.{proofs_from}
use Rattle.rasta_check.proofs.surely_taken.proof_places.Given as goal

-- the places so far, and those that the PDUs that are left add
abbrev pub invariant-loop-position : goal.invariant-loop-position
invariant-loop-position g l =
    proofs_from l.end.state l.places.items (drop l.position (g.S.SentList.content l.peer)) ≡ proofs_from l.end.state [] (g.S.SentList.content l.peer)
