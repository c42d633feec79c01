use Rattle.std.proofs.Common.{◌≡◌, drop}
use Rattle.rasta_check.specs.Internals.ResentUnits.{first_settled}
use Rattle.rasta_check.proofs.resent.first_proof.Given as goal

-- the proof is the first of the confirmations that are left
abbrev pub invariant-loop-settlement : goal.invariant-loop-settlement
invariant-loop-settlement l = first_settled l.resent (drop l.settlement-index l.settlements) ≡ first_settled l.resent l.settlements
