use Rattle.std.proofs.Common.{◌≡◌, Ok}
use Rattle.rasta_build.proofs.Prelude.{passes}
use Rattle.rasta_build.proofs.proposal.pass_through.Given as goal

-- so many first copies are explained
abbrev pub invariant-loop : goal.invariant-loop
invariant-loop g l = passes l.fn.p (g.S.SentList.content l.client) (g.S.SentList.content l.server) l.counter ≡ Ok l.pass
