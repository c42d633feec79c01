use Rattle.std.proofs.Common.{ℕ, List, subst}
use Rattle.rasta_build.proofs.Prelude.{Scripts, IsCertificate, FirstCopy, BothFit}
use Rattle.std.specs.Result.{IfOk}
use Rattle.rasta_build.proofs.proposal.propose.Goals as goal

pub returns-clause-fits : goal.returns-clause-fits
returns-clause-fits c =
    let p = c.args.p.now in
    let answer = c.propose_lists.result in
    subst (λ (n : ℕ). IfOk answer (λ (scripts : Scripts). IsCertificate scripts × BothFit p n c.args.sent.now.client c.args.sent.now.server scripts)) c.len.ensures.value
    (subst (λ (l : List FirstCopy). IfOk answer (λ (scripts : Scripts). IsCertificate scripts × BothFit p c.len.result l c.args.sent.now.server scripts)) c.client.ensures.value
    (subst (λ (l : List FirstCopy). IfOk answer (λ (scripts : Scripts). IsCertificate scripts × BothFit p c.len.result c.client.result.now l scripts)) c.server.ensures.value c.propose_lists.ensures.fits))
