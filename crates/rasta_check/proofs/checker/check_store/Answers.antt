use Rattle.std.proofs.Common.{inl, inr, ⊎_elim}
use Rattle.rasta_check.proofs.Prelude.{MatchResult-weaker}
use Rattle.rasta_check.proofs.Verdict.FileVerdicts.{verdict_is}
use Rattle.rasta_check.proofs.checker.check_store.Goals as goal

pub returns-clause-verdict : goal.returns-clause-verdict
returns-clause-verdict c = rw (c.len.ensures.value, c.client.ensures.value, c.server.ensures.value) at c.check_lists.ensures.verdict

pub returns-clause-fits : goal.returns-clause-fits
returns-clause-fits c = rw (c.len.ensures.value, c.client.ensures.value, c.server.ensures.value) at c.check_lists.ensures.fits

pub returns-clause-exact : goal.returns-clause-exact
returns-clause-exact c = rw (c.len.ensures.value, c.client.ensures.value, c.server.ensures.value) at c.check_lists.ensures.exact

pub returns-clause-of_file : goal.returns-clause-of_file
returns-clause-of_file c file x =
    MatchResult-weaker c.check_lists.result (rw (c.len.ensures.value, c.client.ensures.value, c.server.ensures.value) at c.check_lists.ensures.verdict)
    (λ r e. verdict_is c.args.p.now file c.args.store.now x c.args.certificate.now _ e)
    (λ f why. ⊎_elim (λ e. inl (verdict_is c.args.p.now file c.args.store.now x c.args.certificate.now _ e)) (λ e. inr e) why)
