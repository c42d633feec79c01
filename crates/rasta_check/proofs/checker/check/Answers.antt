use Rattle.std.proofs.Common.{inl, inr, subst, ⊎_elim}
use Rattle.rasta_check.proofs.Prelude.{MatchResult-weaker, IsCrossing, explained}
use Rattle.std.proofs.lemmas.Result.{IfErr-weaker, on_ok_weaker}
use Rattle.rasta_check.specs.Verdict.Report.{refused}
use Rattle.rasta_check.proofs.Verdict.CallAnswers.{if_ok, err_is, err_match}
use Rattle.rasta_check.proofs.Verdict.FileVerdicts.{verdict_is, explains, exactly, not_explained, headline_is}
use Rattle.rasta_check.proofs.checker.check.Goals as goal

pub returns-in_err-sent-clause-refused : goal.returns-in_err-sent-clause-refused
returns-in_err-sent-clause-refused c =
    err_is c.from_residual.result _ _ c.from_residual.ensures (⊎_elim (λ e. inr e) (λ none. inl (λ x. none x.client x.server x.capture)) c.in_err-sent.ensures.only)

pub returns-in_err-sent-clause-verdict : goal.returns-in_err-sent-clause-verdict
returns-in_err-sent-clause-verdict c =
    err_match c.from_residual.result _ _ _ c.from_residual.ensures (⊎_elim (λ e. inr e) (λ is. inl (refused _ is)) c.in_err-sent.ensures.value)

pub returns : goal.returns
returns c =
    let p = c.args.p.now in
    let file = c.args.file.now in
    let certificate = c.args.certificate.now in
    let k = c.in_ok-sent.sent in
    let x = c.in_ok-sent.ensures.value in
    let h = subst IsCrossing c.sent-2.view_is c.sent-2.invariant in
    record {
      verdict = MatchResult-weaker c.check_sent.result c.check_sent.ensures.verdict (λ r e. verdict_is p file k x certificate _ e)
          (λ f why. ⊎_elim (λ e. inl (verdict_is p file k x certificate _ e)) (λ e. inr e) why);
      explains = on_ok_weaker c.check_sent.result (explains p file k x h certificate) c.check_sent.ensures.fits;
      refused = IfErr-weaker c.check_sent.result _ _ (λ f why. ⊎_elim (λ none. inl (not_explained p file k x h certificate none)) (λ e. inr e) why) c.check_sent.ensures.refused;
      exact = if_ok c.check_sent.result _ _ c.check_sent.ensures.exact (λ r e. exactly p file k x h certificate (explained r) e.0 e.1);
      headline = if_ok c.check_sent.result _ _ c.check_sent.ensures.headline (λ r g records is. headline_is p file k x h (explained r) records is g);
    }
