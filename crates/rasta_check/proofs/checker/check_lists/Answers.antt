use Rattle.std.proofs.Common.{Ok, Err, sym, inl, inr, ⊎_elim}
use Rattle.rasta_check.proofs.Prelude.{MatchResult-weaker, explained}
use Rattle.rasta_cert.proofs.ReadingLemmas.{if_ok as where_ok}
use Rattle.rasta_check.proofs.Verdict.CallAnswers.{on_ok, where_err}
use Rattle.rasta_check.proofs.Script.Fits.{is_verdict, verdict_fits, verdict_refuses}
use Rattle.rasta_check.proofs.Verdict.Headline.{headline, is_sharp}
use Rattle.rasta_check.proofs.checker.check_lists.Goals as goal

pub returns : goal.returns
returns g c =
    let p = c.args.p.now in
    let certificate = c.args.certificate.now in
    let client = g.S.SentList.content c.args.client.now in
    let server = g.S.SentList.content c.args.server.now in
    let is = is_verdict p c.args.packets client server certificate in
    let fits = verdict_fits p c.args.packets client server certificate in
    let refuses = verdict_refuses p c.args.packets client server certificate in
    record {
      verdict = MatchResult-weaker c.verdict.result c.verdict.ensures (λ x e. is (Ok (explained x)) e) (λ f why. ⊎_elim (λ e. inl (is (Err f) e)) (λ e. inr e) why);
      fits = on_ok c.verdict.result _ _ _ c.verdict.ensures (λ x e. (fits (explained x) e).0);
      refused = where_err c.verdict.result _ _ _ c.verdict.ensures (λ f why. ⊎_elim (λ e. inl (refuses f e)) (λ e. inr e) why);
      exact = where_ok c.verdict.result _ _ _ c.verdict.ensures (λ x e. fits (explained x) e);
      headline = where_ok c.verdict.result _ _ _ c.verdict.ensures (λ x e w n k. headline p w client server k certificate (explained x) (rw (sym n) at e));
      sharp = where_ok c.verdict.result _ _ _ c.verdict.ensures (λ x e w n k. is_sharp p w client server k certificate (explained x) (rw (sym n) at e));
    }
