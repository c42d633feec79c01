-- What the checker says of some scripts, and the verdict that follows.
use Rattle.std.proofs.Common.{◌≡◌, ◌⊎◌, ◌∙◌, inl, inr, ℕ, List, length, Result, Ok, Err, MatchResult, OnOk, IfErr, IfOk, ap, refl, subst, sym, ⊎_elim}
use Rattle.rasta_pcap.specs.declared.fault.Fault.{Fault}
use Rattle.rasta_pcap.specs.Fault.{no_memory}
use Rattle.rasta_pdu.specs.Params.{Parameters}
use Rattle.rasta_cert.specs.Certificate.{IsCertificate, Scripts, certificate_text}
use Rattle.rasta_check.specs.declared.report.Report.{Report}
use Rattle.rasta_check.specs.Verdict.Headline.{Headline}
use Rattle.rasta_check.specs.Capture.Crossing.{Crossing, IsCrossing}
use Rattle.rasta_check.specs.Capture.Reading.{crossing_of}
use Rattle.rasta_check.specs.Verdict.Report as report
use Rattle.rasta_check.specs.Verdict.Report.{BothFit, IsScriptVerdict}
use Rattle.rasta_verdict.specs.declared.verdict.Verdict.{Verdict}
use Rattle.rasta_verdict.specs.declared.verdict.Verdict.TheVariants as verdicts
use Rattle.rasta_check.proofs.Verdict.FileVerdicts.{same_params}
use Rattle.rasta_verdict.specs.Claims.{ClaimsHeadline}
use Rattle.rasta_verdict.specs.Judged.{IsChecked, IsVerdictByScripts, status_of_verdict, text_of_verdict}
use Rattle.std.specs.List.{flat_map}
use Rattle.rasta_check.specs.Run.Lines.{Line}
use Rattle.rasta_check.proofs.Run.Simulation.{simulation}
use Rattle.rasta_verdict.specs.RunText.{line_text, run_text}
use Rattle.rasta_verdict.specs.ToldRun.{IsToldRun}
use Rattle.rasta_verdict.specs.Verdict as verdict
use Rattle.rasta_verdict.specs.Verdict.{IsVerdict}
use Rattle.rasta_verdict.proofs.Telling.{fits-told}
use Rattle.rasta_verdict.proofs.Verdicts.{IsRefusal, if_ok_map}

-- what the checker says, by these parameters
abbrev Said : Parameters → Crossing → Scripts → Result report.Explained Fault → Type 0
Said p k scripts answer = IsScriptVerdict p (length k.packets) k.client k.server scripts answer

-- both scripts fit what crossed, by these parameters
abbrev FitBy : Crossing → Scripts → Parameters → Type 0
FitBy k scripts p = BothFit p (length k.packets) k.client k.server scripts

-- scripts that fit tell a run
told_run : (k : Crossing) (scripts : Scripts) → IsCrossing k → FitBy k scripts k.params → IsToldRun k.params k.packets (run_text k scripts)
unfolding run_text
told_run k scripts h fit =
    let r = simulation k.params h.valid.valid k.packets k.client k.server scripts.client scripts.server fit.0.0 fit.1.0 h.recorded h.sent.client_sent h.sent.server_sent fit.0.1 fit.1.1 in
    record { happened = r.0; world = r.1; runs = r.2; sends = r.3; lines = sym (ap (λ (ls : List Line). flat_map line_text ls) r.6) }

-- the checker's answer, by the parameters of what crossed
pub is_checked : (p : Parameters) (k : Crossing) (scripts : Scripts) (r : Result Report Fault) → k.params ≡ p
    → MatchResult r (λ x. Said p k scripts (Ok (report.explained x))) (λ f. Said p k scripts (Err f) ⊎ (f ≡ no_memory))
    → IfErr r (λ f. (FitBy k scripts p → ⊥) ⊎ (f ≡ no_memory)) → OnOk r (FitBy k scripts p) → IfOk r (λ x. Headline p k.packets (report.explained x)) → IsCrossing k → IsChecked k scripts r
is_checked p k scripts (Ok x) same said unfit fits claim crossing = (
  fits-told p k scripts fits.0.0 fits.1.0 fits.0.1 fits.1.1,
  subst (λ (q : Parameters). Said q k scripts (Ok (report.explained x))) (sym same) said,
  subst (λ (q : Parameters). Headline q k.packets (report.explained x)) (sym same) claim,
  told_run k scripts crossing (subst (FitBy k scripts) (sym same) fits),
)
is_checked p k scripts (Err f) same said unfit fits claim crossing = ⊎_elim
    (λ (refused : Said p k scripts (Err f)). ⊎_elim
    (λ (no : FitBy k scripts p → ⊥). inl (subst (λ (q : Parameters). Said q k scripts (Err f)) (sym same) refused, λ fit. no (subst (FitBy k scripts) same fit)))
    (λ (none : f ≡ no_memory). inr none) unfit)
    (λ (none : f ≡ no_memory). inr none) said

abbrev pub Told : Crossing → Scripts → Verdict → Type 0
Told k scripts v = (p : Parameters) (file text : List ℕ) → crossing_of p file ≡ Ok k → text ≡ certificate_text scripts → IsCertificate scripts
    → IsVerdict p text file (text_of_verdict v) (status_of_verdict v)

one : (k : Crossing) (scripts : Scripts) (v : Verdict) → IsVerdictByScripts k scripts v → Told k scripts v
one k scripts (verdicts.Unscripted fault) judged p file text crossed is valid = absurd judged
one k scripts (verdicts.Refused fault certificate) judged p file text crossed is valid = verdict.script_refused k scripts fault crossed is valid judged.1.0
one k scripts (verdicts.Explained e) judged p file text crossed is valid =
    subst (λ (j : Crossing). IsVerdict p text file (verdict.explained_text j e.certificate (report.explained e.report)) 0) (sym judged.0)
    (subst (λ (s : Scripts). IsVerdict p text file (verdict.explained_text k s (report.explained e.report)) 0) (sym judged.1)
    (verdict.explained k scripts (report.explained e.report) crossed is valid judged.2))

-- the verdict on these scripts, of every capture of which this crossed
pub verdict_stands : (r : Result Verdict Fault) (k : Crossing) (scripts : Scripts) → IfOk r (IsVerdictByScripts k scripts) → IfOk r (Told k scripts)
verdict_stands r k scripts h = if_ok_map r (λ (v : Verdict) (judged : IsVerdictByScripts k scripts v). one k scripts v judged) h

-- ---- the headline

-- the verdict's text tells it, of a capture of which this crossed
abbrev pub Claimed : Parameters → List ℕ → Verdict → Type 0
Claimed p file v = ClaimsHeadline p file (text_of_verdict v) (status_of_verdict v)

claim : (p : Parameters) (file : List ℕ) (k : Crossing) (scripts : Scripts) (v : Verdict) → crossing_of p file ≡ Ok k → IsVerdictByScripts k scripts v → Claimed p file v
claim p file k scripts (verdicts.Unscripted fault) crossed judged status = absurd (cc)
claim p file k scripts (verdicts.Refused fault certificate) crossed judged status = absurd (cc)
claim p file k scripts (verdicts.Explained e) crossed judged status = record {
  crossing = e.store.now;
  scripts = e.certificate;
  report = report.explained e.report;
  crossed = crossed ∙ ap (λ (j : Crossing). Ok j) (sym judged.0);
  told = refl;
  run = subst (λ (q : Parameters). IsToldRun q e.store.now.packets (run_text e.store.now e.certificate)) (same_params p file k crossed)
      (subst (λ (j : Crossing). IsToldRun k.params j.packets (run_text j e.certificate)) (sym judged.0)
      (subst (λ (s : Scripts). IsToldRun k.params k.packets (run_text k s)) (sym judged.1) judged.4));
  headline = subst (λ (j : Crossing). Headline p j.packets (report.explained e.report)) (sym judged.0)
      (subst (λ (q : Parameters). Headline q k.packets (report.explained e.report)) (same_params p file k crossed) judged.3);
}

refused_claims : (p : Parameters) (file : List ℕ) (fault : Fault) → Claimed p file (verdicts.Unscripted fault)
refused_claims p file fault status = absurd (cc)

pub refusal_of : (r : Result Verdict Fault) (fault : Fault) → IfOk r (IsRefusal fault) → IfOk r (λ v. v ≡ verdicts.Unscripted fault)
refusal_of r fault h = if_ok_map r (λ (v : Verdict) (w : IsRefusal fault v). w.0) h

-- of every capture of which this crossed
abbrev pub ClaimedOf : Crossing → Verdict → Type 0
ClaimedOf k v = (p : Parameters) (file : List ℕ) → crossing_of p file ≡ Ok k → Claimed p file v

-- what the checker explains has the headline
pub judged_claims : (r : Result Verdict Fault) (k : Crossing) (scripts : Scripts) → IfOk r (IsVerdictByScripts k scripts) → IfOk r (ClaimedOf k)
judged_claims r k scripts h = if_ok_map r
    (λ (v : Verdict) (judged : IsVerdictByScripts k scripts v) (p : Parameters) (file : List ℕ) (crossed : crossing_of p file ≡ Ok k). claim p file k scripts v crossed judged) h

-- a refusal claims nothing
pub refusal_claims : (r : Result Verdict Fault) (k : Crossing) (fault : Fault) → IfOk r (λ v. v ≡ verdicts.Unscripted fault) → IfOk r (ClaimedOf k)
refusal_claims r k fault h = if_ok_map r
    (λ (v : Verdict) (w : v ≡ verdicts.Unscripted fault) (p : Parameters) (file : List ℕ) (crossed : crossing_of p file ≡ Ok k).
    subst (Claimed p file) (sym w) (refused_claims p file fault)) h
