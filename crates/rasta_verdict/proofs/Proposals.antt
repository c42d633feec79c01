-- What becomes of a capture for which a certificate is proposed, and what a run wrote of it.
use Rattle.std.proofs.Common.{◌≡◌, ◌⊎◌, inl, inr, ℕ, false, List, [], ◌++◌, length, Option, Result, Ok, Err, OnErr, IfOk, ap, refl, subst, sym, ⊎_elim}
use Rattle.std.specs.Prelude.{◌≢◌}
use Rattle.std.specs.Io.KnownBytes.{Consumes}
use Rattle.std.proofs.KnownBytes.{Appends-nil}
use Rattle.rasta_pcap.specs.declared.fault.Fault.{Fault}
use Rattle.rasta_pcap.specs.Fault.{fault_at, no_memory, not_found}
use Rattle.rasta_pcap.specs.Devices.{Writes}
use Rattle.rasta_pcap.specs.Stream.{ReadsSo}
use Rattle.rasta_pdu.specs.Params.{Parameters}
use Rattle.rasta_cert.specs.Certificate.{IsCertificate, Scripts}
use Rattle.rasta_check.specs.Capture.Crossing.{Crossing, IsCrossing}
use Rattle.rasta_check.specs.Capture.Reading.{crossing_of}
use Rattle.rasta_check.specs.Verdict.Report as report
use Rattle.rasta_verdict.specs.declared.verdict.Verdict.{Verdict}
use Rattle.rasta_verdict.specs.declared.verdict.Verdict.TheVariants as verdicts
use Rattle.rasta_verdict.specs.Judged.{IsVerdictByScripts, status_of_verdict, text_of_verdict, told_verdict}
use Rattle.rasta_line.specs.Texts.{refused_line}
use Rattle.rasta_verdict.specs.Proposed as proposed
use Rattle.rasta_verdict.specs.Proposed.{BeginsOutcome, IsOutcome, Telling}
use Rattle.rasta_verdict.specs.Verdict.{explained_text}
use Rattle.rasta_verdict.specs.Decided.{Decides}
use Rattle.rasta_verdict.specs.Decided as decided
use Rattle.rasta_build.specs.Choices.{IsProposalFault, IsUnexplained}
use Rattle.rasta_build.specs.Completeness.{IsComplete}
use Rattle.rasta_check.specs.Capture.SentLists.{FirstCopy}
use Rattle.rasta_check.specs.Verdict.Report.{BothFit}
use Rattle.rasta_check.proofs.Verdict.FileVerdicts.{same_params}
use Rattle.rasta_verdict.proofs.Verdicts.{IsRefusal, Texts, if_ok_map}

-- ---- verdicts

-- how a verdict tells
abbrev pub Outcome : Parameters → List ℕ → Telling → Verdict → Type 0
Outcome p file tell v = IsOutcome tell p file (told_verdict tell v) (status_of_verdict v)

-- both scripts fit what crossed
abbrev pub Fit : Crossing → Scripts → Type 0
Fit k scripts = BothFit k.params (length k.packets) k.client k.server scripts

judged_outcome : (tell : Telling) (p : Parameters) (file : List ℕ) (k : Crossing) (scripts : Scripts) (v : Verdict) → crossing_of p file ≡ Ok k
    → IsCertificate scripts → Fit k scripts → IsVerdictByScripts k scripts v → Outcome p file tell v
judged_outcome tell p file k scripts (verdicts.Unscripted fault) crossed valid fit judged = absurd judged
judged_outcome tell p file k scripts (verdicts.Refused fault certificate) crossed valid fit judged = absurd (judged.1.1 fit)
judged_outcome tell p file k scripts (verdicts.Explained e) crossed valid fit judged =
    subst (λ (j : Crossing). IsOutcome tell p file (tell j e.certificate (report.explained e.report)) 0) (sym judged.0)
    (subst (λ (s : Scripts). IsOutcome tell p file (tell k s (report.explained e.report)) 0) (sym judged.1)
    (proposed.explained k scripts (report.explained e.report) crossed valid judged.2))

abbrev pub Crossed : Crossing → Verdict → Type 0
Crossed k v = (tell : Telling) (p : Parameters) (file : List ℕ) → crossing_of p file ≡ Ok k → Outcome p file tell v

-- what the checker said of scripts that fit
pub judged_stands : (r : Result Verdict Fault) (k : Crossing) (scripts : Scripts) → IsCertificate scripts × Fit k scripts → IfOk r (IsVerdictByScripts k scripts) → IfOk r (Crossed k)
judged_stands r k scripts proposed h = if_ok_map r
    (λ (v : Verdict) (judged : IsVerdictByScripts k scripts v) (tell : Telling) (p : Parameters) (file : List ℕ) (crossed : crossing_of p file ≡ Ok k).
    judged_outcome tell p file k scripts v crossed proposed.0 proposed.1 judged) h

-- the builder's refusal, but for memory, names a place
pub found_none : (c s : List FirstCopy) (fault : Fault) → IsProposalFault c s fault → fault ≢ no_memory → (place : ℕ) × (fault ≡ fault_at not_found place)
found_none c s fault why known = ⊎_elim
    (λ (none : fault ≡ no_memory). absurd (known none))
    (λ (w : IsUnexplained c fault ⊎ IsUnexplained s fault). ⊎_elim
    (λ (a : IsUnexplained c fault). (_, a.3)) (λ (b : IsUnexplained s fault). (_, b.3)) w) why

none_outcome : (tell : Telling) (p : Parameters) (file : List ℕ) (k : Crossing) (fault : Fault) → (place : ℕ) × (fault ≡ fault_at not_found place)
    → crossing_of p file ≡ Ok k → IsOutcome tell p file (refused_line fault) 1
none_outcome tell p file k fault found crossed =
    subst (λ (f : Fault). IsOutcome tell p file (refused_line f) 1) (sym found.1) (proposed.none_found k found.0 crossed)

-- nothing was proposed
pub none_stands : (r : Result Verdict Fault) (k : Crossing) (c s : List FirstCopy) (fault : Fault) → IsProposalFault c s fault → IfOk r (IsRefusal fault) → IfOk r (Crossed k)
none_stands r k c s fault why h = if_ok_map r
    (λ (v : Verdict) (w : IsRefusal fault v). subst (Crossed k) (sym w.0)
    (λ (tell : Telling) (p : Parameters) (file : List ℕ) (crossed : crossing_of p file ≡ Ok k).
    none_outcome tell p file k fault (found_none c s fault why w.1) crossed)) h

-- ---- what is decided

-- of every capture of which this crossed
abbrev pub DecidedOf : Crossing → Verdict → Type 0
DecidedOf k v = (tell : Telling) (p : Parameters) (file : List ℕ) → crossing_of p file ≡ Ok k → Decides p file (told_verdict tell v) (status_of_verdict v)

judged_decides : (k : Crossing) (scripts : Scripts) (v : Verdict) → Fit k scripts → IsVerdictByScripts k scripts v → DecidedOf k v
judged_decides k scripts (verdicts.Unscripted fault) fit judged tell p file crossed = absurd judged
judged_decides k scripts (verdicts.Refused fault certificate) fit judged tell p file crossed = absurd (judged.1.1 fit)
judged_decides k scripts (verdicts.Explained e) fit judged tell p file crossed = λ j same. inl refl

-- scripts that fit are explained
pub judged_decided : (r : Result Verdict Fault) (k : Crossing) (scripts : Scripts) → IsCertificate scripts × Fit k scripts → IfOk r (IsVerdictByScripts k scripts) → IfOk r (DecidedOf k)
judged_decided r k scripts proposed h = if_ok_map r (λ (v : Verdict) (judged : IsVerdictByScripts k scripts v). judged_decides k scripts v proposed.1 judged) h

-- what the builder found none for
none_decides : (k : Crossing) (fault : Fault) (place : ℕ) → fault ≡ fault_at not_found place → IsCrossing k
    → IsComplete k.params k.client k.server (Err fault) → decided.IsUnexplained k.params k.packets (refused_line fault)
none_decides k fault place is crossed complete =
    let told : ◌≡◌ {A = Result Scripts Fault} (Err fault) (Err (fault_at not_found place)) = ap (λ (f : Fault). Err f) is in
    record {
      place = place;
      told = ap refused_line is;
      none = λ rest. complete.finds_none k.packets rest place crossed.sent.client_sent crossed.sent.server_sent told;
      exact = λ n. complete.exact k.packets place n crossed.recorded crossed.sent.client_sent crossed.sent.server_sent crossed.sent.few_packets crossed.sent.few_client crossed.sent.few_server told;
    }

same_crossing : (p : Parameters) (file : List ℕ) (k j : Crossing) → crossing_of p file ≡ Ok k → crossing_of p file ≡ Ok j → k ≡ j
same_crossing p file k j e f = cc

none_decided_of : (k : Crossing) (c s : List FirstCopy) (fault : Fault) (v : Verdict) → IsCrossing k → IsComplete k.params k.client k.server (Err fault)
    → IsProposalFault c s fault → IsRefusal fault v → DecidedOf k v
none_decided_of k c s fault v crossing complete why w tell p file crossed j again =
    let found = found_none c s fault why w.1 in
    let same = same_crossing p file k j crossed again in
    let line : told_verdict tell v ≡ refused_line fault = ap (told_verdict tell) w.0 in
    let here = none_decides k fault found.0 found.1 crossing complete in
    inr (subst (λ (i : Crossing). decided.IsUnexplained p i.packets (told_verdict tell v)) same
    (subst (λ (q : Parameters). decided.IsUnexplained q k.packets (told_verdict tell v)) (same_params p file k crossed)
    (subst (decided.IsUnexplained k.params k.packets) (sym line) here)))

pub none_decided : (r : Result Verdict Fault) (k : Crossing) (c s : List FirstCopy) (fault : Fault) → IsCrossing k → IsComplete k.params k.client k.server (Err fault)
    → IsProposalFault c s fault → IfOk r (IsRefusal fault) → IfOk r (DecidedOf k)
none_decided r k c s fault crossing complete why h = if_ok_map r
    (λ (v : Verdict) (w : IsRefusal fault v). none_decided_of k c s fault v crossing complete why w) h

-- a capture that is refused is not without a fault
pub refused_decides : (p : Parameters) (file : List ℕ) (fault : Fault) (text : List ℕ) (status : ℕ) → crossing_of p file ≡ Err fault → Decides p file text status
refused_decides p file fault text status refused k crossed = absurd (cc)

-- an audit tells a verdict by its text
pub audit_text : (v : Verdict) → told_verdict explained_text v ≡ text_of_verdict v
audit_text (verdicts.Unscripted fault) = refl
audit_text (verdicts.Refused fault certificate) = refl
audit_text (verdicts.Explained e) = refl

-- a verdict that refuses is told by the line of its fault
abbrev pub RefusesBy : Fault → Verdict → Type 0
RefusesBy fault v = (v ≡ verdicts.Unscripted fault) ⊎ ((scripts : Scripts) × (v ≡ verdicts.Refused fault scripts))

pub refusal_is_told : (tell : Telling) (v : Verdict) (fault : Fault) → RefusesBy fault v → refused_line fault ≡ told_verdict tell v
refusal_is_told tell v fault (inl e) = ap (told_verdict tell) (sym e)
refusal_is_told tell v fault (inr e) = ap (told_verdict tell) (sym e.1)

-- its status is 1
pub refusal_has_status : (v : Verdict) (fault : Fault) → RefusesBy fault v → status_of_verdict v ≡ 1
refusal_has_status v fault (inl e) = ap status_of_verdict e
refusal_has_status v fault (inr e) = ap status_of_verdict e.1

-- ---- each file has a text

abbrev SomeText : Parameters → List ℕ → Telling → Type 0
SomeText p file tell = (text : List ℕ) × (status : ℕ) × IsOutcome tell p file text status

by_crossing : (p : Parameters) (file : List ℕ) (tell : Telling) (r : Result Crossing Fault) → crossing_of p file ≡ r → SomeText p file tell
by_crossing p file tell (Err fault) h = (refused_line fault, 1, proposed.capture_refused fault h)
by_crossing p file tell (Ok k) h = (refused_line (fault_at not_found 0), 1, proposed.none_found k 0 h)

-- ---- what a run wrote

-- nothing begins some text
pub nothing_of_outcome : (tell : Telling) (p : Parameters) (input : List ℕ) (oi ni o : Option (List ℕ)) → Consumes oi ni input
    → BeginsOutcome (λ file text status. IsOutcome tell p file text status) oi ni o o
nothing_of_outcome tell p input oi ni o consumed = record {
  input = input;
  met_end = false;
  consumed = consumed;
  at_end = λ h. absurd (cc);
  output = [];
  appended = Appends-nil o;
  holds = λ more h. let some = by_crossing p (input ++ more) tell (crossing_of p (input ++ more)) refl in (some.0, some.0, some.1, some.2, refl);
}

-- a beginning of the text that stands
pub outcome_begun : (IsText : Texts) (P : List ℕ → Type 0) (r : Result ℕ Fault) (text : List ℕ) (status : ℕ) (oi ni oo on : Option (List ℕ)) → ReadsSo P oi ni
    → ((file : List ℕ) → P file → IsText file text status) → Writes r oo on text → OnErr r (BeginsOutcome IsText oi ni oo on)
outcome_begun IsText P (Ok s) text status oi ni oo on read is begun = tt
outcome_begun IsText P (Err f) text status oi ni oo on read is begun = record {
  input = read.bytes;
  met_end = read.met_end;
  consumed = read.consumed;
  at_end = read.at_end;
  output = begun.0;
  appended = begun.2;
  holds = λ more h. (text, begun.1, status, is (read.bytes ++ more) (read.each more h), begun.3);
}
