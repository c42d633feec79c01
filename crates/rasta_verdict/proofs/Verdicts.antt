-- Verdicts: what they are, that a capture and a certificate have one, and their texts in parts.
use Rattle.std.proofs.Common.{◌≡◌, ◌⊎◌, ℕ, suc, ◌+◌, ◌-◌, ◌<◌, ◌≤◌, false, List, [], ◌∷◌, ◌++◌, length, drop, get_or, map, Option, Result, Ok, Err, OnErr, IfErr, IfOk, refl, ap, subst, sym, ◌∙◌, ⊎_elim, arith, length-drop}
use Rattle.std.specs.Prelude.{◌≢◌, decimal}
use Rattle.std.specs.List.{flat_map}
use Rattle.std.specs.Io.KnownBytes.{Consumes}
use Rattle.std.proofs.KnownBytes.{Appends-nil}
use Rattle.std.proofs.Math.Seq.{drop-cons}
use Rattle.std.proofs.lemmas.List.{nil_from_length, length-map}
use Rattle.rasta_pcap.specs.declared.fault.Fault.{Fault}
use Rattle.rasta_pcap.specs.declared.fault.Side.{Side}
use Rattle.rasta_pcap.specs.declared.fault.Side.TheVariants.{Client, Server}
use Rattle.rasta_pcap.specs.Fault.{no_memory, write_failed}
use Rattle.rasta_pcap.specs.Devices.{AsWritten, Writes}
use Rattle.rasta_pcap.specs.Stream.{ReadsSo}
use Rattle.rasta_pdu.specs.Params.{Parameters}
use Rattle.rasta_cert.specs.Certificate.{IsCertificate, Scripts, certificate_text}
use Rattle.rasta_cert.proofs.RefusalLemmas.{one_refusal}
use Rattle.rasta_cert.proofs.ScriptLemmas.{certificate_text_injective}
use Rattle.rasta_check.specs.declared.report.Taken.{Taken}
use Rattle.rasta_check.specs.Verdict.Listed.{ListedMessage, listed_of}
use Rattle.rasta_check.specs.Capture.Crossing.{Crossing}
use Rattle.rasta_check.specs.Capture.Reading.{crossing_of}
use Rattle.rasta_check.specs.Verdict.Report.{Explained, IsScriptVerdict}
use Rattle.rasta_check.proofs.Script.Fits.{one_answer}
use Rattle.rasta_line.proofs.Sending.{words_before-append}
use Rattle.rasta_verdict.specs.declared.verdict.Verdict.{Verdict}
use Rattle.rasta_verdict.specs.declared.verdict.Verdict.TheVariants as verdicts
use Rattle.rasta_verdict.specs.Judged.{HasToldRun, status_of_verdict, text_of_verdict}
use Rattle.rasta_line.specs.Texts.{words_before, message_text, refused_line}
use Rattle.rasta_line.specs.Runs.{IsRunFault}
use Rattle.rasta_verdict.specs.RunText.{run_text}
use Rattle.rasta_verdict.specs.Verdict.{BeginsVerdict, IsVerdict, WritesVerdict, capture_refused, certificate_refused, script_refused, explained, explained_line, explained_text, taken_count_line, taken_line, taken_lines, taken_text}

-- ---- texts in parts

pub taken_line-parts : (t : ListedMessage) (front : List ℕ) → front ≡ words_before (decimal t.number ∷ decimal t.data_place ∷ decimal t.proof_place ∷ []) []
    → taken_line t ≡ front ++ (message_text t.message ++ 10 ∷ [])
unfolding taken_line
taken_line-parts t front e =
    words_before-append (decimal t.number ∷ decimal t.data_place ∷ decimal t.proof_place ∷ []) [] (message_text t.message ++ 10 ∷ [])
    ∙ ap (λ (l : List ℕ). l ++ (message_text t.message ++ 10 ∷ [])) (sym e)

pub taken_lines-next : (ts : List Taken) (i : ℕ) (d : Taken) → i < length ts
    → taken_lines (map listed_of (drop i ts)) ≡ taken_line (listed_of (get_or ts i d)) ++ taken_lines (map listed_of (drop (i + 1) ts))
unfolding taken_lines
taken_lines-next ts i d h =
    let one : suc i ≡ i + 1 = omega arith in
    ap (λ (l : List Taken). flat_map taken_line (map listed_of l)) (drop-cons ts i d h)
    ∙ ap (λ (n : ℕ). taken_line (listed_of (get_or ts i d)) ++ flat_map taken_line (map listed_of (drop n ts))) one

pub taken_lines-end : (ts : List Taken) (i : ℕ) → length ts ≤ i → taken_lines (map listed_of (drop i ts)) ≡ []
unfolding taken_lines
taken_lines-end ts i h =
    let none : length ts - i ≡ 0 = omega (arith, h) in
    ap (λ (l : List Taken). flat_map taken_line (map listed_of l)) (nil_from_length (drop i ts) (length-drop i ts ∙ none))

pub taken_text-parts : (side : Side) (ts : List Taken) (line : List ℕ) → line ≡ taken_count_line side (length ts)
    → taken_text side (map listed_of ts) ≡ line ++ taken_lines (map listed_of ts)
unfolding taken_text
taken_text-parts side ts line e =
    ap (λ n. taken_count_line side n ++ taken_lines (map listed_of ts)) (length-map ts listed_of)
    ∙ ap (λ (l : List ℕ). l ++ taken_lines (map listed_of ts)) (sym e)

pub explained_text-parts : (k : Crossing) (scripts : Scripts) (report : Explained) (line : List ℕ) → line ≡ explained_line report.packets
    → explained_text k scripts report ≡ line ++ (run_text k scripts ++ (taken_text Client report.client_taken ++ taken_text Server report.server_taken))
unfolding explained_text
explained_text-parts k scripts report line h = grind arith

-- the same by the lists that are written
pub explained_text-listed : (k : Crossing) (scripts : Scripts) (report : Explained) (line : List ℕ) (client server : List ListedMessage) → line ≡ explained_line report.packets
    → client ≡ report.client_taken → server ≡ report.server_taken
    → explained_text k scripts report ≡ line ++ (run_text k scripts ++ (taken_text Client client ++ taken_text Server server))
explained_text-listed k scripts report line client server e f g =
    explained_text-parts k scripts report line e
    ∙ ap (λ (l : List ListedMessage). line ++ (run_text k scripts ++ (taken_text Client l ++ taken_text Server report.server_taken))) (sym f)
    ∙ ap (λ (l : List ListedMessage). line ++ (run_text k scripts ++ (taken_text Client client ++ taken_text Server l))) (sym g)

-- ---- refusals

pub if_ok_map : {A E : Type 0} {P Q : A → Type 0} (r : Result A E) → ((v : A) → P v → Q v) → IfOk r P → IfOk r Q
if_ok_map (Ok v) f h = f v h
if_ok_map (Err e) f h = tt

abbrev pub IsRefusal : Fault → Verdict → Type 0
IsRefusal fault v = (v ≡ verdicts.Unscripted fault) × (fault ≢ no_memory)

pub refusal_told : (r : Result Verdict Fault) (fault : Fault) → IfOk r (IsRefusal fault) → IfOk r HasToldRun
refusal_told r fault h = if_ok_map r (λ (v : Verdict) (w : IsRefusal fault v). subst HasToldRun (sym w.0) tt) h

-- a fault other than out of memory is the verdict
pub refusal_stands : {F : Type 0} (P : List ℕ → ℕ → Type 0) (r : Result Verdict Fault) (fault : Fault) → IfOk r (IsRefusal fault)
    → F ⊎ (fault ≡ no_memory) → (F → P (refused_line fault) 1) → IfOk r (λ v. P (text_of_verdict v) (status_of_verdict v))
refusal_stands {F = F} P r fault h why stands = if_ok_map r
    (λ (v : Verdict) (w : IsRefusal fault v). subst (λ (z : Verdict). P (text_of_verdict z) (status_of_verdict z)) (sym w.0)
    (⊎_elim (λ (f : F). stands f) (λ (none : fault ≡ no_memory). absurd (w.1 none)) why)) h

pub swapped : {A B : Type 0} → A ⊎ B → B ⊎ A
swapped h = grind arith

-- ---- one verdict

abbrev VerdictWith : Crossing → Scripts → Result Explained Fault → Type 0
VerdictWith k scripts answer = IsScriptVerdict k.params (length k.packets) k.client k.server scripts answer

same_scripts : (certificate : List ℕ) (c d : Scripts) → certificate ≡ certificate_text c → IsCertificate c → certificate ≡ certificate_text d → IsCertificate d → c ≡ d
same_scripts certificate c d e hc f hd = certificate_text_injective c d hc.0 hd.0 (sym e ∙ f)

same_result : (k j : Crossing) (c d : Scripts) (x y : Result Explained Fault) → k ≡ j → c ≡ d → VerdictWith k c x → VerdictWith j d y → x ≡ y
same_result k j c d x y e f g h =
    one_answer j.params (length j.packets) j.client j.server d x y (subst (λ (s : Scripts). VerdictWith j s x) f (subst (λ (q : Crossing). VerdictWith q c x) e g)) h

same_crossing : (p : Parameters) (file : List ℕ) (k j : Crossing) → crossing_of p file ≡ Ok k → crossing_of p file ≡ Ok j → k ≡ j
same_crossing p file k j e f = cc

-- no capture and certificate have two verdicts
pub one_verdict : (p : Parameters) (certificate file s t : List ℕ) (m n : ℕ) → IsVerdict p certificate file s m → IsVerdict p certificate file t n → s ≡ t
one_verdict p certificate file s t m n (capture_refused f e) (capture_refused g h) = (let same : f ≡ g = cc in ap refused_line same)
one_verdict p certificate file s t m n (capture_refused f e) (certificate_refused j g h q) = absurd (cc)
one_verdict p certificate file s t m n (capture_refused f e) (script_refused j d g h a b v) = absurd (cc)
one_verdict p certificate file s t m n (capture_refused f e) (explained j d r h a b v) = absurd (cc)
one_verdict p certificate file s t m n (certificate_refused k f e q) (capture_refused g h) = absurd (cc)
one_verdict p certificate file s t m n (certificate_refused k f e q) (certificate_refused j g h w) = ap refused_line (one_refusal certificate f g q w)
one_verdict p certificate file s t m n (certificate_refused k f e q) (script_refused j d g h a b v) = absurd (q.no_certificate d b a)
one_verdict p certificate file s t m n (certificate_refused k f e q) (explained j d r h a b v) = absurd (q.no_certificate d b a)
one_verdict p certificate file s t m n (script_refused k c f e a b v) (capture_refused g h) = absurd (cc)
one_verdict p certificate file s t m n (script_refused k c f e a b v) (certificate_refused j g h q) = absurd (q.no_certificate c b a)
one_verdict p certificate file s t m n (script_refused k c f e a b v) (script_refused j d g h a' b' v') =
    let same : ◌≡◌ {A = Result Explained Fault} (Err f) (Err g) = same_result k j c d (Err f) (Err g) (same_crossing p file k j e h) (same_scripts certificate c d a b a' b') v v' in
    let fault : f ≡ g = cc in
    ap refused_line fault
one_verdict p certificate file s t m n (script_refused k c f e a b v) (explained j d r h a' b' v') =
    let same : ◌≡◌ {A = Result Explained Fault} (Err f) (Ok r) = same_result k j c d (Err f) (Ok r) (same_crossing p file k j e h) (same_scripts certificate c d a b a' b') v v' in
    absurd (cc)
one_verdict p certificate file s t m n (explained k c q e a b v) (capture_refused g h) = absurd (cc)
one_verdict p certificate file s t m n (explained k c q e a b v) (certificate_refused j g h w) = absurd (w.no_certificate c b a)
one_verdict p certificate file s t m n (explained k c q e a b v) (script_refused j d g h a' b' v') =
    let same : ◌≡◌ {A = Result Explained Fault} (Ok q) (Err g) = same_result k j c d (Ok q) (Err g) (same_crossing p file k j e h) (same_scripts certificate c d a b a' b') v v' in
    absurd (cc)
one_verdict p certificate file s t m n (explained k c q e a b v) (explained j d r h a' b' v') =
    let crossing = same_crossing p file k j e h in
    let scripts = same_scripts certificate c d a b a' b' in
    let same : ◌≡◌ {A = Result Explained Fault} (Ok q) (Ok r) = same_result k j c d (Ok q) (Ok r) crossing scripts v v' in
    let report : q ≡ r = cc in
    ap (λ (z : Crossing). explained_text z c q) crossing ∙ (ap (λ (z : Scripts). explained_text j z q) scripts ∙ ap (λ (z : Explained). explained_text j d z) report)

-- ---- what a run wrote

abbrev pub Texts : Type 1
Texts = List ℕ → List ℕ → ℕ → Type 0

pub verdict_written : (IsText : Texts) (P : List ℕ → Type 0) (r : Result ℕ Fault) (text : List ℕ) (status : ℕ) (oi ni oo on : Option (List ℕ)) → ReadsSo P oi ni
    → ((file : List ℕ) → P file → IsText file text status) → Writes r oo on text → IfOk r (λ s. status ≡ s) → IfOk r (λ s. WritesVerdict IsText s oi ni oo on)
verdict_written IsText P (Err f) text status oi ni oo on read is appended answered = tt
verdict_written IsText P (Ok s) text status oi ni oo on read is appended answered = record {
  input = read.bytes;
  met_end = read.met_end;
  consumed = read.consumed;
  at_end = read.at_end;
  output = text;
  appended = appended;
  holds = λ more h. subst (λ n. IsText (read.bytes ++ more) text n) answered (is (read.bytes ++ more) (read.each more h));
}

pub verdict_begun : (IsText : Texts) (P : List ℕ → Type 0) (r : Result ℕ Fault) (text : List ℕ) (oi ni oo on : Option (List ℕ)) → ReadsSo P oi ni
    → ((file t : List ℕ) (s : ℕ) → P file → IsText file t s → t ≡ text) → Writes r oo on text → OnErr r (BeginsVerdict IsText oi ni oo on)
verdict_begun IsText P (Ok s) text oi ni oo on read one begun = tt
verdict_begun IsText P (Err f) text oi ni oo on read one begun = record {
  input = read.bytes;
  met_end = read.met_end;
  consumed = read.consumed;
  at_end = read.at_end;
  output = begun.0;
  appended = begun.2;
  holds = λ more h t s is. (begun.1, one (read.bytes ++ more) t s (read.each more h) is ∙ begun.3);
}

-- the status 1 of a refusal
pub is_one : (r : Result ℕ Fault) → IfOk r (λ s. s ≡ 1) → IfOk r (λ s. 1 ≡ s)
is_one r h = grind arith

-- nothing begins each text
pub nothing_begun : (IsText : Texts) (input : List ℕ) (oi ni o : Option (List ℕ)) → Consumes oi ni input → BeginsVerdict IsText oi ni o o
nothing_begun IsText input oi ni o consumed = record {
  input = input;
  met_end = false;
  consumed = consumed;
  at_end = λ h. absurd (cc);
  output = [];
  appended = Appends-nil o;
  holds = λ more h t s is. (t, refl);
}

-- where nothing was written
pub still_silent : {T : Type 0} (r : Result ℕ Fault) (out : T) → IfErr r (λ f. (f ≡ write_failed) ⊎ (out ≡ out))
still_silent r out = grind arith

-- a write that failed is a run's fault
pub write_fault : {W : Type 0} (count : W → ℕ) (r : Result ℕ Fault) (old_reads new_reads : ℕ) (old new : W) → AsWritten count r old new
    → IfErr r (λ f. IsRunFault f old_reads new_reads (count old) (count new))
write_fault count r old_reads new_reads old new h = grind arith
