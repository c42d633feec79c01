-- What becomes of a connection, by how it stands.
use Rattle.std.proofs.Common.{◌≡◌, ◌≢◌, ◌∙◌, ℕ, suc, List, [], ◌∷◌, ◌++◌, length, map, append-nil, Option, None, Some, Ok, Err, ap, refl, sym, subst, arith, Result}
use Rattle.std.specs.List.{AllZip}
use Rattle.std.specs.Prelude.{IfOk}
use Rattle.rasta_pcap.specs.declared.fault.Fault.{Fault}
use Rattle.rasta_pcap.specs.Captured.{captured_in}
use Rattle.rasta_pcap.specs.Fault.{fault_at, no_memory, not_found}
use Rattle.rasta_udp.specs.Frame.{Packet}
use Rattle.rasta_pdu.specs.Params.{Parameters}
use Rattle.rasta_cert.specs.Certificate.{Scripts}
use Rattle.rasta_build.proofs.Answering.{answer_fault, answer_fits}
use Rattle.rasta_check.specs.Capture.Building.{crossed_in}
use Rattle.rasta_check.specs.Capture.Crossing.{AreSentLists, Crossing, IsCrossing}
use Rattle.rasta_check.specs.Capture.Reading.{crossing_of}
use Rattle.rasta_check.specs.Middle.Seen.{IsSeen}
use Rattle.rasta_check.specs.Verdict.Report.{BothFit, IsScriptVerdict, both_fit}
use Rattle.rasta_check.specs.Verdict.Report as reports
use Rattle.rasta_check.proofs.Script.Fits.{one_answer}
use Rattle.rasta_verdict.specs.declared.verdict.Explanation.{Explanation}
use Rattle.rasta_verdict.specs.declared.verdict.Verdict.TheVariants as verdicts
use Rattle.rasta_verdict.specs.Given.{IsRefusedBy, IsUnscripted, IsVerdictOn, refused, unscripted}
use Rattle.rasta_verdict.proofs.Proposals.{found_none}
use Rattle.seatmelon_middle.specs.Packets.{opens_first}
use Rattle.seatmelon_middle.specs.Course.{crossed_course}
use Rattle.seatmelon_middle.specs.declared.course.Course.{Course}
use Rattle.seatmelon_audit.specs.Answers.{AreCounts, IsAnswer, IsAnswerOf, IsAnswerOn, IsBefore, IsExplained, IsRefusal, IsTold, IsToldOn, IsUnexplained, RefusesBy, capture_refused, packets_in, subject_holding, unexplained}
use Rattle.seatmelon_audit.specs.Audits.{IsConnection, IsConnectionOf}
use Rattle.seatmelon_audit.specs.Facts.{AreNotedIfKnown, CrossedFirst, IsCourseIfKnown, IsCourseOf, IsFacts, ending_place, facts_by, reopening_place, stamp_there}
use Rattle.seatmelon_audit.specs.Files.{AreThrough, StandsThrough}
use Rattle.seatmelon_audit.specs.Lines.{params_of}
use Rattle.seatmelon_audit.specs.Records.{IsStanding, crossed_before, stamps_held, subject_of}
use Rattle.seatmelon_audit.specs.Shown.{IsShowing, IsShownOf, packets_held}
use Rattle.seatmelon_audit.specs.declared.answer.Answer.{Answer}
use Rattle.seatmelon_audit.specs.declared.answer.Answer.TheVariants as answers
use Rattle.seatmelon_audit.specs.declared.answer.Before.{Before}
use Rattle.seatmelon_audit.specs.declared.answer.Before.TheVariants as befores
use Rattle.seatmelon_audit.specs.declared.answer.Connection.{Connection}
use Rattle.seatmelon_audit.specs.declared.answer.Explained.{Explained}
use Rattle.seatmelon_audit.specs.declared.answer.ShownOf.{ShownOf}
use Rattle.seatmelon_audit.specs.declared.facts.Facts.{Facts}
use Rattle.seatmelon_audit.specs.declared.line.Line.{Line}
use Rattle.seatmelon_audit.specs.declared.line.Refusal.{Refusal}
use Rattle.seatmelon_audit.specs.declared.line.Stamp.{Stamp}
use Rattle.seatmelon_audit.specs.declared.line.Standing.{Standing}
use Rattle.seatmelon_audit.specs.declared.line.Standing.TheVariants as standings
use Rattle.seatmelon_audit.proofs.Showing.{crossing_held}

-- ---- the verdict on what crossed

lists_of : (k : Crossing) → IsCrossing k → AreSentLists k.params (length k.packets) k.client k.server
lists_of k h = (k.packets, refl, h)

-- scripts that are proposed aren't refused
never_refused : (k : Crossing) (scripts : Scripts) (fault : Fault) → BothFit k.params (length k.packets) k.client k.server scripts
    → IsScriptVerdict k.params (length k.packets) k.client k.server scripts (Err fault) → ⊥
never_refused k scripts fault fits verdict =
    let same = one_answer k.params (length k.packets) k.client k.server scripts _ _ (both_fit fits) verdict in absurd cc

-- the builder's refusal, but for memory, names a place, and is complete
found_at : (k : Crossing) (fault : Fault) → IsCrossing k → fault ≢ no_memory → IsUnscripted k None fault → IsUnexplained k fault
found_at k fault h known why =
    let found = found_none k.client k.server fault (answer_fault k.params (length k.packets) k.client k.server (Err fault) (lists_of k h) why.0) known in
    let told : ◌≡◌ {A = Result Scripts Fault} (Err fault) (Err (fault_at not_found found.0)) = ap (λ (f : Fault). Err f) found.1 in
    let sent = h.sent in record {
      place = found.0;
      found_none = found.1;
      verdict = why;
      none = λ rest. why.1.finds_none k.packets rest found.0 sent.client_sent sent.server_sent told;
      exact = λ n. why.1.exact k.packets found.0 n h.recorded sent.client_sent sent.server_sent sent.few_packets sent.few_client sent.few_server told;
    }

unexplained_by : (k : Crossing) (fault told : Fault) → IsCrossing k → fault ≢ no_memory → told ≡ fault → IsRefusedBy k None fault → IsUnexplained k told
unexplained_by k fault told h known same (unscripted why) = subst (IsUnexplained k) (sym same) (found_at k fault h known why)
unexplained_by k fault told h known same (refused scripts proposed verdict) =
    absurd (never_refused k scripts fault (answer_fits k.params (length k.packets) k.client k.server (Ok scripts) (lists_of k h) proposed).1 verdict)

pub refused_on : (k : Crossing) (packets : List Stamp) (fault : Fault) (a : Answer) → IsCrossing k → IsRefusedBy k None fault → RefusesBy fault k packets a → IsAnswerOn k packets a
refused_on k packets fault answers.NoPackets h why r = absurd r
refused_on k packets fault (answers.Refused refusal before shown) h why r = (
  unexplained_by k fault refusal.fault h r.0 r.1 why,
  r.2 ∙ ap (λ (f : Fault). subject_holding packets f.place) (sym r.1),
  r.3,
  subst (λ (f : Fault). IsShownOf k.params k.packets f shown) (sym r.1) r.4,
)
refused_on k packets fault (answers.Explained e) h why r = absurd r
refused_on k packets fault answers.OutOfMemory h why r = tt

pub explained_on : (k : Crossing) (e : Explanation) (counts : Explained) → IsCrossing k → IsVerdictOn k None (verdicts.Explained e) → AreCounts k (reports.explained e.report) counts
    → IsExplained k counts
explained_on k e counts h judged counted = record {
  scripts = e.certificate;
  report = reports.explained e.report;
  certificate = (answer_fits k.params (length k.packets) k.client k.server (Ok e.certificate) (lists_of k h) judged.1).0;
  verdict = judged.2;
  counts = counted;
}

-- ---- what crossed before a refusal

front_by : (k : Crossing) (fault : Fault) (packets : ℕ) (before : Before) → IsCrossing k → packets ≡ length k.packets → IsRefusedBy k None fault
    → (fault ≢ no_memory) × (before ≡ befores.Unexplained packets fault) → IsBefore k before
front_by k fault packets before h count why is = subst (IsBefore k) (sym is.1) (count, unexplained_by k fault fault h is.0 refl why)

pub front_refused : {E : Type 0} (k : Crossing) (fault : Fault) (r : Result Before E) (packets : ℕ) → IsCrossing k → packets ≡ length k.packets → IsRefusedBy k None fault
    → IfOk r (λ before. (fault ≢ no_memory) × (before ≡ befores.Unexplained packets fault)) → IfOk r (λ before. IsBefore k before)
front_refused k fault (Ok before) packets h count why is = front_by k fault packets before h count why is
front_refused k fault (Err e) packets h count why is = tt

pub told_on : (refusal : Refusal) (k : Crossing) (p : Parameters) (packets : List Packet) (before : Before) (a : Answer) → IsBefore k before → IsTold refusal before p packets a
    → IsToldOn refusal k p packets a
told_on refusal k p packets before answers.NoPackets is h = absurd h
told_on refusal k p packets before (answers.Refused told known shown) is h = (h.0, subst (IsBefore k) (sym h.1) is, h.2)
told_on refusal k p packets before (answers.Explained e) is h = absurd h
told_on refusal k p packets before answers.OutOfMemory is h = tt

-- ---- a connection

-- what is told of these packets is told of those
told_of_same : (p q : Parameters) (packets held : List Packet) (fault : Fault) (shown : Option ShownOf) → q ≡ p → packets ≡ held → IsShownOf q packets fault shown → IsShownOf p held fault shown
told_of_same p q packets held fault shown same are h =
    subst (λ (x : Parameters). IsShownOf x held fault shown) same (subst (λ l. IsShownOf q l fault shown) are h)

module _ (p : Parameters) (file : List ℕ) where
  abbrev held : List Packet
  held = packets_held p (captured_in file)

  standing_answer : (k : Crossing) (packets : List Stamp) (a : Answer) → crossing_of p file ≡ Ok k → packets ≡ packets_in p file → k.params ≡ p → k.packets ≡ held → IsAnswerOn k packets a
      → IsAnswer p file a
  standing_answer k packets answers.NoPackets crossed noted same are h = (k, crossed, h)
  standing_answer k packets (answers.Refused refusal before shown) crossed noted same are h = (
    unexplained k crossed h.0 (h.1 ∙ ap (λ l. subject_holding l refusal.fault.place) noted) h.2,
    told_of_same p k.params k.packets held refusal.fault shown same are h.3,
  )
  standing_answer k packets (answers.Explained e) crossed noted same are h = (k, crossed, h)
  standing_answer k packets answers.OutOfMemory crossed noted same are h = tt

  told_answer : (refusal : Refusal) (k : Crossing) (a : Answer) → crossing_of p file ≡ Err refusal.fault → refusal.subject ≡ subject_of (captured_in file) refusal.fault.place
      → crossed_before p (captured_in file) refusal.fault ≡ Ok k → IsToldOn refusal k p held a → IsAnswer p file a
  told_answer refusal k answers.NoPackets crossed subject first h = absurd h
  told_answer refusal k (answers.Refused told before shown) crossed subject first h = (
    subst (λ (r : Refusal). IsRefusal p file r before) (sym h.0) (capture_refused k crossed subject first h.1),
    subst (λ (r : Refusal). IsShownOf p held r.fault shown) (sym h.0) h.2,
  )
  told_answer refusal k (answers.Explained e) crossed subject first h = absurd h
  told_answer refusal k answers.OutOfMemory crossed subject first h = tt

abbrev StandsBy : List ℕ → Line → Standing → Type 0
StandsBy file l s = IsStanding s (crossing_of l.params file) (captured_in file) l.params (crossed_in l.builder) l.packets.items

pub read_answer : (l : Line) (a : Answer) → l.standing ≡ standings.Reading
    → (l.opens ≡ opens_first (crossed_in l.builder).params (crossed_in l.builder).packets → IsAnswerOn (crossed_in l.builder) l.packets.items a) → IsAnswerOf l a
read_answer l a reading h file stands =
    let k = crossed_in l.builder in
    let s = subst (StandsBy file l) reading stands.standing in
    let are = crossing_held l file k s.0 in
    let opens : l.opens ≡ opens_first k.params k.packets =
    stands.opens ∙ ap (opens_first l.params) (sym are) ∙ ap (λ (x : Parameters). opens_first x k.packets) (sym l.recorded) in
    standing_answer l.params file k l.packets.items a s.0 s.1 l.recorded are (h opens)

pub refused_answer : (l : Line) (refusal : Refusal) (a : Answer) → l.standing ≡ standings.Refused refusal
    → ((packets : List Packet) → IsSeen l.params packets l.shown → l.opens ≡ opens_first l.params packets → IsToldOn refusal (crossed_in l.builder) l.params packets a) → IsAnswerOf l a
refused_answer l refusal a is h file stands =
    let s = subst (StandsBy file l) is stands.standing in
    let packets = packets_held l.params (captured_in file) in
    let seen = subst (λ (t : Standing). IsShowing t l.params (crossed_in l.builder) packets l.shown l.course) is stands.shown in
    told_answer l.params file refusal (crossed_in l.builder) a s.0 s.1 s.2 (h packets seen.0 stands.opens)

-- ---- its course

pub read_course : (l : Line) (a : Answer) (c : Course) → l.standing ≡ standings.Reading → c ≡ crossed_course (crossed_in l.builder) → IsCourseOf l a (Some c)
read_course l a c reading is file stands =
    let k = crossed_in l.builder in
    let s = subst (StandsBy file l) reading stands.standing in (
      record {
        crossed = k;
        behind = [];
        first = subst (λ (o : Result Crossing Fault). CrossedFirst l.params (captured_in file) o k) (sym s.0) refl;
        all = sym (crossing_held l file k s.0) ∙ sym (append-nil k.packets);
        course = is;
      },
      s.1,
    )

known_noted : (l : Line) (file : List ℕ) (course : Option Course) → l.packets.items ≡ stamps_held l.params (captured_in file) → AreNotedIfKnown l file course
known_noted l file None noted = tt
known_noted l file (Some c) noted = noted

pub refused_course : (l : Line) (refusal : Refusal) (a : Answer) → l.standing ≡ standings.Refused refusal → IsCourseOf l a l.course
refused_course l refusal a is file stands =
    let k = crossed_in l.builder in
    let s = subst (StandsBy file l) is stands.standing in
    let packets = packets_held l.params (captured_in file) in
    let seen = subst (λ (t : Standing). IsShowing t l.params k packets l.shown l.course) is stands.shown in
    let on = seen.1 in (
      subst (IsCourseIfKnown l.params file a) (sym on.goes)
          (record {
            crossed = k;
            behind = on.behind;
            first = subst (λ (o : Result Crossing Fault). CrossedFirst l.params (captured_in file) o k) (sym s.0) s.2;
            all = on.all;
            course = refl;
          }),
      known_noted l file l.course s.3,
    )

-- ---- what is told of it

module _ (l : Line) (file : List ℕ) where
  abbrev all_stamps : List Stamp
  all_stamps = stamps_held l.params (captured_in file)

  ending_same : (course : Option Course) → AreNotedIfKnown l file course → stamp_there l.packets.items (ending_place course) ≡ stamp_there all_stamps (ending_place course)
  ending_same None noted = refl
  ending_same (Some c) noted = ap (λ s. stamp_there s (ending_place (Some c))) noted

  reopening_same : (course : Option Course) → AreNotedIfKnown l file course → stamp_there l.packets.items (reopening_place course) ≡ stamp_there all_stamps (reopening_place course)
  reopening_same None noted = refl
  reopening_same (Some c) noted = ap (λ s. stamp_there s (reopening_place (Some c))) noted

  facts_true : (a : Answer) (course : Option Course) → StandsThrough file l → IsCourseIfKnown l.params file a course → AreNotedIfKnown l file course → IsFacts l.params file a (facts_by l course)
  facts_true a course stands known noted = record {
    first_record = refl;
    last_record = refl;
    quiet_record = refl;
    span = stands.span;
    opens = stands.opens;
    course = known;
    ending = ending_same course noted;
    reopening = reopening_same course noted;
  }

pub connection_told : (l : Line) (a : Answer) (course : Option Course) (f : Facts) → IsAnswerOf l a → IsCourseOf l a course → f ≡ facts_by l course
    → IsConnectionOf l (record { answer = a; facts = f })
connection_told l a course f answered known is file stands =
    let h = known file stands in record {
      answer = answered file stands;
      facts = subst (IsFacts l.params file a) (sym is) (facts_true l file a course stands h.0 h.1);
    }

-- ---- all connections

pub zip_push : {A B : Type 0} (R : A → B → Type 0) (xs : List A) (ys : List B) (x : A) (y : B) → AllZip R xs ys → R x y → AllZip R (xs ++ x ∷ []) (ys ++ y ∷ [])
zip_push R [] [] x y h r = (r, tt)
zip_push R [] (b ∷ ys) x y h r = absurd h
zip_push R (a ∷ xs) [] x y h r = absurd h
zip_push R (a ∷ xs) (b ∷ ys) x y h r = (h.0, zip_push R xs ys x y h.1 r)

pub map_same : {A : Type 0} (xs : List A) → map (λ (x : A). x) xs ≡ xs
map_same [] = refl
map_same (x ∷ xs) = ap (λ l. x ∷ l) (map_same xs)

pub zip_count : {A B : Type 0} (R : A → B → Type 0) (xs : List A) (ys : List B) → AllZip R xs ys → length ys ≡ length xs
zip_count R [] [] h = refl
zip_count R [] (y ∷ ys) h = absurd h
zip_count R (x ∷ xs) [] h = absurd h
zip_count R (x ∷ xs) (y ∷ ys) h = (let rest = zip_count R xs ys h.1 in omega (arith, rest))

pub connections_through : (file : List ℕ) (lines : List Line) (all : List Connection) → AllZip IsConnectionOf lines all → AreThrough file lines
    → AllZip (λ (p : Parameters) (c : Connection). IsConnection p file c) (params_of lines) all
connections_through file [] [] h through = tt
connections_through file [] (c ∷ all) h through = absurd h
connections_through file (l ∷ lines) [] h through = absurd h
connections_through file (l ∷ lines) (c ∷ all) h through =
    (h.0 file (through 0 l (omega arith)), connections_through file lines all h.1 (λ i d inside. through (suc i) d (omega (arith, inside))))
