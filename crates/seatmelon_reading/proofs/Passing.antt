-- The steps of the passing of one record.
use Rattle.std.proofs.Common.{◌≡◌, ◌∙◌, ℕ, suc, ◌<◌, ◌≤◌, List, [], ◌∷◌, ◌++◌, length, cond, Bool, true, false, nat_lt, Option, None, Some, Result, Ok, Err, ap, refl, sym, subst, MatchResult, OnErr, OnOk, arith, ◌⊎◌, inl, inr}
use Rattle.std.proofs.lemmas.Bool.Decides.{nat_tests}
use Rattle.std.specs.Option.{ForSome}
use Rattle.rasta_pcap.specs.declared.fault.Fault.{Fault}
use Rattle.rasta_pcap.specs.declared.time.CaptureTime.{CaptureTime}
use Rattle.rasta_pcap.specs.Capture.{Numbered}
use Rattle.rasta_pcap.specs.Captured.{Captured, numbered}
use Rattle.rasta_udp.specs.Frame.{Packet, packet_in}
use Rattle.rasta_pdu.specs.Params.{Parameters}
use Rattle.rasta_pdu.specs.Records.{at_record, recorded_packet}
use Rattle.rasta_check.specs.Capture.Crossing.{Crossing}
use Rattle.rasta_check.specs.Capture.Reading.{after_found, after_record}
use Rattle.seatmelon_reading.specs.Noted.{AreNotes, is_left_out}
use Rattle.seatmelon_reading.proofs.Crossed.{record_params}
use Rattle.seatmelon_reading.specs.Reading.{IsSameBut, after_judged, after_next, standing_with}
use Rattle.seatmelon_reading.specs.Sights.{IsSightOf}
use Rattle.seatmelon_reading.specs.Window.{StandsSo}
use Rattle.seatmelon_reading.specs.declared.capture_refusal.CaptureRefusal.{CaptureRefusal}
use Rattle.seatmelon_reading.specs.declared.window.WindowPlace.{WindowPlace as Place}
use Rattle.seatmelon_reading.specs.declared.window.WindowPlace.TheVariants.{Before, Inside, Behind}
use Rattle.seatmelon_reading.specs.declared.notes.Notes.{Notes}
use Rattle.seatmelon_reading.specs.declared.pass.Pass.{Pass}
use Rattle.seatmelon_reading.specs.declared.sight.Sight.{Sight}

abbrev pub Standing : Type 0
Standing = Result Crossing Fault

abbrev ok : Crossing → Standing
ok k = Ok k

-- ---- where a record stands to the window

pub below : (n m : ℕ) → n < m → nat_lt n m ≡ true
below n m h = grind (arith, nat_tests)

pub from : (n m : ℕ) → m ≤ n → nat_lt n m ≡ false
from n m h = grind (arith, nat_tests)

pub judged_inside : (p : Parameters) (k : Crossing) (r : Numbered) → r.0 ≤ p.last_record → after_judged p (Ok k) r ≡ after_record k r
judged_inside p k r within = ap (λ b. cond b (ok k) (after_record k r)) (from p.last_record r.0 within)

pub judged_behind : (p : Parameters) (k : Crossing) (r : Numbered) → p.last_record < r.0 → after_judged p (Ok k) r ≡ Ok k
judged_behind p k r behind = ap (λ b. cond b (ok k) (after_record k r)) (below p.last_record r.0 behind)

pub judged_before : (p : Parameters) (k : Crossing) (r : Numbered) → k.params ≡ p → p.first_record ≤ p.last_record → r.0 < p.first_record
    → after_judged p (Ok k) r ≡ Ok k
unfolding after_record
judged_before p k r same order before =
    judged_inside p k r (omega arith)
    ∙ ap (λ (b : Bool). after_found k r.0 (cond b (Ok None) (at_record r.0 (packet_in k.params.channels r.1)))) (below r.0 k.params.first_record (subst (λ (q : Parameters). r.0 < q.first_record) (sym same) before))

pub same_either : (b : Bool) (s : Standing) → cond b s s ≡ s
same_either true s = refl
same_either false s = refl

-- ---- one step

pub notes_as : (p q : Parameters) (v w : List ℕ) (records : List Captured) (n : Notes) → p ≡ q → v ≡ w → AreNotes p v records n → AreNotes q w records n
notes_as p q v w records n e f h = subst (λ (x : List ℕ). AreNotes q x records n) f (subst (λ (x : Parameters). AreNotes x v records n) e h)

pub next_as : (p q : Parameters) (v w : List ℕ) (standing : Standing) (r : Numbered) → p ≡ q → v ≡ w → after_next p v standing r ≡ after_next q w standing r
next_as p q v w standing r e f = ap (λ (x : Parameters). after_next x v standing r) e ∙ ap (λ (x : List ℕ). after_next q x standing r) f

-- a time of 0 is none as it was
pub same_flag : {old new : Pass} → IsSameBut old new → new.notes.zero_is_no_time ≡ old.notes.zero_is_no_time
same_flag kept = ap (λ (n : Notes). n.zero_is_no_time) kept.notes

-- what is noted of the next record
abbrev pub NotesNext : Pass → Pass → Numbered → Option CaptureTime → Type 0
NotesNext old new r time = (records : List Captured) (q : Captured) → AreNotes old.params old.without.now records old.notes
    → numbered q ≡ r → q.number ≡ suc (length records) → time ≡ Some q.time → AreNotes old.params old.without.now (records ++ q ∷ []) new.notes

-- where nothing was refused, nothing is told
pub none_refused : (P : CaptureRefusal → Type 0) (k n : Crossing) (o : Option CaptureRefusal) → standing_with k o ≡ Ok n → ForSome o P
none_refused P k n None h = λ r e. absurd cc
none_refused P k n (Some refusal) h = absurd cc

-- ---- where a call answered

pub where_then : {A S P : Type 0} (r : Result A Fault) → (S → P) → OnOk r S → OnOk r P
where_then (Ok x) then s = then s
where_then (Err f) then s = tt

pub where_both : {A S T P : Type 0} (r : Result A Fault) → (S → T → P) → OnOk r S → OnOk r T → OnOk r P
where_both (Ok x) then s t = then s t
where_both (Err f) then s t = tt

-- ---- the notes of the next record

abbrev NotesSo : Notes → Notes → Numbered → Option CaptureTime → Place → Sight → Type 0
NotesSo old new r time place sight = (p : Parameters) (without : List ℕ) (records : List Captured) (q : Captured) → AreNotes p without records old
    → q.number ≡ r.0 → q.number ≡ suc (length records) → time ≡ Some q.time → StandsSo p r.0 place → IsSightOf p without (numbered q) sight
    → AreNotes p without (records ++ q ∷ []) new

pub noted_next : (old mid new : Notes) (p : Parameters) (without : List ℕ) (records : List Captured) (q : Captured) (r : Numbered) (time : Option CaptureTime) (place : Place) (sight : Sight)
    → mid ≡ old → NotesSo mid new r time place sight → StandsSo p r.0 place → IsSightOf p without r sight → AreNotes p without records old → numbered q ≡ r
    → q.number ≡ suc (length records) → time ≡ Some q.time → AreNotes p without (records ++ q ∷ []) new
noted_next old mid new p without records q r time place sight same note stands seen noted is next timed =
    note p without records q (subst (AreNotes p without records) (sym same) noted) (ap (λ (x : Numbered). x.0) is) next timed stands
    (subst (λ (x : Numbered). IsSightOf p without x sight) (sym is) seen)

-- ---- a record of the window

next_stays : (p : Parameters) (without : List ℕ) (standing : Standing) (r : Numbered) → is_left_out without r.0 ≡ false → after_next p without standing r ≡ after_judged p standing r
next_stays p without standing r kept = ap (λ b. cond b standing (after_judged p standing r)) kept

-- one of which this was read
pub judged_read : (p : Parameters) (k : Crossing) (r : Numbered) (found : Result (Option Packet) Fault) → k.params ≡ p → p.first_record ≤ r.0 → r.0 ≤ p.last_record
    → packet_in p.channels r.1 ≡ found → after_record k r ≡ after_found k r.0 (at_record r.0 found)
unfolding after_record
judged_read p k r found same first last read =
    ap (λ (q : Parameters). after_found k r.0 (recorded_packet q r)) same
    ∙ ap (λ (b : Bool). after_found k r.0 (cond b (Ok None) (at_record r.0 (packet_in p.channels r.1)))) (from r.0 p.first_record first)
    ∙ ap (λ o. after_found k r.0 (at_record r.0 o)) read

-- where nothing is refused it is the next
pub next_read : (p : Parameters) (without : List ℕ) (k : Crossing) (refusal : Option CaptureRefusal) (r : Numbered) (found : Result (Option Packet) Fault) → refusal ≡ None → k.params ≡ p
    → is_left_out without r.0 ≡ false → p.first_record ≤ r.0 → r.0 ≤ p.last_record → packet_in p.channels r.1 ≡ found
    → after_next p without (standing_with k refusal) r ≡ after_found k r.0 (at_record r.0 found)
next_read p without k refusal r found none same kept first last read =
    ap (λ o. after_next p without (standing_with k o) r) none ∙ next_stays p without (ok k) r kept ∙ judged_inside p k r last ∙ judged_read p k r found same first last read

-- one without a packet changes nothing
pub next_none : (p : Parameters) (without : List ℕ) (k : Crossing) (refusal : Option CaptureRefusal) (r : Numbered) → k.params ≡ p → is_left_out without r.0 ≡ false
    → p.first_record ≤ r.0 → r.0 ≤ p.last_record → packet_in p.channels r.1 ≡ Ok None → standing_with k refusal ≡ after_next p without (standing_with k refusal) r
next_none p without k None r same kept first last read =
    sym (next_read p without k None r (Ok None) refl same kept first last read)
next_none p without k (Some refusal) r same kept first last read = sym (next_stays p without (Err refusal.fault) r kept)

-- ---- the parameters of what crossed

pub kept_params : {A : Type 0} (p : Parameters) (k n : Crossing) (r : Numbered) (result : Result A Fault) (P : A → Type 0) (Q : Fault → Type 0) → MatchResult result P Q
    → ((x : A) → P x → after_record k r ≡ Ok n) → OnErr result (n ≡ k) → k.params ≡ p → n.params ≡ p
kept_params p k n r (Ok x) P Q value read kept same = record_params k n r (read x value) ∙ same
kept_params p k n r (Err f) P Q value read kept same = ap (λ (c : Crossing). c.params) kept ∙ same

-- ---- a record outside of the window

abbrev pub Outside : Place → Type 0
Outside s = (s ≡ Before) ⊎ (s ≡ Behind)

-- a record outside of the window changes nothing
outside_ok : (p : Parameters) (k : Crossing) (r : Numbered) (s : Place) → k.params ≡ p → p.first_record ≤ p.last_record → Outside s → StandsSo p r.0 s → Ok k ≡ after_judged p (Ok k) r
outside_ok p k r Before same order outside stands = sym (judged_before p k r same order stands)
outside_ok p k r Behind same order outside stands = sym (judged_behind p k r stands.1)
outside_ok p k r Inside same order (inl e) stands = absurd cc
outside_ok p k r Inside same order (inr e) stands = absurd cc

judged_outside : (p : Parameters) (k : Crossing) (refusal : Option CaptureRefusal) (r : Numbered) (s : Place) → k.params ≡ p → p.first_record ≤ p.last_record
    → Outside s → StandsSo p r.0 s → standing_with k refusal ≡ after_judged p (standing_with k refusal) r
judged_outside p k None r s same order outside stands = outside_ok p k r s same order outside stands
judged_outside p k (Some refusal) r s same order outside stands = refl

pub next_outside : (p : Parameters) (without : List ℕ) (k : Crossing) (refusal : Option CaptureRefusal) (r : Numbered) (s : Place) → k.params ≡ p → p.first_record ≤ p.last_record
    → Outside s → StandsSo p r.0 s → standing_with k refusal ≡ after_next p without (standing_with k refusal) r
next_outside p without k refusal r s same order outside stands =
    sym (ap (cond (is_left_out without r.0) (standing_with k refusal)) (sym (judged_outside p k refusal r s same order outside stands))
    ∙ same_either (is_left_out without r.0) (standing_with k refusal))
