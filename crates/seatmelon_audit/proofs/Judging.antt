-- How a connection stands behind a record that is judged.
use Rattle.std.proofs.Common.{◌≡◌, ◌∙◌, ◌⊎◌, inl, inr, List, [], ◌∷◌, ◌++◌, append_assoc, append-nil, cond, Bool, true, false, Option, Some, Ok, Err, ap, sym, subst}
use Rattle.std.proofs.lemmas.List.Sums.{fold-append}
use Rattle.std.specs.Option.{option_map}
use Rattle.std.specs.Prelude.{is_some}
use Rattle.rasta_pcap.specs.declared.time.CaptureTime.{CaptureTime}
use Rattle.rasta_pcap.specs.Capture.{Numbered}
use Rattle.rasta_udp.specs.Frame.{Packet}
use Rattle.rasta_pdu.specs.Params.{Parameters}
use Rattle.rasta_check.specs.Capture.Crossing.{Crossing}
use Rattle.rasta_check.specs.Capture.Reading.{after_record, packet_at}
use Rattle.rasta_check.specs.Middle.Seen.{IsSeen}
use Rattle.rasta_check.specs.declared.shown.Shown.{Shown}
use Rattle.seatmelon_middle.specs.Course.{crossed_course, with_packet}
use Rattle.seatmelon_middle.specs.declared.course.Course.{Course}
use Rattle.seatmelon_audit.specs.Records.{IsJudgedSo, IsNoted, pushed_at, subject_at}
use Rattle.seatmelon_audit.specs.Shown.{IsFollowed, IsShowing}
use Rattle.seatmelon_audit.specs.declared.line.Refusal.{Refusal}
use Rattle.seatmelon_audit.specs.declared.line.Stamp.{Stamp}
use Rattle.seatmelon_audit.specs.declared.line.Standing.{Standing}
use Rattle.seatmelon_audit.specs.declared.line.Standing.TheVariants.{OutOfMemory, Reading, Refused}

module _ (p : Parameters) (k : Crossing) (old new : List Stamp) (r : Numbered) (time : Option CaptureTime) where
  pub pushed_held : is_some (packet_at p r) ≡ true → IsNoted old new r.0 time → pushed_at p old new r time
  pushed_held held noted t timed = noted t timed ∙ ap (λ (b : Bool). old ++ cond b (record { «record» = r.0; time = t } ∷ []) []) (sym held)

  pub pushed_none : is_some (packet_at p r) ≡ false → new ≡ old → pushed_at p old new r time
  pushed_none held same t timed = same ∙ sym (append-nil old) ∙ ap (λ (b : Bool). old ++ cond b (record { «record» = r.0; time = t } ∷ []) []) (sym held)

  -- what crosses was noted
  pub crosses : (s was : Standing) (next : Crossing) → was ≡ Reading → (s ≡ OutOfMemory) ⊎ ((s ≡ was) × IsNoted old new r.0 time) → after_record k r ≡ Ok next → is_some (packet_at p r) ≡ true
      → IsJudgedSo s p k next old new r time
  crosses s was next reading (inl short) after held = subst (λ (t : Standing). IsJudgedSo t p k next old new r time) (sym short) tt
  crosses s was next reading (inr on) after held =
      subst (λ (t : Standing). IsJudgedSo t p k next old new r time) (sym (on.0 ∙ reading)) (after, pushed_held held on.1)

  -- a refusal, behind which its packet was noted
  pub refuses : (s mid : Standing) (refusal : Refusal) (next : Crossing) → (mid ≡ Refused refusal) ⊎ (mid ≡ OutOfMemory) → (s ≡ OutOfMemory) ⊎ ((s ≡ mid) × pushed_at p old new r time)
      → after_record k r ≡ Err refusal.fault → refusal.subject ≡ Some (subject_at r.0 time) → next ≡ k → IsJudgedSo s p k next old new r time
  refuses s mid refusal next refused (inl short) after names same = subst (λ (t : Standing). IsJudgedSo t p k next old new r time) (sym short) tt
  refuses s mid refusal next (inl is) (inr on) after names same =
      subst (λ (t : Standing). IsJudgedSo t p k next old new r time) (sym (on.0 ∙ is)) (after, names, same, on.1)
  refuses s mid refusal next (inr short) (inr on) after names same =
      subst (λ (t : Standing). IsJudgedSo t p k next old new r time) (sym (on.0 ∙ short)) tt

-- nothing is shown where nothing is refused
pub unrefused : {A : Type 0} (s was : Standing) (p : Parameters) (k : Crossing) (packets : List Packet) (shown : Shown) (course : Option Course) → was ≡ Reading
    → (s ≡ OutOfMemory) ⊎ ((s ≡ was) × A) → IsShowing s p k packets shown course
unrefused s was p k packets shown course reading (inl short) = subst (λ (t : Standing). IsShowing t p k packets shown course) (sym short) tt
unrefused s was p k packets shown course reading (inr on) = subst (λ (t : Standing). IsShowing t p k packets shown course) (sym (on.0 ∙ reading)) tt

-- what is shown stays where a packet is noted
pub shown_noted : {A : Type 0} (s was : Standing) (p : Parameters) (k : Crossing) (packets : List Packet) (shown : Shown) (course : Option Course)
    → (s ≡ OutOfMemory) ⊎ ((s ≡ was) × A) → IsShowing was p k packets shown course → IsShowing s p k packets shown course
shown_noted s was p k packets shown course (inl short) h = subst (λ (t : Standing). IsShowing t p k packets shown course) (sym short) tt
shown_noted s was p k packets shown course (inr on) h = subst (λ (t : Standing). IsShowing t p k packets shown course) (sym on.0) h

-- ---- the packets of a connection that is refused

pub followed_first : (p : Parameters) (k : Crossing) (course : Option Course) → course ≡ Some (crossed_course k) → IsFollowed p k k.packets course
followed_first p k course e = record { behind = []; all = sym (append-nil k.packets); goes = e }

followed_more : (p : Parameters) (k : Crossing) (packets : List Packet) (packet : Packet) (old new : Option Course) → new ≡ option_map (λ (c : Course). with_packet p c packet) old
    → IsFollowed p k packets old → IsFollowed p k (packets ++ packet ∷ []) new
followed_more p k packets packet old new is h = record {
  behind = h.behind ++ packet ∷ [];
  all = ap (λ l. l ++ packet ∷ []) h.all ∙ append_assoc k.packets h.behind (packet ∷ []);
  goes = is ∙ ap (λ (o : Option Course). option_map (λ (c : Course). with_packet p c packet) o) h.goes
      ∙ ap (λ (c : Course). Some c) (sym (fold-append (with_packet p) (crossed_course k) h.behind (packet ∷ [])));
}

pub shown_more : (s : Standing) (p : Parameters) (k : Crossing) (packets : List Packet) (packet : Packet) (old new : Shown) (before after : Option Course)
    → (IsSeen p packets old → IsSeen p (packets ++ packet ∷ []) new) → after ≡ option_map (λ (c : Course). with_packet p c packet) before
    → IsShowing s p k packets old before → IsShowing s p k (packets ++ packet ∷ []) new after
shown_more Reading p k packets packet old new before after seen is h = tt
shown_more (Refused refusal) p k packets packet old new before after seen is h = (seen h.0, followed_more p k packets packet before after is h.1)
shown_more OutOfMemory p k packets packet old new before after seen is h = tt

pub shown_short : (s : Standing) (p : Parameters) (k : Crossing) (packets : List Packet) (shown : Shown) (course : Option Course) → s ≡ OutOfMemory → IsShowing s p k packets shown course
shown_short s p k packets shown course short = subst (λ (t : Standing). IsShowing t p k packets shown course) (sym short) tt

-- seen, and then noted
pub seen_noted : {A B : Type 0} (s mid was : Standing) → (mid ≡ was) ⊎ (mid ≡ OutOfMemory) → (s ≡ OutOfMemory) ⊎ ((s ≡ mid) × A) → (A → B) → (s ≡ OutOfMemory) ⊎ ((s ≡ was) × B)
seen_noted s mid was seen (inl short) f = inl short
seen_noted s mid was (inl same) (inr on) f = inr (on.0 ∙ same, f on.1)
seen_noted s mid was (inr short) (inr on) f = inl (on.0 ∙ short)
