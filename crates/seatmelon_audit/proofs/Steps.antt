-- All connections, with one record more.
use Rattle.std.proofs.Common.{◌≡◌, ◌∙◌, ◌⊎◌, inl, inr, ⊎_elim, ℕ, zero, suc, ◌<◌, ◌≤◌, List, [], ◌∷◌, ◌++◌, length, get_or, cond, Bool, true, false, ◌&&◌, nat_lt, Option, None, Some, Result, Ok, ap, refl, sym, subst, arith}
use Rattle.std.proofs.lemmas.List.Elements.{Contains-push_cases}
use Rattle.std.proofs.lemmas.Option.{slice_get-get_or}
use Rattle.std.specs.List.{Contains}
use Rattle.std.specs.Prelude.{is_some}
use Rattle.rasta_pcap.specs.declared.fault.Fault.{Fault}
use Rattle.rasta_pcap.specs.declared.time.CaptureTime.{CaptureTime}
use Rattle.rasta_pcap.specs.Capture.{Numbered}
use Rattle.rasta_pcap.specs.Captured.{Captured, numbered}
use Rattle.rasta_udp.specs.Frame.{Packet, packet_in}
use Rattle.rasta_pdu.specs.Records.{at_record}
use Rattle.rasta_pdu.specs.Params.{Parameters}
use Rattle.rasta_check.specs.Capture.Building.{crossed_in}
use Rattle.rasta_check.specs.Capture.Crossing.{Crossing}
use Rattle.rasta_check.specs.Capture.Reading.{after_found, after_record, then_crossing, packet_found}
use Rattle.rasta_check.proofs.Lists.{map_at}
use Rattle.seatmelon_audit.specs.Lines.{AllBetween, AllTakeIn, AreBetween, AreLines, HaveTaken, IsBetween, IsLine, IsStep, IsStepAt, params_of}
use Rattle.seatmelon_audit.specs.Ways.{IsNamed, NamesAll}
use Rattle.seatmelon_audit.specs.declared.line.Line.{Line}
use Rattle.seatmelon_audit.specs.declared.ways.Way.{Way}
use Rattle.seatmelon_audit.proofs.Places.{at_changed, elsewhere, length_changed, less_or_not, params_changed, same_or_other}
use Rattle.seatmelon_audit.proofs.Standings.{crossed_behind, crossed_inside, line_same}

abbrev Outcome : Type 0
Outcome = Result Crossing Fault

number_of : (q : Captured) (r : Numbered) → numbered q ≡ r → q.number ≡ r.0
number_of q r e = ap (λ (n : Numbered). n.0) e

-- ---- one connection

between_one : (old new : Line) (r : Numbered) (time : Option CaptureTime) (records : List Captured) (q : Captured) → IsStep old new r time → numbered q ≡ r
    → r.0 ≡ suc (length records) → time ≡ Some q.time → IsBetween records q old → IsBetween records q new
between_one old new r time records q step is next timed between =
    let number = number_of q r is in record {
      after = λ _. ⊎_elim
          (λ (e : old.taken ≡ r.0). subst (IsLine (records ++ q ∷ [])) (sym (step.again e)) (between.after (e ∙ sym number)))
          (λ (other : old.taken ≡ r.0 → ⊥). step.takes other records q is next timed (between.before (λ e. other (e ∙ number))))
          (same_or_other old.taken r.0);
      before = λ other. absurd (other (step.taken ∙ sym number));
    }

-- ---- the connection at a place

module _ (place : ℕ) (old new : List Line) (r : Numbered) (time : Option CaptureTime) (step : IsStepAt place old new r time) where
  pub between_step : AllBetween old new r time
  between_step records q is next timed between i d below =
      let within : i < length old = (let size = length_changed place old new step in omega (arith, below, size)) in
      ⊎_elim
      (λ (e : i ≡ place). let inside : place < length old = omega (arith, within, e) in
      let h = step.here d inside in
      subst (λ n. IsBetween records q (get_or new n d)) (sym e) (subst (IsBetween records q) (sym (at_changed place old new step d inside))
      (between_one (get_or old place d) h.0 r time records q h.2 is next timed (between place d inside))))
      (λ (other : i ≡ place → ⊥). subst (IsBetween records q) (sym (elsewhere place old new step i d other)) (between i d within))
      (same_or_other i place)

  taken_here : (n : ℕ) (d : Line) → n ≡ place → n < length new → (get_or new n d).taken ≡ r.0
  taken_here n d e below =
      let inside : place < length old = (let size = length_changed place old new step in omega (arith, below, e, size)) in
      ap (λ m. (get_or new m d).taken) e ∙ ap (λ (l : Line). l.taken) (at_changed place old new step d inside) ∙ (step.here d inside).2.taken

  taken_still : (n : ℕ) (d : Line) → n < length new → (get_or old n d).taken ≡ r.0 → (get_or new n d).taken ≡ r.0
  taken_still n d below h = ⊎_elim
      (λ (e : n ≡ place). taken_here n d e below)
      (λ (other : n ≡ place → ⊥). ap (λ (l : Line). l.taken) (elsewhere place old new step n d other) ∙ h)
      (same_or_other n place)

  pub taken_step : (ways : List Way) (w : Way) → w.line ≡ place → HaveTaken ways r.0 old → HaveTaken (ways ++ w ∷ []) r.0 new
  taken_step ways w at before v d among below = ⊎_elim
      (λ (earlier : Contains ways v). taken_still v.line d below (before v d earlier (let size = length_changed place old new step in omega (arith, below, size))))
      (λ (same : w ≡ v). taken_here v.line d (ap (λ (x : Way). x.line) (sym same) ∙ at) below)
      (Contains-push_cases ways w v among)

  pub params_step : params_of new ≡ params_of old
  params_step = params_changed place old new step (λ a b h. h.params)

pub between_then : (a b c : List Line) (r : Numbered) (time : Option CaptureTime) → AllBetween a b r time → AllBetween b c r time → AllBetween a c r time
between_then a b c r time first second records q is next timed h = second records q is next timed (first records q is next timed h)

-- ---- all connections

foreign_by : (b : Bool) (k : Crossing) (found : Result (Option Packet) Fault) (number : ℕ) → found ≡ Ok None
    → after_found k number (cond b (Ok None) (at_record number found)) ≡ Ok k
foreign_by true k found number e = refl
foreign_by false k found number e = ap (λ (o : Result (Option Packet) Fault). after_found k number (at_record number o)) e

foreign_record : (k : Crossing) (p : Parameters) (q : Captured) → k.params ≡ p → packet_in p.channels q.bytes ≡ Ok None → after_record k (numbered q) ≡ Ok k
unfolding after_record
foreign_record k p q same none = foreign_by (nat_lt q.number k.params.first_record) k (packet_in k.params.channels q.bytes) q.number
    (ap (λ (x : Parameters). packet_in x.channels q.bytes) same ∙ none)

pub none_found : (b : Bool) (found : Result (Option Packet) Fault) (number : ℕ) → found ≡ Ok None
    → is_some (packet_found (cond b (Ok None) (at_record number found))) ≡ false
none_found true found number e = refl
none_found false found number e = ap (λ (o : Result (Option Packet) Fault). is_some (packet_found (at_record number o))) e

pub and_false : (a b : Bool) → b ≡ false → (a && b) ≡ false
and_false true b e = e
and_false false b e = refl

-- a frame between other hosts changes nothing
foreign_line : (l : Line) (records : List Captured) (q : Captured) → q.number ≡ suc (length records) → packet_in l.params.channels q.bytes ≡ Ok None → IsLine records l
    → IsLine (records ++ q ∷ []) l
foreign_line l records q next none h =
    let p = l.params in
    let k = crossed_in l.builder in
    line_same l records q next
    (λ e. ⊎_elim
    (λ (behind : p.last_record < q.number). crossed_behind p records q next behind ∙ e)
    (λ (inside : q.number ≤ p.last_record). crossed_inside p records q next inside ∙ ap (λ (s : Outcome). then_crossing s (λ (m : Crossing). after_record m (numbered q))) e
    ∙ foreign_record k p q l.recorded none)
    (less_or_not p.last_record q.number))
    (and_false _ _ (none_found (nat_lt q.number p.first_record) (packet_in p.channels q.bytes) q.number none)) h

begin_between : (records : List Captured) (q : Captured) (lines : List Line) → q.number ≡ suc (length records) → AreLines records lines → AreBetween records q lines
begin_between records q lines next h i d below =
    let few = (h i d below).taken in record {
      after = λ e. absurd (omega (arith, e, next, few));
      before = λ _. h i d below;
    }

end_between : (records : List Captured) (q : Captured) (l : Line) → q.number ≡ suc (length records) → IsBetween records q l
    → (l.taken ≡ q.number) ⊎ (packet_in l.params.channels q.bytes ≡ Ok None) → IsLine (records ++ q ∷ []) l
end_between records q l next between (inl taken) = between.after taken
end_between records q l next between (inr none) = ⊎_elim
    (λ (e : l.taken ≡ q.number). between.after e)
    (λ (other : l.taken ≡ q.number → ⊥). foreign_line l records q next none (between.before other))
    (same_or_other l.taken q.number)

pub all_taken : (old new : List Line) (ways : List Way) (r : Numbered) (time : Option CaptureTime) → AllBetween old new r time → HaveTaken ways r.0 new → NamesAll ways (params_of new) r.1
    → AllTakeIn old new r time
all_taken old new ways r time between taken names records q is next timed h i d below =
    let number = number_of q r is in
    let line = get_or new i d in
    let at = map_at (λ (l : Line). l.params) new i line (slice_get-get_or new i d below) in
    end_between records q line (number ∙ next) (between records q is next timed (begin_between records q old (number ∙ next) h) i d below)
    (⊎_elim
    (λ (named : IsNamed ways i). inl (
    let here : named.0.line ≡ i = named.2 in
    ap (λ n. (get_or new n d).taken) (sym here) ∙ taken named.0 d named.1 (omega (arith, here, below)) ∙ sym number))
    (λ (none : packet_in line.params.channels r.1 ≡ Ok None). inr (ap (λ (n : Numbered). packet_in line.params.channels n.1) is ∙ none))
    (names i line.params at))

-- ---- before the first record

pub lines_push : (P : Line → Type 0) (xs : List Line) (l : Line) → ((i : ℕ) (d : Line) → i < length xs → P (get_or xs i d)) → P l
    → (i : ℕ) (d : Line) → i < length (xs ++ l ∷ []) → P (get_or (xs ++ l ∷ []) i d)
lines_push P [] l h last zero d below = last
lines_push P [] l h last (suc i) d below = absurd (omega (arith, below))
lines_push P (x ∷ xs) l h last zero d below = h zero d (omega arith)
lines_push P (x ∷ xs) l h last (suc i) d below = lines_push P xs l (λ j e b. h (suc j) e (omega (arith, b))) last i d (omega (arith, below))
