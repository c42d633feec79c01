-- Whether a record holds a packet of one of the connections.
use Rattle.std.proofs.Common.{◌≡◌, ◌∙◌, ◌⊎◌, inr, ⊎_elim, ℕ, zero, suc, ◌<◌, ◌≤◌, List, [], ◌∷◌, length, get_or, slice_get, Bool, true, false, ◌||◌, nat_lt, Option, None, Some, Ok, ap, refl, sym, subst, arith}
use Rattle.std.proofs.lemmas.List.{length-map}
use Rattle.std.proofs.lemmas.Option.{slice_get_within}
use Rattle.std.specs.List.{list_any}
use Rattle.rasta_pcap.specs.declared.time.CaptureTime.{CaptureTime}
use Rattle.rasta_pcap.specs.Capture.{Numbered}
use Rattle.rasta_pcap.specs.Captured.{Captured}
use Rattle.rasta_udp.specs.Frame.{packet_in}
use Rattle.rasta_pdu.specs.Params.{Parameters}
use Rattle.rasta_check.proofs.Lists.{slice_get_some}
use Rattle.seatmelon_audit.specs.Lines.{AreLines, HaveTaken, HeldAt, IsStepAt, TellsAny, TellsHeld, params_of}
use Rattle.seatmelon_audit.specs.Records.{is_held}
use Rattle.seatmelon_audit.specs.Ways.{IsNamed, NamesAll}
use Rattle.seatmelon_audit.specs.declared.line.Line.{Line}
use Rattle.seatmelon_audit.specs.declared.ways.Way.{Way}
use Rattle.seatmelon_audit.proofs.Places.{elsewhere, less_or_not, params_at, same_at, same_count, same_or_other, same_some}
use Rattle.seatmelon_audit.proofs.Steps.{and_false, none_found}

-- ---- one of a list

or_here : (a b : Bool) → a ≡ true → (a || b) ≡ true
or_here true b e = refl
or_here false b e = absurd cc

or_later : (a b : Bool) → b ≡ true → (a || b) ≡ true
or_later true b e = refl
or_later false b e = e

or_none : (a b : Bool) → a ≡ false → b ≡ false → (a || b) ≡ false
or_none true b e f = absurd cc
or_none false b e f = f

any_some : (P : Parameters → Bool) (ps : List Parameters) (i : ℕ) (p : Parameters) → slice_get ps i ≡ Some p → P p ≡ true → list_any P ps ≡ true
any_some P [] i p e h = absurd cc
any_some P (x ∷ xs) zero p e h = or_here (P x) (list_any P xs) (ap P (same_some x p e) ∙ h)
any_some P (x ∷ xs) (suc i) p e h = or_later (P x) (list_any P xs) (any_some P xs i p e h)

any_none : (P : Parameters → Bool) (ps : List Parameters) → ((i : ℕ) (p : Parameters) → slice_get ps i ≡ Some p → P p ≡ false) → list_any P ps ≡ false
any_none P [] h = refl
any_none P (x ∷ xs) h = or_none (P x) (list_any P xs) (h 0 x refl) (any_none P xs (λ i p e. h (suc i) p e))

-- ---- one connection more has taken the record in

other_answer : (x : Bool) → x ≡ true → x ≡ false → ⊥
other_answer true e f = absurd cc
other_answer false e f = absurd cc

module _ (place : ℕ) (first old new : List Line) (r : Numbered) (time : Option CaptureTime) (x : Bool) (same : params_of old ≡ params_of first)
    (step : IsStepAt place old new r time) (answer : HeldAt place old r x) where
  pub held_now : x ≡ true → TellsHeld true first new r
  held_now yes_held = ⊎_elim
      (λ (inside : place < length old).
      let d = (slice_get_some old place inside).0 in
      let line = get_or old place d in
      let once = answer.here d inside in ⊎_elim
      (λ (e : line.taken ≡ r.0). absurd (other_answer x yes_held (once.again e)))
      (λ (other : line.taken ≡ r.0 → ⊥). (place, line.params, ap (λ (ps : List Parameters). slice_get ps place) (sym same) ∙ params_at old place d inside, sym (once.first other) ∙ yes_held))
      (same_or_other line.taken r.0))
      (λ (past : length old ≤ place). absurd (other_answer x yes_held (answer.past past)))
      (less_or_not place (length old))

  still_here : x ≡ false → TellsHeld false first old r → (d : Line) → place < length first
      → ((get_or first place d).taken ≡ r.0) ⊎ (is_held (get_or first place d).params r ≡ false)
  still_here not_held before d inside =
      let within : place < length old = (let size = same_count old first same in omega (arith, inside, size)) in
      let line = get_or old place d in ⊎_elim
      (λ (e : line.taken ≡ r.0). before place d inside e)
      (λ (other : line.taken ≡ r.0 → ⊥). inr (
      ap (λ (p : Parameters). is_held p r) (sym (same_at old first same place d within inside)) ∙ sym ((answer.here d within).first other) ∙ not_held))
      (same_or_other line.taken r.0)

  pub held_still : (held : Bool) → x ≡ false → TellsHeld held first old r → TellsHeld held first new r
  held_still true not_held before = before
  held_still false not_held before = λ i d inside taken. ⊎_elim
      (λ (e : i ≡ place). subst (λ n. ((get_or first n d).taken ≡ r.0) ⊎ (is_held (get_or first n d).params r ≡ false)) (sym e)
      (still_here not_held before d (omega (arith, inside, e))))
      (λ (other : i ≡ place → ⊥). before i d inside (ap (λ (l : Line). l.taken) (sym (elsewhere place old new step i d other)) ∙ taken))
      (same_or_other i place)

  held_by : (y : Bool) → x ≡ y → (held : Bool) → TellsHeld held first old r → TellsHeld (held || y) first new r
  held_by y e true before = before
  held_by true e false before = held_now e
  held_by false e false before = held_still false e before

  pub held_or : (held : Bool) → TellsHeld held first old r → TellsHeld (held || x) first new r
  held_or held before = held_by x refl held before

pub or_true : (a b : Bool) → b ≡ true → (a || b) ≡ true
or_true true b e = refl
or_true false b e = e

pub or_false : (a b : Bool) → b ≡ false → (a || b) ≡ a
or_false true b e = refl
or_false false b e = e

-- ---- all connections

foreign_held : (p : Parameters) (r : Numbered) → packet_in p.channels r.1 ≡ Ok None → is_held p r ≡ false
foreign_held p r none = and_false _ _ (none_found (nat_lt r.0 p.first_record) (packet_in p.channels r.1) r.0 none)

module _ (old new : List Line) (ways : List Way) (r : Numbered) (same : params_of new ≡ params_of old) (taken : HaveTaken ways r.0 new) (names : NamesAll ways (params_of new) r.1) where
  none_held : TellsHeld false old new r → (records : List Captured) → r.0 ≡ suc (length records) → AreLines records old
      → (i : ℕ) (p : Parameters) → slice_get (params_of old) i ≡ Some p → is_held p r ≡ false
  none_held tells records next h i p is =
      let inside : i < length old = (let size = length-map old (λ (l : Line). l.params) in let within = slice_get_within (params_of old) i p is in omega (arith, size, within)) in
      let d = (slice_get_some old i inside).0 in
      let at : (get_or old i d).params ≡ p = same_some _ _ (sym (params_at old i d inside) ∙ is) in
      ⊎_elim
      (λ (named : IsNamed ways i).
      let here : named.0.line ≡ i = named.2 in
      let within : named.0.line < length new = (let size = same_count new old same in omega (arith, here, inside, size)) in
      let took : (get_or new i d).taken ≡ r.0 = ap (λ n. (get_or new n d).taken) (sym here) ∙ taken named.0 d named.1 within in ⊎_elim
      (λ (again : (get_or old i d).taken ≡ r.0). absurd (let few = (h i d inside).taken in omega (arith, again, few, next)))
      (λ (not_held : is_held (get_or old i d).params r ≡ false). ap (λ (q : Parameters). is_held q r) (sym at) ∙ not_held)
      (tells i d inside took))
      (λ (none : packet_in p.channels r.1 ≡ Ok None). foreign_held p r none)
      (names i p (ap (λ (ps : List Parameters). slice_get ps i) same ∙ is))

  pub any_held : (held : Bool) → TellsHeld held old new r → TellsAny held old r
  any_held true tells = λ records next h. sym (any_some (λ (p : Parameters). is_held p r) (params_of old) tells.0 tells.1 tells.2 tells.3)
  any_held false tells = λ records next h. sym (any_none (λ (p : Parameters). is_held p r) (params_of old) (none_held tells records next h))
