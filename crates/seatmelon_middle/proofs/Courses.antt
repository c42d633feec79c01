-- The first copies of a side one by one: its first disconnection request, how many crossed behind a place, and the last.
use Rattle.std.proofs.Common.{◌≡◌, ◌∙◌, ℕ, suc, ◌+◌, ◌-◌, ◌≤◌, List, [], ◌∷◌, ◌++◌, length, take, drop, filter, cond, not, Bool, true, false, slice_get, Option, None, Some, is_some, ap, refl, sym, arith}
use Rattle.std.specs.Prelude.{filter_map}
use Rattle.std.specs.List.{cons_option, last_or}
use Rattle.std.specs.Option.{option_map}
use Rattle.std.proofs.lemmas.List.{length-append, length-take, take_all, take-append-drop}
use Rattle.std.proofs.lemmas.List.Filters.{length-filter_both}
use Rattle.std.proofs.lemmas.List.Elements.{filter-append, filter_map-append}
use Rattle.rasta_pcap.specs.declared.fault.Side.{Side}
use Rattle.rasta_check.specs.Capture.SentLists.{FirstCopy}
use Rattle.rasta_check.proofs.Lists.{take_one_more}
use Rattle.seatmelon_middle.specs.Course.{disconnection_in, first_disconnection, is_behind, latest_among, latest_of}
use Rattle.seatmelon_middle.specs.declared.course.Disconnection.{Disconnection}
use Rattle.seatmelon_middle.specs.declared.course.Latest.{Latest}

-- ---- the first disconnection request

module _ (side : Side) (copies : List FirstCopy) where
  abbrev found_in : List FirstCopy → List Disconnection
  found_in l = filter_map (disconnection_in side) l

  found_more : (i : ℕ) (c : FirstCopy) → slice_get copies i ≡ Some c
      → found_in (take (i + 1) copies) ≡ found_in (take i copies) ++ cons_option (disconnection_in side c) []
  found_more i c at = ap found_in (sym (take_one_more i copies c at)) ∙ filter_map-append (disconnection_in side) (take i copies) (c ∷ [])

  pub none_more : (i : ℕ) (c : FirstCopy) → slice_get copies i ≡ Some c → disconnection_in side c ≡ None → found_in (take i copies) ≡ [] → found_in (take (i + 1) copies) ≡ []
  none_more i c at none before = found_more i c at ∙ ap (λ l. l ++ cons_option (disconnection_in side c) []) before ∙ ap (λ o. cons_option o []) none

  found_here : (i : ℕ) (c : FirstCopy) (d : Disconnection) → slice_get copies i ≡ Some c → disconnection_in side c ≡ Some d → found_in (take i copies) ≡ []
      → first_disconnection side copies ≡ Some d
  found_here i c d at is before =
      let here : found_in (take (i + 1) copies) ≡ d ∷ [] =
      found_more i c at ∙ ap (λ l. l ++ cons_option (disconnection_in side c) []) before ∙ ap (λ o. cons_option o []) is in
      ap (λ l. slice_get (found_in l) 0) (sym (take-append-drop (i + 1) copies))
      ∙ ap (λ l. slice_get l 0) (filter_map-append (disconnection_in side) (take (i + 1) copies) (drop (i + 1) copies) ∙ ap (λ l. l ++ found_in (drop (i + 1) copies)) here)

  pub found : (i : ℕ) (c : FirstCopy) (o : Option Disconnection) → slice_get copies i ≡ Some c → o ≡ disconnection_in side c → is_some o ≡ true → found_in (take i copies) ≡ []
      → o ≡ first_disconnection side copies
  found i c (Some d) at is some before = sym (found_here i c d at (sym is) before)
  found i c None at is some before = absurd cc

  pub none_found : (i : ℕ) → length copies ≤ i → found_in (take i copies) ≡ [] → first_disconnection side copies ≡ None
  none_found i past none = ap (λ l. slice_get (found_in l) 0) (sym (take_all i copies past)) ∙ ap (λ l. slice_get l 0) none

pub not_found : (o : Option Disconnection) → is_some o ≡ false → o ≡ None
not_found None e = refl
not_found (Some d) e = absurd cc

-- ---- how many crossed behind a place

module _ (place : ℕ) (copies : List FirstCopy) (i : ℕ) (c : FirstCopy) (at : slice_get copies i ≡ Some c) where
  behind_by : (b : Bool) → is_behind place c ≡ b
      → length (filter (is_behind place) (take (i + 1) copies)) ≡ length (filter (is_behind place) (take i copies)) + cond b 1 0
  behind_by b e = ap (λ l. length (filter (is_behind place) l)) (sym (take_one_more i copies c at))
      ∙ ap length (filter-append (is_behind place) (take i copies) (c ∷ []))
      ∙ length-append (filter (is_behind place) (take i copies)) (cond (is_behind place c) (c ∷ []) [])
      ∙ ap (λ t. length (filter (is_behind place) (take i copies)) + length (cond t (c ∷ []) [])) e
      ∙ ap (λ n. length (filter (is_behind place) (take i copies)) + n) (one b)
    where
      one : (t : Bool) → length (cond t (c ∷ []) []) ≡ cond t 1 0
      one true = refl
      one false = refl

  pub behind_more : is_behind place c ≡ true → length (filter (is_behind place) (take (i + 1) copies)) ≡ length (filter (is_behind place) (take i copies)) + 1
  behind_more e = behind_by true e

  pub behind_same : is_behind place c ≡ false → length (filter (is_behind place) (take (i + 1) copies)) ≡ length (filter (is_behind place) (take i copies))
  behind_same e = (let same = behind_by false e in omega (arith, same))

-- no more than were looked at
pub behind_most : (place : ℕ) (copies : List FirstCopy) (i : ℕ) → length (filter (is_behind place) (take i copies)) ≤ i
behind_most place copies i =
    let both = length-filter_both (is_behind place) (λ c. not (is_behind place c)) (λ c. refl) (take i copies) in
    let front = length-take i copies in
    omega (arith, both, front)

pub behind_all : (place : ℕ) (copies : List FirstCopy) (i : ℕ) → length copies ≤ i
    → length (filter (is_behind place) (take i copies)) ≡ length (filter (is_behind place) copies)
behind_all place copies i past = ap (λ l. length (filter (is_behind place) l)) (take_all i copies past)

-- ---- the last one

last_from : (o : Option FirstCopy) (c : FirstCopy) (copies : List FirstCopy) → slice_get (c ∷ copies) (length copies) ≡ last_or o (c ∷ copies)
last_from o c [] = refl
last_from o c (d ∷ copies) = last_from (Some c) d copies

pub last_there : (copies : List FirstCopy) (last : ℕ) → suc last ≡ length copies → slice_get copies last ≡ last_or None copies
last_there [] last e = absurd (omega (arith, e))
last_there (c ∷ copies) last e = (let same : last ≡ length copies = omega (arith, e) in ap (slice_get (c ∷ copies)) same ∙ last_from None c copies)

pub none_last : (copies : List FirstCopy) → length copies ≡ 0 → last_or {A = FirstCopy} None copies ≡ None
none_last [] e = refl
none_last (c ∷ copies) e = absurd (omega (arith, e))

pub latest_there : (copies : List FirstCopy) (last : ℕ) (c : FirstCopy) (latest : Latest) → suc last ≡ length copies → slice_get copies last ≡ Some c
    → latest ≡ latest_of c.pdu → Some latest ≡ latest_among copies
latest_there copies last c latest e at is =
    ap (λ (l : Latest). Some l) is ∙ ap (option_map (λ (copy : FirstCopy). latest_of copy.pdu)) (sym at ∙ last_there copies last e)
