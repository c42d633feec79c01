-- Safety codes that are counted, with one record more.
use Rattle.std.proofs.Common.{◌≡◌, ◌∙◌, ℕ, ◌+◌, ◌<◌, ◌≤◌, List, [], ◌∷◌, ◌++◌, length, filter, cond, Bool, true, false, not, ◌&&◌, nat_le, Option, None, Some, Result, Ok, Err, ap, refl, sym, add-zero, append-nil, arith}
use Rattle.std.proofs.lemmas.Bool.Decides.{nat_tests}
use Rattle.std.proofs.lemmas.List.Elements.{All-head, All-tail, filter-append, filter_map-append}
use Rattle.std.specs.List.{cons_option}
use Rattle.rasta_pcap.specs.declared.fault.Fault.{Fault}
use Rattle.rasta_pcap.specs.Captured.{Captured}
use Rattle.rasta_udp.specs.Frame.{Packet, packet_in}
use Rattle.rasta_pdu.specs.Params.{Parameters}
use Rattle.rasta_check.specs.Capture.Reading.{packet_found}
use Rattle.seatmelon_reading.specs.Codes.{code_fit, codes_from, codes_next, codes_of, codes_with, has_fitting, has_judged, is_fitting, is_judged, no_codes, seen_from}
use Rattle.seatmelon_reading.specs.Noted.{Seen, all_seen, is_before, is_inside, is_left_out, seen_by, seen_in, seen_inside}
use Rattle.seatmelon_reading.specs.Told.{AreLower}
use Rattle.seatmelon_reading.specs.declared.code_count.CodeCount.{CodeCount}
use Rattle.seatmelon_reading.specs.declared.code_count.CodeFit.{CodeFit}
use Rattle.seatmelon_reading.specs.declared.code_count.CodeFit.TheVariants.{NotJudged, Wrong, Fits}
use Rattle.seatmelon_reading.proofs.Filters.{length_filter-most, length_filter-push}

-- ---- packets of the connection, with one record more

captured_by : (r : Captured) (s : Seen) (left_out : Bool) (found : Result (Option Packet) Fault) → cond left_out None (seen_by r found) ≡ Some s → s.captured ≡ r
captured_by r s true found e = absurd cc
captured_by r s false (Ok None) e = absurd cc
captured_by r s false (Ok (Some packet)) e = (let same : ◌≡◌ {A = Seen} (record { captured = r; packet = packet }) s = cc in ap (λ (x : Seen). x.captured) (sym same))
captured_by r s false (Err fault) e = absurd cc

-- a packet is seen in its own record
pub captured_of : (p : Parameters) (without : List ℕ) (r : Captured) (s : Seen) → seen_in p without r ≡ Some s → s.captured ≡ r
captured_of p without r s e = captured_by r s (is_left_out without r.number) (packet_in p.channels r.bytes) e

module _ (p : Parameters) (without : List ℕ) (records : List Captured) (q : Captured) where
  pub inside_push : (o : Option Seen) → seen_in p without q ≡ o → seen_inside p without (records ++ q ∷ []) ≡ seen_inside p without records ++ filter (is_inside p) (cons_option o [])
  inside_push o e = ap (filter (is_inside p)) (filter_map-append (seen_in p without) records (q ∷ []) ∙ ap (λ (o : Option Seen). all_seen p without records ++ cons_option o []) e)
      ∙ filter-append (is_inside p) (all_seen p without records) (cons_option o [])

  pub inside_none : seen_in p without q ≡ None → seen_inside p without (records ++ q ∷ []) ≡ seen_inside p without records
  inside_none e = inside_push None e ∙ append-nil _

  pub inside_some : (s : Seen) → seen_in p without q ≡ Some s → is_inside p s ≡ true → seen_inside p without (records ++ q ∷ []) ≡ seen_inside p without records ++ s ∷ []
  inside_some s e inside = inside_push (Some s) e ∙ ap (λ b. seen_inside p without records ++ cond b (s ∷ []) []) inside

  outside_by : (o : Option Seen) → seen_in p without q ≡ o → ((s : Seen) → o ≡ Some s → is_inside p s ≡ false) → seen_inside p without (records ++ q ∷ []) ≡ seen_inside p without records
  outside_by None e outside = inside_none e
  outside_by (Some s) e outside = inside_push (Some s) e ∙ ap (λ b. seen_inside p without records ++ cond b (s ∷ []) []) (outside s refl) ∙ append-nil _

  -- a record outside of the window adds none
  pub inside_outside : ((s : Seen) → s.captured ≡ q → is_inside p s ≡ false) → seen_inside p without (records ++ q ∷ []) ≡ seen_inside p without records
  inside_outside outside = outside_by (seen_in p without q) refl (λ s e. outside s (captured_of p without q s e))

-- ---- counts

abbrev count_of : ℕ → ℕ → CodeCount
count_of judged fitting = record { judged = judged; fitting = fitting }

same_count : (a b c d : ℕ) → a ≡ c → b ≡ d → count_of a b ≡ count_of c d
same_count a b c d first second = ap (λ x. count_of x b) first ∙ ap (count_of c) second

module _ (p : Parameters) (place : ℕ) (seen : List Seen) (s : Seen) where
  abbrev from : List Seen
  from = seen_from place seen

  from_push : (b : Bool) → nat_le place s.captured.number ≡ b → seen_from place (seen ++ s ∷ []) ≡ from ++ cond b (s ∷ []) []
  from_push b e = filter-append (λ (x : Seen). nat_le place x.captured.number) seen (s ∷ []) ∙ ap (λ c. from ++ cond c (s ∷ []) []) e

  judged_push : (fit : CodeFit) → code_fit p s.packet ≡ fit → length (filter (has_judged p) (from ++ s ∷ [])) ≡ length (filter (has_judged p) from) + cond (is_judged fit) 1 0
  judged_push fit e = length_filter-push (has_judged p) from s (is_judged fit) (ap is_judged e)

  fitting_push : (fit : CodeFit) → code_fit p s.packet ≡ fit → length (filter (has_fitting p) (from ++ s ∷ [])) ≡ length (filter (has_fitting p) from) + cond (is_fitting fit) 1 0
  fitting_push fit e = length_filter-push (has_fitting p) from s (is_fitting fit) (ap is_fitting e)

  counted : (fit : CodeFit) → code_fit p s.packet ≡ fit
      → count_of (length (filter (has_judged p) (from ++ s ∷ []))) (length (filter (has_fitting p) (from ++ s ∷ []))) ≡ codes_with (codes_from p place seen) fit
  counted NotJudged e = same_count _ _ _ _ (judged_push NotJudged e ∙ add-zero _) (fitting_push NotJudged e ∙ add-zero _)
  counted Wrong e = same_count _ _ _ _ (judged_push Wrong e) (fitting_push Wrong e ∙ add-zero _)
  counted Fits e = same_count _ _ _ _ (judged_push Fits e) (fitting_push Fits e)

  abbrev count_in : List Seen → CodeCount
  count_in l = count_of (length (filter (has_judged p) l)) (length (filter (has_fitting p) l))

  push_by : (b : Bool) → nat_le place s.captured.number ≡ b → codes_from p place (seen ++ s ∷ []) ≡ cond b (codes_with (codes_from p place seen) (code_fit p s.packet)) (codes_from p place seen)
  push_by true e = ap count_in (from_push true e) ∙ counted (code_fit p s.packet) refl
  push_by false e = ap count_in (from_push false e ∙ append-nil _)

  pub codes_from-push : codes_from p place (seen ++ s ∷ []) ≡ codes_next p place s.captured.number s.packet (codes_from p place seen)
  codes_from-push = push_by (nat_le place s.captured.number) refl

  pub codes_from-most : ((codes_from p place seen).judged ≤ length seen) × ((codes_from p place seen).fitting ≤ length seen)
  codes_from-most =
      let few = length_filter-most (λ (x : Seen). nat_le place x.captured.number) seen in
      let judged = length_filter-most (has_judged p) from in
      let fitting = length_filter-most (has_fitting p) from in
      (omega (arith, few, judged), omega (arith, few, fitting))

-- ---- no packet of a lower record is counted

module _ (p : Parameters) (without : List ℕ) (place : ℕ) where
  from_lower : (s : Seen) (l : List Seen) → s.captured.number < place → seen_from place (s ∷ l) ≡ seen_from place l
  from_lower s l lower = (let e : nat_le place s.captured.number ≡ false = grind (arith, nat_tests, lower) in ap (λ b. cond b (s ∷ seen_from place l) (seen_from place l)) e)

  lower_kept : (b : Bool) (s : Seen) (l : List Seen) → s.captured.number < place → seen_from place l ≡ [] → seen_from place (cond b (s ∷ l) l) ≡ []
  lower_kept true s l lower none = from_lower s l lower ∙ none
  lower_kept false s l lower none = none

  lower_more : (o : Option Seen) (l : List Seen) → ((s : Seen) → o ≡ Some s → s.captured.number < place) → seen_from place (filter (is_inside p) l) ≡ []
      → seen_from place (filter (is_inside p) (cons_option o l)) ≡ []
  lower_more None l lower none = none
  lower_more (Some s) l lower none = lower_kept (is_inside p s) s (filter (is_inside p) l) (lower s refl) none

  abbrev Lower : Captured → Type 0
  Lower r = r.number < place

  lower_none : (records : List Captured) → AreLower place records → seen_from place (seen_inside p without records) ≡ []
  lower_none [] lower = refl
  lower_none (r ∷ records) lower =
      let head = All-head Lower r records lower in
      lower_more (seen_in p without r) (all_seen p without records)
      (λ s e. let same = ap (λ (x : Captured). x.number) (captured_of p without r s e) in omega (arith, same, head))
      (lower_none records (All-tail Lower r records lower))

  pub codes_from-lower : (records : List Captured) → AreLower place records → codes_from p place (seen_inside p without records) ≡ no_codes
  codes_from-lower records lower = ap (λ (l : List Seen). count_of (length (filter (has_judged p) l)) (length (filter (has_fitting p) l))) (lower_none records lower)

-- ---- the packet of the refused record itself

pub inside_at : (p : Parameters) (s : Seen) → p.first_record ≤ s.captured.number → s.captured.number ≤ p.last_record → is_inside p s ≡ true
inside_at p s first last =
    let not_before : is_before p s ≡ false = grind (arith, nat_tests, first) in
    let not_behind : nat_le s.captured.number p.last_record ≡ true = grind (arith, nat_tests, last) in
    ap (λ b. not (is_before p s) && b) not_behind ∙ ap (λ b. not b && true) not_before

module _ (p : Parameters) (without : List ℕ) (records : List Captured) (q : Captured) (lower : AreLower q.number records)
    (stays : is_left_out without q.number ≡ false) (first : p.first_record ≤ q.number) (last : q.number ≤ p.last_record) where
  seen_so : (found : Result (Option Packet) Fault) → packet_in p.channels q.bytes ≡ found → seen_in p without q ≡ seen_by q found
  seen_so found e = ap (λ (b : Bool). cond b None (seen_by q (packet_in p.channels q.bytes))) stays ∙ ap (seen_by q) e

  none_own : seen_in p without q ≡ None → codes_from p q.number (seen_inside p without (records ++ q ∷ [])) ≡ no_codes
  none_own none = ap (codes_from p q.number) (inside_none p without records q none) ∙ codes_from-lower p without q.number records lower

  some_own : (a : Packet) → seen_in p without q ≡ Some (record { captured = q; packet = a })
      → codes_from p q.number (seen_inside p without (records ++ q ∷ [])) ≡ codes_with no_codes (code_fit p a)
  some_own a some =
      let s : Seen = record { captured = q; packet = a } in
      let reached : nat_le q.number q.number ≡ true = grind (arith, nat_tests) in
      ap (codes_from p q.number) (inside_some p without records q s some (inside_at p s first last)) ∙ codes_from-push p q.number (seen_inside p without records) s
      ∙ ap (λ (b : Bool). cond b (codes_with (codes_from p q.number (seen_inside p without records)) (code_fit p a)) (codes_from p q.number (seen_inside p without records))) reached
      ∙ ap (λ (c : CodeCount). codes_with c (code_fit p a)) (codes_from-lower p without q.number records lower)

  own_by : (found : Result (Option Packet) Fault) → packet_in p.channels q.bytes ≡ found
      → codes_from p q.number (seen_inside p without (records ++ q ∷ [])) ≡ codes_of p (packet_found found)
  own_by (Ok None) e = none_own (seen_so (Ok None) e)
  own_by (Ok (Some a)) e = some_own a (seen_so (Ok (Some a)) e)
  own_by (Err fault) e = none_own (seen_so (Err fault) e)

  -- its code alone is counted
  pub codes_from-own : codes_from p q.number (seen_inside p without (records ++ q ∷ [])) ≡ codes_of p (packet_found (packet_in p.channels q.bytes))
  codes_from-own = own_by (packet_in p.channels q.bytes) refl
