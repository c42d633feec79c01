-- The counts with one more record.
use Rattle.std.proofs.Common.{◌≡◌, ◌∙◌, ℕ, ◌+◌, ◌<◌, ◌≤◌, ◌^◌, List, [], ◌∷◌, ◌++◌, length, filter, filter_map, cond, Bool, true, false, Option, None, Some, ap, refl, subst, sym, append-nil, arith}
use Rattle.std.proofs.lemmas.List.{length-append}
use Rattle.std.proofs.lemmas.List.Elements.{filter-append, filter_map-append}
use Rattle.std.specs.List.{cons_option}
use Rattle.rasta_pcap.specs.Capture.{Numbered}
use Rattle.rasta_pdu.specs.Params.{Parameters}
use Rattle.seatmelon_show.specs.declared.choice.Choice.{Choice}
use Rattle.seatmelon_show.specs.declared.counts.Counts.{Counts}
use Rattle.seatmelon_show.specs.Chosen.{is_chosen}
use Rattle.seatmelon_show.specs.Counted.{AreCounts, AreSmall, all_listed, counts_next, counts_past, counts_with}
use Rattle.seatmelon_show.specs.Sighted.{Seen, all_sighted, decoding_of, has_other_code, sighted_in}

-- ---- bounds

option_bound : {B : Type 0} (o : Option B) (zs : List B) (n : ℕ) → length zs ≤ n → length (cons_option o zs) ≤ n + 1
option_bound None zs n h = omega arith
option_bound (Some y) zs n h = omega arith

filter_map_bound : {A B : Type 0} (f : A → Option B) (xs : List A) → length (filter_map f xs) ≤ length xs
filter_map_bound f [] = omega arith
filter_map_bound f (x ∷ xs) = let rest = filter_map_bound f xs in let one = option_bound (f x) (filter_map f xs) (length xs) rest in omega (arith, one)

cond_bound : {A : Type 0} (b : Bool) (x : A) (zs : List A) (n : ℕ) → length zs ≤ n → length (cond b (x ∷ zs) zs) ≤ n + 1
cond_bound true x zs n h = omega arith
cond_bound false x zs n h = omega arith

filter_bound : {A : Type 0} (test : A → Bool) (xs : List A) → length (filter test xs) ≤ length xs
filter_bound test [] = omega arith
filter_bound test (x ∷ xs) = let rest = filter_bound test xs in let one = cond_bound (test x) x (filter test xs) (length xs) rest in omega (arith, one)

module _ (p : Parameters) (c : Choice) (records : List Numbered) where
  pub small : (n : Counts) → AreCounts p c records n → length records < 2 ^ 32 → AreSmall n
  small n h short =
      let sighted = filter_map_bound (sighted_in p) records in
      let listed = filter_bound (is_chosen c) (all_sighted p records) in
      let others = filter_bound (has_other_code p) (all_listed p c records) in
      let a = h.packets in let b = h.listed in let d = h.other_codes in
      (omega (arith, a, sighted, short), omega (arith, b, listed, sighted, short), omega (arith, d, others, listed, sighted, short))

  -- ---- a record that holds nothing

  same-sighted : (r : Numbered) → sighted_in p r ≡ None → all_sighted p (records ++ r ∷ []) ≡ all_sighted p records
  same-sighted r none = filter_map-append (sighted_in p) records (r ∷ []) ∙ ap (λ o. all_sighted p records ++ cons_option o []) none ∙ append-nil _

  pub nothing_more : (r : Numbered) (n : Counts) → sighted_in p r ≡ None → AreCounts p c records n → AreCounts p c (records ++ r ∷ []) n
  nothing_more r n none h =
      let same = sym (same-sighted r none) in record {
        packets = h.packets ∙ ap length same;
        listed = h.listed ∙ ap (λ l. length (filter (is_chosen c) l)) same;
        other_codes = h.other_codes ∙ ap (λ l. length (filter (has_other_code p) (filter (is_chosen c) l))) same;
      }

  -- ---- one that holds a packet

  module _ (r : Numbered) (s : Seen) (some : sighted_in p r ≡ Some s) where
    more-sighted : all_sighted p (records ++ r ∷ []) ≡ all_sighted p records ++ s ∷ []
    more-sighted = filter_map-append (sighted_in p) records (r ∷ []) ∙ ap (λ o. all_sighted p records ++ cons_option o []) some

    more-packets : length (all_sighted p (records ++ r ∷ [])) ≡ length (all_sighted p records) + 1
    more-packets = ap length more-sighted ∙ length-append (all_sighted p records) (s ∷ [])

    more-listed : (b : Bool) → is_chosen c s ≡ b → all_listed p c (records ++ r ∷ []) ≡ all_listed p c records ++ cond b (s ∷ []) []
    more-listed b e = ap (filter (is_chosen c)) more-sighted ∙ filter-append (is_chosen c) (all_sighted p records) (s ∷ [])
        ∙ ap (λ t. all_listed p c records ++ cond t (s ∷ []) []) e

    pub not_listed : (old new : Counts) → is_chosen c s ≡ false → new ≡ counts_past old → AreCounts p c records old → AreCounts p c (records ++ r ∷ []) new
    not_listed old new e is h =
        let same = sym (more-listed false e ∙ append-nil _) in record {
          packets = ap (λ (n : Counts). n.packets) is ∙ ap (λ n. n + 1) h.packets ∙ sym more-packets;
          listed = ap (λ (n : Counts). n.listed) is ∙ h.listed ∙ ap length same;
          other_codes = ap (λ (n : Counts). n.other_codes) is ∙ h.other_codes ∙ ap (λ l. length (filter (has_other_code p) l)) same;
        }

    others_with : (b : Bool) (old : ℕ) → has_other_code p s ≡ b → old ≡ length (filter (has_other_code p) (all_listed p c records)) → is_chosen c s ≡ true
        → cond b (old + 1) old ≡ length (filter (has_other_code p) (all_listed p c (records ++ r ∷ [])))
    others_with true old other h e = ap (λ n. n + 1) h
        ∙ sym (length-append (filter (has_other_code p) (all_listed p c records)) (s ∷ []))
        ∙ ap (λ t. length (filter (has_other_code p) (all_listed p c records) ++ cond t (s ∷ []) [])) (sym other)
        ∙ ap length (sym (filter-append (has_other_code p) (all_listed p c records) (s ∷ [])))
        ∙ ap (λ l. length (filter (has_other_code p) l)) (sym (more-listed true e))
    others_with false old other h e = h
        ∙ ap length (sym (append-nil (filter (has_other_code p) (all_listed p c records))))
        ∙ ap (λ t. length (filter (has_other_code p) (all_listed p c records) ++ cond t (s ∷ []) [])) (sym other)
        ∙ ap length (sym (filter-append (has_other_code p) (all_listed p c records) (s ∷ [])))
        ∙ ap (λ l. length (filter (has_other_code p) l)) (sym (more-listed true e))

    pub is_listed : (old new : Counts) → is_chosen c s ≡ true → new ≡ counts_with old (decoding_of p s) → AreCounts p c records old → AreCounts p c (records ++ r ∷ []) new
    is_listed old new e is h = record {
      packets = ap (λ (n : Counts). n.packets) is ∙ ap (λ n. n + 1) h.packets ∙ sym more-packets;
      listed = ap (λ (n : Counts). n.listed) is ∙ ap (λ n. n + 1) h.listed ∙ sym (length-append (all_listed p c records) (s ∷ [])) ∙ ap length (sym (more-listed true e));
      other_codes = ap (λ (n : Counts). n.other_codes) is ∙ others_with (has_other_code p s) old.other_codes refl h.other_codes e;
    }

  -- ---- either

  packet_next : (r : Numbered) (s : Seen) (some : sighted_in p r ≡ Some s) (b : Bool) (old new : Counts) → is_chosen c s ≡ b → AreCounts p c records old
      → new ≡ cond b (counts_with old (decoding_of p s)) (counts_past old) → AreCounts p c (records ++ r ∷ []) new
  packet_next r s some true old new e h is = is_listed r s some old new e is h
  packet_next r s some false old new e h is = not_listed r s some old new e is h

  record_next : (r : Numbered) (o : Option Seen) (old new : Counts) → sighted_in p r ≡ o → AreCounts p c records old → new ≡ counts_next p c old o → AreCounts p c (records ++ r ∷ []) new
  record_next r None old new e h is = subst (λ n. AreCounts p c (records ++ r ∷ []) n) (sym is) (nothing_more r old e h)
  record_next r (Some s) old new e h is = packet_next r s e (is_chosen c s) old new refl h is

  pub counted_next : (r : Numbered) (old new : Counts) → (AreSmall old → new ≡ counts_next p c old (sighted_in p r)) → AreCounts p c records old → length records < 2 ^ 32
      → AreCounts p c (records ++ r ∷ []) new
  counted_next r old new counted h short = record_next r (sighted_in p r) old new refl h (counted (small old h short))
