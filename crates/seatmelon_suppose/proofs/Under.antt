-- What is listed under several fillings.
use Rattle.std.proofs.Common.{◌≡◌, ◌∙◌, ℕ, ◌+◌, ◌<◌, ◌≤◌, List, [], ◌∷◌, ◌++◌, length, map, get_or, take, Some, ap, sym, subst, le_trans, arith}
use Rattle.std.specs.Prelude.{All}
use Rattle.std.proofs.lemmas.List.Elements.{All-weaker}
use Rattle.std.specs.Prelude.{slice_get}
use Rattle.std.specs.List.{take-map}
use Rattle.std.proofs.lemmas.List.{length_push, length-map, length-take, map_push, take_more, take-take}
use Rattle.std.proofs.lemmas.Option.{get_or_from_slice_get, slice_get-get_or, slice_get_within}
use Rattle.rasta_check.proofs.Lists.{all_push}
use Rattle.seatmelon_suppose.specs.Common.{IsUnder}
use Rattle.seatmelon_suppose.specs.Filling.{data_of}
use Rattle.seatmelon_suppose.specs.declared.filling.Filling.{Filling}
use Rattle.seatmelon_suppose.specs.declared.filling.Listed.{Listed}

-- a proof that comes no sooner than that of the message at a place
abbrev NoSooner : List Listed → ℕ → Listed → Type 0
NoSooner listed i t = (l : Listed) → slice_get listed i ≡ Some l → l.proof ≤ t.proof

no-sooner : (listed : List Listed) (x d l : Listed) (n : ℕ) → (get_or listed n d).proof ≤ x.proof → slice_get listed n ≡ Some l → l.proof ≤ x.proof
no-sooner listed x d l n later there = subst (λ (m : Listed). m.proof ≤ x.proof) (get_or_from_slice_get listed n l d there) later

-- one message more
pub under-push : (both listed : List Listed) (x d : Listed) (n : ℕ) → length both ≡ n → n < length listed → x.data ≡ (get_or listed n d).data
    → (get_or listed n d).proof ≤ x.proof → IsUnder both listed → IsUnder (both ++ x ∷ []) listed
under-push both listed x d n count within same later under =
    let size : length (both ++ x ∷ []) ≡ n + 1 = length_push both x ∙ ap (λ k. k + 1) count in
    let pushed : map data_of (both ++ x ∷ []) ≡ map data_of both ++ x.data ∷ [] = map_push data_of both x in
    let next : map data_of (take (n + 1) listed) ≡ map data_of (take n listed) ++ (get_or listed n d).data ∷ [] =
    ap (map data_of) (take_more listed n d within) ∙ map_push data_of (take n listed) (get_or listed n d) in record {
      first = pushed ∙ ap (λ l. l ++ x.data ∷ []) (under.first ∙ ap (λ k. take k (map data_of listed)) count ∙ take-map data_of n listed)
          ∙ ap (λ m. map data_of (take n listed) ++ m ∷ []) same ∙ sym next ∙ sym (take-map data_of (n + 1) listed)
          ∙ ap (λ k. take k (map data_of listed)) (sym size);
      later = λ i t l there here. all_push {P = NoSooner listed} both x (λ i t at l is. under.later i t l at is)
          (λ l is. no-sooner listed x d l n later (ap (slice_get listed) (sym count) ∙ is)) i t there l here;
    }

-- what is listed under what is listed
pub under-length : (new told : List Listed) → IsUnder new told → length new ≤ length told
under-length new told under =
    let a : length (map data_of new) ≡ length new = length-map new data_of in
    let b : length (map data_of told) ≡ length told = length-map told data_of in
    let c = length-take (length new) (map data_of told) in
    let d : length (map data_of new) ≡ length (take (length new) (map data_of told)) = ap length under.first in
    omega (arith, a, b, c, d)

pub under-under : (new told listed : List Listed) → IsUnder new told → IsUnder told listed → IsUnder new listed
under-under new told listed a b =
    let fewer : length new ≤ length told = under-length new told a in record {
      first = a.first ∙ ap (take (length new)) b.first ∙ take-take (length new) (length told) (map data_of listed) fewer;
      later = λ i t l there here.
          (let within : i < length new = slice_get_within new i t there in
          let middle : slice_get told i ≡ Some (get_or told i t) = slice_get-get_or told i t (omega (arith, within, fewer)) in
          le_trans (b.later i (get_or told i t) l middle here) (a.later i t (get_or told i t) there middle));
    }

module _ (by : Filling → List Listed) where
  abbrev UnderAll : List Listed → List Filling → Type 0
  UnderAll told fillings = All (λ f. IsUnder told (by f)) fillings

  pub still-all : (told new : List Listed) (fillings : List Filling) → IsUnder new told → UnderAll told fillings → UnderAll new fillings
  still-all told new fillings under all = All-weaker (λ f. IsUnder told (by f)) (λ f. IsUnder new (by f)) (λ f h. under-under new told (by f) under h) fillings all
