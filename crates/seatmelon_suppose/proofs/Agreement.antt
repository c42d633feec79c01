-- What is the same in two lists, and under every filling.
use Rattle.std.proofs.Common.{◌≡◌, ◌∙◌, ℕ, ◌<◌, ◌≤◌, ◌⊎◌, Bool, true, false, List, [], ◌∷◌, ◌++◌, length, map, get_or, nat_lt, Any, Option, Some, None, slice_get, ap, sym, refl, subst, arith, inl, inr, ⊎_elim, length-append}
use Rattle.std.specs.Prelude.{All}
use Rattle.std.proofs.lemmas.Bool.{ltb-false, ltb-true}
use Rattle.std.proofs.lemmas.List.{get_or_append_left, get_or_push, length-map, map_push}
use Rattle.std.proofs.lemmas.List.Elements.{All-contains, All-cons, All-from_get_or, All-get_or, All-head, All-nil, All-push, Contains-push}
use Rattle.std.proofs.lemmas.Option.{slice_get-get_or}
use Rattle.rasta_pcap.specs.declared.fault.Side.{Side}
use Rattle.rasta_check.proofs.Lists.{all_push, get_take, map_at, slice_get_some}
use Rattle.seatmelon_suppose.specs.Common.{IsCommon, IsInBoth, IsUnder, data_at, listed_by, proof_at}
use Rattle.seatmelon_suppose.specs.Filling.{data_of, proof_of}
use Rattle.seatmelon_suppose.specs.declared.filling.Filling.{Filling}
use Rattle.seatmelon_suppose.specs.declared.filling.Listed.{Listed}
use Rattle.seatmelon_suppose.proofs.Under.{still-all, under-length}

-- ---- two lists

abbrev pub ProvedIn : List Listed → List Listed → ℕ → ℕ → Type 0
ProvedIn one two i proof = (proof_at i one ≡ Some proof) ⊎ (proof_at i two ≡ Some proof)

proof-at : (l : List Listed) (n : ℕ) (d x : Listed) → n < length l → x.proof ≡ (get_or l n d).proof → proof_at n l ≡ Some x.proof
proof-at l n d x within same = map_at proof_of l n (get_or l n d) (slice_get-get_or l n d within) ∙ ap (λ (m : ℕ). Some m) (sym same)

-- one message more
pub proved-push : (one two both : List Listed) (x d e : Listed) (n : ℕ) → length both ≡ n → n < length one → n < length two
    → (x.proof ≡ (get_or one n d).proof) ⊎ (x.proof ≡ (get_or two n e).proof)
    → ((i proof : ℕ) → proof_at i both ≡ Some proof → ProvedIn one two i proof)
    → (i proof : ℕ) → proof_at i (both ++ x ∷ []) ≡ Some proof → ProvedIn one two i proof
proved-push one two both x d e n count in_one in_two either so_far i proof there =
    let pushed : map proof_of (both ++ x ∷ []) ≡ map proof_of both ++ x.proof ∷ [] = map_push proof_of both x in
    let size : n ≡ length (map proof_of both) = sym (length-map both proof_of ∙ count) in
    let last : ProvedIn one two n x.proof =
    ⊎_elim (λ (a : x.proof ≡ (get_or one n d).proof). inl (proof-at one n d x in_one a)) (λ (b : x.proof ≡ (get_or two n e).proof). inr (proof-at two n e x in_two b)) either in
    all_push {P = ProvedIn one two} (map proof_of both) x.proof so_far (subst (λ k. ProvedIn one two k x.proof) size last) i proof
    (ap (λ l. slice_get l i) (sym pushed) ∙ there)

-- ---- every filling

pub common-one : (s : Side) (f : Filling) (told : List Listed) → IsInBoth (listed_by s f) (listed_by s f) told → IsCommon s (f ∷ []) told
common-one s f told h = record {
  under = All-cons (λ (g : Filling). IsUnder told (listed_by s g)) f [] h.first (All-nil (λ (g : Filling). IsUnder told (listed_by s g)));
  whole = λ some next all. sym (All-head (λ (g : Filling). data_at (length told) (listed_by s g) ≡ next) f [] all) ∙ h.whole refl;
  proved = λ i proof there. (0, f, omega arith, refl, ⊎_elim (λ (a : proof_at i (listed_by s f) ≡ Some proof). a) (λ (b : proof_at i (listed_by s f) ≡ Some proof). b) (h.proved i proof there));
}

any-front : {A : Type 0} (P : A → Type 0) (xs ys : List A) → Any P xs → Any P (xs ++ ys)
any-front P xs ys a = (a.0, a.1, omega (arith, a.2, length-append xs ys), get_or_append_left xs ys a.1 a.0 a.2 ∙ a.3, a.4)

any-last : {A : Type 0} (P : A → Type 0) (xs : List A) (y : A) → P y → Any P (xs ++ y ∷ [])
any-last P xs y holds = (length xs, y, omega (arith, length-append xs (y ∷ [])), get_or_push xs y y (length xs) refl, holds)

all-front : {A : Type 0} (P : A → Type 0) (xs ys : List A) (d : A) → All P (xs ++ ys) → All P xs
all-front P xs ys d all =
    All-from_get_or P xs d (λ i within. subst P (get_or_append_left xs ys d i within) (All-get_or P (xs ++ ys) i d (omega (arith, within, length-append xs ys)) all))

-- what is told is in a list that it stands under
data-under : (told listed : List Listed) (n : ℕ) → IsUnder told listed → n < length told → data_at n told ≡ data_at n listed
data-under told listed n under within =
    let some = slice_get_some told n within in
    let here : data_at n told ≡ Some some.0.data = map_at data_of told n some.0 some.1 in
    let there = get_take (map data_of listed) (length told) n some.0.data (ap (λ l. slice_get l n) (sym under.first) ∙ here) in
    here ∙ sym there.1

module _ (s : Side) (g f : Filling) (more : List Filling) (told new : List Listed) (c : IsCommon s (g ∷ more) told) (b : IsInBoth told (listed_by s f) new) where
  -- this one is next under a filling
  abbrev IsNext : Option ℕ → ℕ → Filling → Type 0
  IsNext next n h = data_at n (listed_by s h) ≡ next

  whole-more : (next : Option ℕ) → All (IsNext next (length new)) ((g ∷ more) ++ f ∷ []) → next ≡ None
  whole-more next all = by (nat_lt (length new) (length told)) refl
    where
      fewer : length new ≤ length told
      fewer = under-length new told b.first

      at_f : IsNext next (length new) f
      at_f = All-contains (IsNext next (length new)) ((g ∷ more) ++ f ∷ []) f all (Contains-push (g ∷ more) f)

      front : All (IsNext next (length new)) (g ∷ more)
      front = all-front (IsNext next (length new)) (g ∷ more) (f ∷ []) g all

      by : (t : Bool) → nat_lt (length new) (length told) ≡ t → next ≡ None
      by true e =
          (let same : data_at (length new) told ≡ next =
          data-under told (listed_by s g) (length new) (All-head (λ (h : Filling). IsUnder told (listed_by s h)) g more c.under) (ltb-true (length new) (length told) e)
          ∙ All-head (IsNext next (length new)) g more front in
          sym same ∙ b.whole (same ∙ sym at_f))
      by false e =
          (let past = ltb-false (length new) (length told) e in
          let size : length new ≡ length told = omega (arith, past, fewer) in
          c.whole (omega arith) next (subst (λ n. All (IsNext next n) (g ∷ more)) size front))

  pub common-more : IsCommon s ((g ∷ more) ++ f ∷ []) new
  common-more = record {
    under = All-push (λ (h : Filling). IsUnder new (listed_by s h)) (g ∷ more) f (still-all (listed_by s) told new (g ∷ more) b.first c.under) b.second;
    whole = λ some next all. whole-more next all;
    proved = λ i proof there.
        ⊎_elim
        (λ (at : proof_at i told ≡ Some proof). any-front (λ (h : Filling). proof_at i (listed_by s h) ≡ Some proof) (g ∷ more) (f ∷ []) (c.proved i proof at))
        (λ (at : proof_at i (listed_by s f) ≡ Some proof). any-last (λ (h : Filling). proof_at i (listed_by s h) ≡ Some proof) (g ∷ more) f at)
        (b.proved i proof there);
  }
