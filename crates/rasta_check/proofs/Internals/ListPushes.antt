-- Lists of first copies as vectors and maps hold them, with one more.
use Rattle.std.proofs.lemmas.List.{map-append}
use Rattle.std.proofs.Common.{◌≡◌, ℕ, suc, ◌+◌, ◌<◌, ◌++◌, List, [], ◌∷◌, Some, length, map, nat_eq, refl, ap, ◌∙◌, arith, if◌then◌else◌, slice_get}
use Rattle.rasta_check.proofs.Prelude.{option_map, nat_tests, length-map, length_push, Pdu, FirstCopy, copy_with, IsOrdered, copy_of, map_push}
use Rattle.std.specs.HashMap.{HashMap}
use Rattle.std.specs.Map.{keys_of, lookup}
use Rattle.std.proofs.lemmas.Map.{NonePasses, lookup-none}
use Rattle.indexmap.specs.IndexMap.{insert_entry}
use Rattle.indexmap.proofs.CallerLemmas.{insert_entry-new}
use Rattle.rasta_check.specs.Capture.Lists.{AreMarks, copies_in, numbers_of, marked}
use Rattle.rasta_check.proofs.Capture.Positions.{marks_pushed, number_new}

-- ---- marks

pub marks_grown : (sent all : List FirstCopy) (c : FirstCopy) (place position : ℕ) (old mid new : List ℕ)
    → all ≡ sent ++ c ∷ [] → IsOrdered (sent ++ c ∷ []) → AreMarks sent old → c.place ≡ place → position ≡ length sent
    → ((q : ℕ) → marked mid q ≡ marked old q) → ((q : ℕ) → marked new q ≡ (if nat_eq q place then Some position else marked mid q))
    → IsOrdered all × AreMarks all new
marks_grown sent all c place position old mid new e h m at count same set = (let more = marks_pushed sent c h old new m in grind arith)

-- one more of few
pub few_more : {A : Type 0} (f : A → FirstCopy) (old : List FirstCopy) (all : List A) (c : FirstCopy) → map f all ≡ old ++ c ∷ [] → length old + 1 < 4294967296 → length all < 4294967296
few_more f old all c e few = (let a = ap length e in let b = length_push old c in let d = length-map all f in omega (arith, a, b, d, few))

-- ---- a map

abbrev pub Entries : Type 0
Entries = List (ℕ × (ℕ × Pdu))

-- no entry has a new number
none_has : (es : Entries) (n : ℕ) → keys_of es ≡ numbers_of (copies_in es)
    → ((i : ℕ) (d : FirstCopy) → slice_get (copies_in es) i ≡ Some d → d.pdu.number ≡ n → ⊥) → NonePasses (nat_eq n) es
none_has [] n same new = tt
none_has (e ∷ es) n same new = (let first = new 0 (copy_of e.1) refl in let more = none_has es n (cc) (λ i d g. new (suc i) d g) in grind (arith, nat_tests))

module _ {S : Type 0} (m : HashMap ℕ (ℕ × Pdu) S) (x : ℕ × Pdu) (h : IsOrdered (copies_in m.entries ++ copy_of x ∷ [])) (keys : keys_of m.entries ≡ numbers_of (copies_in m.entries)) (few : length (copies_in m.entries) < 4294967296) where
  inserted : (number : ℕ) → number ≡ (copy_of x).pdu.number → insert_entry nat_eq m.entries number x ≡ m.entries ++ (number, x) ∷ []
  inserted number e = grind (arith, insert_entry-new, lookup-none, none_has, number_new)

  pub map_grown : (number : ℕ) (all : Entries) → number ≡ (copy_of x).pdu.number → all ≡ insert_entry nat_eq m.entries number x → copies_in all ≡ copies_in m.entries ++ copy_of x ∷ []
  map_grown number all e f = map_push (λ (y : ℕ × (ℕ × Pdu)). copy_of y.1) m.entries all (number, x) (f ∙ inserted number e)

  pub keys_grown : (number : ℕ) (all : Entries) → number ≡ (copy_of x).pdu.number → all ≡ insert_entry nat_eq m.entries number x → keys_of all ≡ numbers_of (copies_in all)
  keys_grown number all e f = (let grown = map_grown number all e f in let same = inserted number e in grind (arith, map-append))

-- ---- the place of a number

pub place_found : (es : Entries) (n : ℕ) → keys_of es ≡ numbers_of (copies_in es)
    → option_map (λ (w : ℕ × Pdu). w.0) (lookup (nat_eq n) es) ≡ option_map (λ (x : FirstCopy). x.place) (copy_with (copies_in es) n)
place_found [] n same = refl
place_found (e ∷ es) n same = (let more = place_found es n (cc) in grind (arith, nat_tests))
