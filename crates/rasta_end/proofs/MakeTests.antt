-- An end may make a PDU where none of its tests holds, and just then a make has no fault.
use Rattle.std.proofs.Common.{◌≡◌, ◌<◌, ◌≤◌, ℕ, zero, suc, Bool, true, false, List, [], ◌∷◌, length, None, refl, arith}
use Rattle.std.specs.Prelude.{All, IsFalse, zip, slice_index_or}
use Rattle.rasta_pdu.specs.Pdu.{SafetyPdu}
use Rattle.rasta_pdu.specs.Params.{Parameters}
use Rattle.rasta_end.specs.declared.why.Why.{Why}
use Rattle.rasta_end.specs.State.{EndState}
use Rattle.rasta_end.specs.MakeRule.{first_that_holds, make_tests, make_numbers, make_fault}

none_first : (ts : List Bool) (ns : List ℕ) → All IsFalse ts → first_that_holds (zip ts ns) ≡ None
none_first [] ns h = refl
none_first (t ∷ ts) [] h = refl
none_first (true ∷ ts) (n ∷ ns) h = absurd (let z : true ≡ false = h 0 true (omega arith) in cc)
none_first (false ∷ ts) (n ∷ ns) h = none_first ts ns (λ k d l. h (suc k) d (omega (arith, l)))

one_more : (ts : List Bool) → All IsFalse ts → All IsFalse (false ∷ ts)
one_more ts h zero d l = refl
one_more ts h (suc k) d l = h k d (omega (arith, l))

all_false : (ts : List Bool) (ns : List ℕ) → length ts ≤ length ns → first_that_holds (zip ts ns) ≡ None → All IsFalse ts
all_false [] ns l h = λ k d z. absurd (omega (arith, z))
all_false (t ∷ ts) [] l h = absurd (omega (arith, l))
all_false (true ∷ ts) (n ∷ ns) l h = absurd (cc)
all_false (false ∷ ts) (n ∷ ns) l h = one_more ts (all_false ts ns (omega (arith, l)) h)

pub no_fault : (p : Parameters) (e : EndState) (x : SafetyPdu) (clock : ℕ) (why : Why) → All IsFalse (make_tests p e x clock why) → make_fault p e x clock why ≡ None
no_fault p e x clock why h = none_first (make_tests p e x clock why) make_numbers h

pub no_test : (p : Parameters) (e : EndState) (x : SafetyPdu) (clock : ℕ) (why : Why) → make_fault p e x clock why ≡ None → All IsFalse (make_tests p e x clock why)
no_test p e x clock why h =
    let many : length (make_tests p e x clock why) ≡ 11 = refl in
    let numbered : length make_numbers ≡ 11 = refl in
    all_false (make_tests p e x clock why) make_numbers (omega (arith, many, numbered)) h
