-- A make at a later clock, and one that is refused.
use Rattle.std.proofs.Common.{◌≡◌, ℕ, Bool, true, false, Option, Some, None, Result, OnOk, refl, ap, sym, ◌∙◌, inl, inr}
use Rattle.rasta_build.proofs.Prelude.{if◌then◌else◌, ◌==◌, too_early_timeout, Fault, Parameters, SafetyPdu, EndState, Why, make_fault, after_make, Built, made_at}
use Rattle.rasta_build.proofs.Prelude.{Unexplained}
use Rattle.std.proofs.lemmas.Result.{on_ok_weaker}
use Rattle.rasta_end.specs.Judged.{JudgedEnd}
use Rattle.rasta_end.specs.MakeRule.{IsMakeRefusal}
use Rattle.rasta_cert.specs.declared.entry.Entry.TheVariants.{Make}
use Rattle.rasta_build.specs.Built.{note}
use Rattle.rasta_build.specs.Choices.{stuck_by}
use Rattle.rasta_build.specs.Explaining.{make_by, make_when}
use Rattle.rasta_build.specs.declared.stuck.Stuck.TheVariants.{NoMemory}

-- where an end refuses a PDU for another reason than lack of memory, there is a fault
refused : (p : Parameters) (e : EndState) (x : SafetyPdu) (clock : ℕ) (why : Why) (fault : Fault) → IsMakeRefusal p e x clock why fault → stuck_by fault ≡ Unexplained → (number : ℕ) × (make_fault p e x clock why ≡ Some number)
refused p e x clock why fault (inl h) s = (h.0, h.1)
refused p e x clock why fault (inr h) s = absurd (let z : NoMemory ≡ Unexplained = ap stuck_by (sym h.1) ∙ s in cc)

abbrev the_none : Option Built
the_none = None

nothing_later : (number : ℕ) (b : Built) → make_by None (Some number) b ≡ None
nothing_later number b = by (number == too_early_timeout)
  where
    by : (t : Bool) → (if t then the_none else None) ≡ the_none
    by true = refl
    by false = refl

-- and nothing is made
pub never_made : (place : ℕ) (x : SafetyPdu) (why : Why) (clock : ℕ) (b : Built) (o : Option ℕ) (fault : Fault) → o ≡ Some clock → IsMakeRefusal b.end.params b.end.state x clock why fault → stuck_by fault ≡ Unexplained
    → make_when None place x why o b ≡ None
never_made place x why clock b o fault there h s =
    let f = refused b.end.params b.end.state x clock why fault h s in
    ap (λ (k : Option ℕ). make_when None place x why k b) there ∙ (ap (λ (g : Option ℕ). make_by None g (made_at place x why clock b)) f.1 ∙ nothing_later f.0 (made_at place x why clock b))

-- where it doesn't, the PDU is made
pub is_made : {A E : Type 0} (r : Result A E) (place : ℕ) (x : SafetyPdu) (why : Why) (clock : ℕ) (b new : Built) (o : Option ℕ) → o ≡ Some clock → make_fault b.end.params b.end.state x clock why ≡ None
    → OnOk r (new ≡ made_at place x why clock b) → OnOk r (make_when None place x why o b ≡ Some new)
is_made r place x why clock b new o there free h = on_ok_weaker r
    (λ (e : new ≡ made_at place x why clock b).
    ap (λ (k : Option ℕ). make_when None place x why k b) there ∙ (ap (λ (g : Option ℕ). make_by None g (made_at place x why clock b)) free ∙ ap (λ (y : Built). Some y) (sym e))) h

-- what is noted of a make
pub made_noted : (place : ℕ) (x : SafetyPdu) (why : Why) (clock : ℕ) (inside b new : Built) (end : JudgedEnd) → inside ≡ b → end ≡ record inside.end { state = after_make inside.end.state x clock why }
    → new ≡ note (Make place clock why) (record inside { end = end; clock = clock }) → new ≡ made_at place x why clock b
made_noted place x why clock inside b new end same made h =
    h ∙ (ap (λ (n : JudgedEnd). note (Make place clock why) (record inside { end = n; clock = clock })) made ∙ ap (λ (z : Built). made_at place x why clock z) same)
