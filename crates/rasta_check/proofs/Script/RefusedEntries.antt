-- What follows from an entry by the rules of the end: a refusal at its number, or the next cursor.
use Rattle.std.proofs.Common.{◌≡◌, ◌⊎◌, ℕ, Option, Some, None, Result, Ok, sym, refl, inl, inr}
use Rattle.rasta_check.proofs.Prelude.{Fault, ScriptCursor, fault_of_end, no_memory, Followed, cursor_unless}
use Rattle.rasta_check.specs.Internals.Checking.{IsRefusedFollow}

-- f is what the follower holds, and g what contracts see of it
pub refused : (f g : Followed) → f ≡ g → (answer : Result ScriptCursor ℕ) (rule : Followed → Option ℕ) (there : ScriptCursor) → answer ≡ cursor_unless (rule g) there
    → (placed : Fault) → ((number : ℕ) × (rule f ≡ Some number) × (placed ≡ fault_of_end number f.entry f.side)) ⊎ (placed ≡ no_memory) → IsRefusedFollow g answer placed
refused f g same answer rule there is placed (inl w) = inl (w.0, rw (is, sym same, w.1) refl, rw (sym same) w.2)
refused f g same answer rule there is placed (inr w) = inr w

-- where it breaks no rule of the end, it leads there
pub led : (f g : Followed) → f ≡ g → (answer : Result ScriptCursor ℕ) (rule : Followed → Option ℕ) (there : Followed → ScriptCursor) → answer ≡ cursor_unless (rule g) (there g) → rule f ≡ None → answer ≡ Ok (there f)
led f g same answer rule there is none = rw (is, sym same, none) refl
