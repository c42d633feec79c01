-- What passes a source, and is noted.
use Rattle.std.proofs.Common.{◌≡◌, ℕ, List, [], append-nil, Option, None, Some, IfSome, Result, Ok, Err, refl, subst, sym, take}
use Rattle.std.specs.Io.KnownBytes.{ReadConsumes}
use Rattle.std.proofs.KnownBytes.{Consumes-kept, Consumes-nil}
use Rattle.rasta_pcap.specs.Noting.{NotesOn, PassesOn, given}

module _ {S : Type 0} (remaining : S → Option (List ℕ)) (notes : S → List ℕ → Type 0) where
  -- where nothing was read
  pub PassesOn-none : (s : S) → PassesOn remaining notes s s
  PassesOn-none s = ([], Consumes-nil (remaining s), λ passed noted. subst (notes s) (sym (append-nil passed)) noted)

  -- what a read gave has passed
  pub PassesOn-read : {E : Type 0} (old new : S) (r : Result ℕ E) (buf : List ℕ) → ReadConsumes (remaining old) (remaining new) r buf
      → NotesOn notes old new (given r buf) → PassesOn remaining notes old new
  PassesOn-read old new (Ok n) buf bytes noted = (take n buf, bytes.0, noted)
  PassesOn-read old new (Err e) buf bytes noted = ([], Consumes-kept (remaining old) (remaining old) (remaining new) [] (Consumes-nil (remaining old)) bytes, noted)

-- what holds of a value that is known
pub IfSome-is : {A : Type 0} (P : A → Type 0) (known : Option A) → ((x : A) → known ≡ Some x → P x) → IfSome known P
IfSome-is P None h = tt
IfSome-is P (Some x) h = h x refl
