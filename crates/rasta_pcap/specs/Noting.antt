-- What a source notes of the bytes that pass it.
use Rattle.std.specs.Prelude.{ℕ, List, [], ◌++◌, take, Option, Result, Ok, Err}
use Rattle.std.specs.Io.KnownBytes.{Consumes}

-- the bytes that a read gave
abbrev pub given : {E : Type 0} → Result ℕ E → List ℕ → List ℕ
given (Ok n) buf = take n buf
given (Err e) buf = []

-- what was noted of the bytes that had passed is now noted of them and these
abbrev pub NotesOn : {S : Type 0} → (S → List ℕ → Type 0) → S → S → List ℕ → Type 0
NotesOn notes old new bytes = (passed : List ℕ) → notes old passed → notes new (passed ++ bytes)

-- some bytes passed, and are noted
abbrev pub PassesOn : {S : Type 0} → (S → Option (List ℕ)) → (S → List ℕ → Type 0) → S → S → Type 0
PassesOn remaining notes old new = (bytes : List ℕ) × Consumes (remaining old) (remaining new) bytes
    × NotesOn notes old new bytes
