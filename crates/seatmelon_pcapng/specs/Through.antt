-- A file that is read through a capture in either format.
use Rattle.std.specs.Prelude.{ℕ, List, Option, Some}
use Rattle.std.specs.Io.KnownBytes.{Consumes}

-- a source has given the beginning of a file, which it has noted, and will give the rest
pub record IsBegun {S : Type 0} (remaining : S → Option (List ℕ)) (notes : S → List ℕ
    → Type 0) (source : S) (file : List ℕ) : Type 0 where
  pub read : List ℕ
  pub noted : notes source read
  pub passed : Consumes (Some file) (remaining source) read
