-- What a source of a classic capture notes of the bytes that it gives: of which file they are, and what passed its own
-- source.
use Rattle.std.specs.Prelude.{◌≡◌, ℕ, List, ◌∷◌, ◌++◌, length, Option, Some}
use Rattle.std.specs.Io.KnownBytes.{Consumes}
use Rattle.seatmelon_pcapng.specs.Classics.{left_in, remarks_left, source_of}
use Rattle.seatmelon_pcapng.specs.Readings.{classic_of, reading_of, remarks_of}
use Rattle.seatmelon_pcapng.specs.declared.classic.Classic.{Classic}

-- how a file is told before what is given of it: its length, and its bytes
abbrev pub told_as : List ℕ → List ℕ
told_as file = length file ∷ file

-- some bytes of this file were read and are noted, and these bytes of its classic capture were given
pub record Gives {S : Type 0} (remaining : S → Option (List ℕ)) (notes : S → List ℕ
    → Type 0) (c : Classic S) (file given : List ℕ) : Type 0 where
  pub read : List ℕ
  pub noted : notes (source_of c) read
  pub passed : Consumes (Some file) (remaining (source_of c)) read
  pub left : Consumes (Some (classic_of (reading_of file))) (left_in remaining c) given
  pub remarks : remarks_left remaining c ≡ Some (remarks_of (reading_of file))

-- a file was told, and these bytes were given of it
abbrev pub noted_by : {S : Type 0} → (S → Option (List ℕ)) → (S → List ℕ → Type 0) → Classic S → List ℕ → Type 0
noted_by remaining notes c told = (file : List ℕ) × (given : List ℕ) × (told ≡ told_as file ++ given)
    × Gives remaining notes c file given
