-- The conversion of a known file on its way.
use Rattle.std.specs.Prelude.{ℕ, List, ◌++◌, Option, Some}
use Rattle.std.specs.Io.KnownBytes.{Appends, Consumes}
use Rattle.seatmelon_pcapng.specs.Formats.{capture_of, left_in, noted_by}
use Rattle.seatmelon_pcapng.specs.Giving.{told_as}
use Rattle.seatmelon_pcapng.specs.declared.capture.Capture.{Capture}

-- these bytes of a file's capture were given and written, and noted if this holds
pub record IsWritten {S : Type 0} (remaining : S → Option (List ℕ)) (notes : S → List ℕ
    → Type 0) (c : Capture S) (Noted : Type 0) (file : List ℕ) (old new : Option (List ℕ)) : Type 0 where
  pub given : List ℕ
  pub left : Consumes (Some (capture_of file)) (left_in remaining c) given
  pub written : Appends old new given
  pub told : Noted → noted_by remaining notes c (told_as file ++ given)
