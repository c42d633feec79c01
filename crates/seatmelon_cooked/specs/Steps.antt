-- One record on its way, and all of them up to some.
use Rattle.std.specs.Prelude.{◌≡◌, ℕ, List, ◌++◌, true, false, Option, None, Some}
use Rattle.std.specs.Io.KnownBytes.{Appends}
use Rattle.seatmelon_cooked.specs.declared.form.Form.{Form}
use Rattle.seatmelon_cooked.specs.declared.record.Sent.{Sent}
use Rattle.seatmelon_cooked.specs.Ethernet.{behind, holds_record, next_record, records_of}

-- a record was written and passed; or else all that was left was written as it is
abbrev pub Goes : Form → List ℕ → Option (List ℕ) → Option (List ℕ) → Option (List ℕ) → Option Sent → Type 0
Goes form bytes left old new (Some sent) = (holds_record form bytes ≡ true) × (left ≡ Some (behind form bytes))
    × Appends old new (next_record form bytes)
Goes form bytes left old new None = (holds_record form bytes ≡ false) × Appends old new bytes

-- what was written of these bytes, and what is still left of them for so many records
pub record IsOnItsWay (fuel : ℕ) (form : Form) (most : ℕ) (bytes : List ℕ) (left old new : Option (List ℕ)) : Type 0 where
  pub rest : List ℕ
  pub done : List ℕ
  pub is_left : left ≡ Some rest
  pub written : Appends old new done
  pub whole : records_of most form bytes ≡ done ++ records_of fuel form rest
