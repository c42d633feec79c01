-- A device that is watched, one whose reading is told, and a reader that is read whole.
use Rattle.std.specs.Prelude.{◌≡◌, ℕ, List, ⊤, Option, None, Some}
use Rattle.seatmelon_commands.specs.declared.progress.Progress.{Progress}
use Rattle.seatmelon_commands.specs.declared.watched.Watched.{Watched}

abbrev pub device_of : {D : Type 0} → Watched D → D
device_of w = w.device

abbrev pub told_device_of : {D R : Type 0} → Progress D R → D
told_device_of p = p.device

-- these are all bytes that a reader had left, where they are known
abbrev pub HoldsAll : Option (List ℕ) → List ℕ → Type 0
HoldsAll None bytes = ⊤
HoldsAll (Some left) bytes = left ≡ bytes
