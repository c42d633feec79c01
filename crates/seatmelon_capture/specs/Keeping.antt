-- A source that keeps the beginning of what passes it.
use Rattle.std.specs.Prelude.{◌≡◌, ℕ, List, take}
use Rattle.seatmelon_capture.specs.declared.keeping.Keeping.{Keeping}

abbrev pub source_of : {S : Type 0} → Keeping S → S
source_of k = k.source

-- the first 24 of these bytes are kept
abbrev pub IsKept : {S : Type 0} → Keeping S → List ℕ → Type 0
IsKept k passed = k.kept.items ≡ take 24 passed

-- and its source has noted them
abbrev pub noted_by : {S : Type 0} → (S → List ℕ → Type 0) → Keeping S → List ℕ → Type 0
noted_by notes k passed = IsKept k passed × notes (source_of k) passed
