-- A capture in either format that was opened over a source.
use Rattle.std.specs.Prelude.{◌≡◌, ℕ, List, [], Option, Some, IfSome}
use Rattle.seatmelon_capture.specs.Keeping as keepings
use Rattle.seatmelon_capture.specs.declared.keeping.Keeping.{Keeping}
use Rattle.seatmelon_pcapng.specs.Formats.{capture_of, left_in, noted_by}
use Rattle.seatmelon_pcapng.specs.Giving.{told_as}
use Rattle.seatmelon_pcapng.specs.declared.capture.Capture.{Capture}
use Rattle.seatmelon_reading.specs.Summing as summings
use Rattle.seatmelon_reading.specs.declared.summed.Summed.{Summed}

-- it was opened over this source, of which nothing had passed: it gives the capture of the file, and notes what it
-- gives of it
pub record IsOpened {S : Type 0} (remaining : S → Option (List ℕ)) (notes : S → List ℕ
    → Type 0) (start : S) (c : Capture S) : Type 0 where
  pub none : notes start []
  pub left : IfSome (remaining start) (λ file. left_in remaining c ≡ Some (capture_of file))
  pub noted : IfSome (remaining start) (λ file. notes start [] → noted_by remaining notes c (told_as file))

-- this holds of the file over which it was opened, where that is known
abbrev pub OnFile : {S : Type 0} → (S → Option (List ℕ)) → (S → List ℕ → Type 0) → Capture S → (List ℕ → Type 0)
    → Type 0
OnFile {S} remaining notes c P = (start : S) → IsOpened remaining notes start c → IfSome (remaining start) P

-- ---- a source that sums up and keeps the beginning

-- what its own source will give
abbrev pub left_behind : {S : Type 0} → (S → Option (List ℕ)) → Keeping (Summed S) → Option (List ℕ)
left_behind remaining k = remaining (summings.source_of (keepings.source_of k))

-- what passed is summed up, and its beginning kept
abbrev pub noted_behind : {S : Type 0} → Keeping (Summed S) → List ℕ → Type 0
noted_behind k passed = keepings.noted_by summings.summed_by k passed
