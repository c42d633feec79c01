-- A source that sums up what passes it.
use Rattle.std.specs.Prelude.{◌≡◌, ℕ, List}
use Rattle.rasta_sha256.specs.Progress.{holding}
use Rattle.seatmelon_reading.specs.declared.summed.Summed.{Summed}

abbrev pub source_of : {S : Type 0} → Summed S → S
source_of s = s.source

-- these bytes are summed up
abbrev pub summed_by : {S : Type 0} → Summed S → List ℕ → Type 0
summed_by s passed = s.digest ≡ holding passed
