-- What parameter files come to.
use Rattle.std.specs.Prelude.{◌≡◌, ◌≤◌, ℕ, length}
use Rattle.seatmelon_many.specs.declared.judging.Judged.{Judged}
use Rattle.seatmelon_many.specs.declared.judging.Judged.TheVariants as judgements

-- one for each of so many files, or a status of words or of devices
abbrev pub AreOf : ℕ → Judged → Type 0
AreOf n (judgements.All recorded) = length recorded.params.items ≡ n
AreOf n (judgements.Refused status) = (2 ≤ status) × (status ≤ 3)
