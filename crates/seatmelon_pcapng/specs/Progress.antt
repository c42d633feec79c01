-- Whether a reading goes on.
use Rattle.std.specs.Prelude.{Option, None, ⊤}
use Rattle.seatmelon_pcapng.specs.declared.classic.Progress.{Progress}
use Rattle.seatmelon_pcapng.specs.declared.classic.Progress.TheVariants.{Going, Ended}
use Rattle.seatmelon_pcapng.specs.declared.refusal.Refusal.{Refusal}

abbrev pub refusal_by : Progress → Option Refusal
refusal_by Going = None
refusal_by (Ended refusal) = refusal

abbrev pub IsReading : Progress → Type 0
IsReading Going = ⊤
IsReading (Ended refusal) = ⊥

abbrev pub HasEnded : Progress → Type 0
HasEnded Going = ⊥
HasEnded (Ended refusal) = ⊤
