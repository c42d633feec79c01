-- The window of records, and what is told of it.
use Rattle.std.specs.Prelude.{◌≡◌, ◌<◌, ◌≤◌, ◌⊎◌, ℕ, Option, None, Some}
use Rattle.rasta_pdu.specs.Params.{Parameters}
use Rattle.seatmelon_reading.specs.declared.window.Window.{Window}
use Rattle.seatmelon_reading.specs.declared.window.WindowPlace.{WindowPlace}
use Rattle.seatmelon_reading.specs.declared.window.WindowPlace.TheVariants.{Before, Inside, Behind}

-- the record of this number stands so to the window
abbrev pub StandsSo : Parameters → ℕ → WindowPlace → Type 0
StandsSo p number Before = number < p.first_record
StandsSo p number Inside = (p.first_record ≤ number) × (number ≤ p.last_record)
StandsSo p number Behind = (p.first_record ≤ number) × (p.last_record < number)

-- a window is recorded: without one it is all records that a capture can have
abbrev pub IsBounded : Parameters → Type 0
IsBounded p = (1 < p.first_record) ⊎ (p.last_record < 4000000000)

-- of so many records this is the last one in the window, or there is none
abbrev pub IsLastRead : Parameters → ℕ → Option ℕ → Type 0
IsLastRead p records None = records < p.first_record
IsLastRead p records (Some last) = (p.first_record ≤ last) × (last ≤ p.last_record) × (last ≤ records)
    × ((number : ℕ) → number ≤ p.last_record → number ≤ records → number ≤ last)

-- of a capture with so many records this window is told
abbrev pub IsToldOf : Parameters → ℕ → Window → Type 0
IsToldOf p records w = (w.first_record ≡ p.first_record) × IsLastRead p records w.last_record
