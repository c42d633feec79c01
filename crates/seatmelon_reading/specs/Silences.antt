-- The longest silence of an end.
use Rattle.std.specs.Prelude.{◌≡◌, ℕ, ◌+◌, ◌-◌, ◌*◌, ◌<◌, ◌≤◌, List, [], ◌∷◌, ◌++◌, map, All, Bool}
use Rattle.std.specs.Prelude.{Option, None, Some, is_none}
use Rattle.std.specs.List.{last_or}
use Rattle.rasta_pcap.specs.declared.time.CaptureTime.{CaptureTime}
use Rattle.rasta_pcap.specs.declared.time.FractionUnit.{FractionUnit}
use Rattle.rasta_pcap.specs.declared.time.FractionUnit.TheVariants.{Microseconds, Nanoseconds}
use Rattle.seatmelon_reading.specs.Times.{neighbours}
use Rattle.seatmelon_reading.specs.declared.notes.Sighting.{Sighting}
use Rattle.seatmelon_reading.specs.declared.silence.LastSilence.{LastSilence}
use Rattle.seatmelon_reading.specs.declared.silence.Silence.{Silence}
use Rattle.seatmelon_reading.specs.declared.silence.SilenceSearch.{SilenceSearch}

-- the packet has no time
abbrev pub is_untimed : Sighting → Bool
is_untimed s = is_none s.time

-- how many nanoseconds one of this unit has
abbrev pub nanoseconds_each : FractionUnit → ℕ
nanoseconds_each Microseconds = 1000
nanoseconds_each Nanoseconds = 1

-- a moment, in nanoseconds since the beginning of 1970
abbrev pub nanoseconds_of : CaptureTime → ℕ
nanoseconds_of t = t.seconds * 1000000000 + t.fraction * nanoseconds_each t.unit

-- how long it takes from one moment to another; 0 where the other is earlier
abbrev pub nanoseconds_between : Option CaptureTime → Option CaptureTime → ℕ
nanoseconds_between (Some a) (Some b) = nanoseconds_of b - nanoseconds_of a
nanoseconds_between a b = 0

-- how long a silence is
abbrev pub nanoseconds_in : Silence → ℕ
nanoseconds_in s = nanoseconds_between s.before.time s.after.time

-- how long the silence behind the last sign of life is
abbrev pub last_nanoseconds_in : LastSilence → ℕ
last_nanoseconds_in s = nanoseconds_between s.before.time s.end.time

abbrev pub silence_of : Sighting × Sighting → Silence
silence_of pair = record { before = pair.0; after = pair.1 }

-- the silences of an end that gave these signs of life: each with the next one of them
abbrev pub silences_of : List Sighting → List Silence
silences_of signs = map silence_of (neighbours signs)

-- it is the first one of those silences that are longest
pub record IsFirstLongest (silences : List Silence) (s : Silence) : Type 0 where
  pub earlier : List Silence
  pub later : List Silence
  pub placed : silences ≡ earlier ++ s ∷ later
  pub longer : All (λ t. nanoseconds_in t < nanoseconds_in s) earlier
  pub longest : All (λ t. nanoseconds_in t ≤ nanoseconds_in s) later

-- the longest one, if there is one
abbrev pub IsLongest : List Silence → Option Silence → Type 0
IsLongest silences None = silences ≡ []
IsLongest silences (Some s) = IsFirstLongest silences s

-- ---- on the way

-- the silence between the last packet, if there is one, and the next
abbrev pub silences_between : Option Sighting → Sighting → List Silence
silences_between None after = []
silences_between (Some before) after = record { before = before; after = after } ∷ []

-- after these signs of life of an end
pub record IsSearch (signs : List Sighting) (search : SilenceSearch) : Type 0 where
  pub last : search.last ≡ last_or None signs
  pub longest : IsLongest (silences_of signs) search.longest
