-- What is noted of the times of capture.
use Rattle.std.specs.Prelude.{◌≡◌, ℕ, ◌==◌, ◌&&◌, ◌||◌, List, [], ◌∷◌, length, map, filter, nat_le, nat_lt, not, Bool}
use Rattle.std.specs.Prelude.{true, false, Option, None, Some, option_map, if◌then◌else◌}
use Rattle.std.specs.List.{last_or, zip}
use Rattle.rasta_pcap.specs.declared.time.CaptureTime.{CaptureTime}
use Rattle.rasta_pcap.specs.declared.time.FractionUnit.{FractionUnit}
use Rattle.rasta_pcap.specs.declared.time.FractionUnit.TheVariants.{Microseconds, Nanoseconds}
use Rattle.rasta_pcap.specs.Captured.{Captured}
use Rattle.seatmelon_reading.specs.declared.times.Noticed.{Noticed}
use Rattle.seatmelon_reading.specs.declared.times.TimeNotes.{TimeNotes}

-- how many of this unit are a second
abbrev pub in_second : FractionUnit → ℕ
in_second Microseconds = 1000000
in_second Nanoseconds = 1000000000

-- a moment is earlier than another of the same unit: by its second, or by the fraction of the same second
abbrev pub is_earlier : CaptureTime → CaptureTime → Bool
is_earlier a b = nat_lt a.seconds b.seconds || (a.seconds == b.seconds && nat_lt a.fraction b.fraction)

-- seconds and fraction are 0
abbrev pub is_zero : CaptureTime → Bool
is_zero t = t.seconds == 0 && t.fraction == 0

-- what was read is a time: 0 is none where that is said
abbrev pub is_time : Bool → CaptureTime → Bool
is_time zero t = not (zero && is_zero t)

-- the time that is told where this was read
abbrev pub time_told : Bool → Option CaptureTime → Option CaptureTime
time_told zero None = None
time_told zero (Some t) = if is_time zero t then Some t else None

-- when a record was captured, if it has a time
abbrev pub time_of : Bool → Captured → Option CaptureTime
time_of zero r = time_told zero (Some r.time)

-- the records that have a time
abbrev pub timed_in : Bool → List Captured → List Captured
timed_in zero records = filter (λ (r : Captured). is_time zero r.time) records

-- the elements of a list but the first
abbrev pub rest_of : {A : Type 0} → List A → List A
rest_of [] = []
rest_of (a ∷ rest) = rest

-- each element of a list with the one that follows it
abbrev pub neighbours : {A : Type 0} → List A → List (A × A)
neighbours l = zip l (rest_of l)

-- the time of a record is below that of the record just before it
abbrev pub falls : Captured × Captured → Bool
falls pair = is_earlier pair.1.time pair.0.time

abbrev pub later_of : Captured × Captured → Captured
later_of pair = pair.1

abbrev pub falling_in : List Captured → List Captured
falling_in records = map later_of (filter falls (neighbours records))

-- the fraction isn't below a second
abbrev pub is_overlong : Captured → Bool
is_overlong r = nat_le (in_second r.time.unit) r.time.fraction

abbrev pub overlong_in : List Captured → List Captured
overlong_in records = filter is_overlong records

-- how many these records are, and the number of the first
abbrev pub first_number : List Captured → Option ℕ
first_number [] = None
first_number (r ∷ records) = Some r.number

abbrev pub noticed : List Captured → Noticed
noticed records = record { count = length records; first = first_number records }

-- the time of the last record
abbrev pub last_time : List Captured → Option CaptureTime
last_time records = option_map (λ (r : Captured). r.time) (last_or None records)

-- this is noted of the times of these records: a record is compared with the last one before it that has a time
pub record AreTimes (zero : Bool) (records : List Captured) (t : TimeNotes) : Type 0 where
  pub falling : t.falling ≡ noticed (falling_in (timed_in zero records))
  pub overlong : t.overlong ≡ noticed (overlong_in records)
  pub last : t.last ≡ last_time (timed_in zero records)

-- ---- on the way

-- the record, if it is noticed
abbrev pub if_noticed : Bool → Captured → List Captured
if_noticed true r = r ∷ []
if_noticed false r = []

-- a time falls below the last one
abbrev pub falls_below : CaptureTime → Option CaptureTime → Bool
falls_below time None = false
falls_below time (Some last) = is_earlier time last
