-- When packets were captured.
use Rattle.std.specs.Prelude.{ℕ, ◌+◌, ◌-◌, ◌*◌, ◌/◌, ◌%◌, ◌^◌, nat_lt, if◌then◌else◌}
use Rattle.seatmelon_pcapng.specs.declared.interface.Interface.{Interface}
use Rattle.seatmelon_pcapng.specs.declared.time.Moment.{Moment}

-- into how many units a second is divided
abbrev pub units_of : ℕ → ℕ
units_of resolution = if nat_lt resolution 128 then 10 ^ resolution else 2 ^ (resolution - 128)

-- the whole seconds of so many units
abbrev pub whole_seconds : ℕ → ℕ → ℕ
whole_seconds resolution stamp = stamp / units_of resolution

-- what is left of them, in nanoseconds, cut
abbrev pub nanoseconds_left : ℕ → ℕ → ℕ
nanoseconds_left resolution stamp = stamp % units_of resolution * 1000000000 / units_of resolution

-- the time that a packet doesn't have
abbrev pub no_moment : Moment
no_moment = record { seconds = 0; nanoseconds = 0 }

-- the seconds with the offset of the interface, which is added modulo 2^64
abbrev pub seconds_at : Interface → ℕ → ℕ
seconds_at i stamp = (whole_seconds i.resolution stamp + i.offset) % 2 ^ 64

-- the moment of a stamp; none where its seconds don't fit 32 bits
abbrev pub moment_at : Interface → ℕ → Moment
moment_at i stamp =
    if nat_lt (seconds_at i stamp) (2 ^ 32)
    then record { seconds = seconds_at i stamp; nanoseconds = nanoseconds_left i.resolution stamp } else no_moment
