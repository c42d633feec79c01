-- Clocks that a time stamp tells.
use Rattle.std.specs.Prelude.{ℕ, ◌+◌, ◌^◌, nat_lt, Option, Some, None, if◌then◌else◌}
use Rattle.rasta_end.specs.State.{ahead_by}

-- the least clock from this one on that has these lower 32 bits, where 64 bits hold it
abbrev pub clock_of : ℕ → ℕ → Option ℕ
clock_of least time_stamp =
    if nat_lt (least + ahead_by time_stamp least) (2 ^ 64) then Some (least + ahead_by time_stamp least) else None
