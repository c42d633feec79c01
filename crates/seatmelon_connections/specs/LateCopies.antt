-- Counts of late copies.
use Rattle.std.specs.Prelude.{ℕ, ◌+◌, ◌-◌, ◌^◌, min, Bool, true, false, Option, Some, None}
use Rattle.seatmelon_connections.specs.declared.late_copies.Arrival.{Arrival}
use Rattle.seatmelon_connections.specs.declared.late_copies.Arrival.TheVariants.{InCourse, Late, LateBehindAnother}
use Rattle.seatmelon_connections.specs.declared.late_copies.LateCopies.{LateCopies}

-- a packet comes so as a late copy of the opening, or behind one
abbrev pub is_late : Arrival → Bool
is_late InCourse = false
is_late Late = true
is_late LateBehindAnother = true

-- after one more late copy, in this record
abbrev pub late_copies_after : Option LateCopies → ℕ → LateCopies
late_copies_after None copy = record { count = 1; first_record = copy; last_record = copy }
late_copies_after (Some copies) copy =
    record { count = min (copies.count + 1) (2 ^ 64 - 1); first_record = copies.first_record; last_record = copy }
