-- What is noted of a connection.
use Rattle.std.specs.Prelude.{ℕ, Bool, false, Option, ◌||◌, is_some}
use Rattle.std.specs.Option.{option_and_then, option_map_or}
use Rattle.seatmelon_connections.specs.declared.connection.Connection.{Connection}
use Rattle.seatmelon_connections.specs.declared.connection.Request.{Request}
use Rattle.seatmelon_connections.specs.declared.late_copies.LateCopies.{LateCopies}
use Rattle.seatmelon_connections.specs.QuietPoints.{from_in, lacks_point_in}

-- the number of a connection's first record, from 1
abbrev pub first_record_in : Connection → ℕ
first_record_in c = c.first_record

abbrev pub last_record_in : Connection → ℕ
last_record_in c = c.last_record

-- the id of the end that sent the first packet
abbrev pub first_id_in : Connection → ℕ
first_id_in c = c.first.id

abbrev pub second_id_in : Connection → ℕ
second_id_in c = c.second.id

-- the request that opened a connection, if it was captured
abbrev pub request_of : Connection → Option Request
request_of c = c.request

-- a connection request was captured
abbrev pub has_opening_in : Connection → Bool
has_opening_in c = is_some c.request

-- of the connection request only late copies were captured
abbrev pub opened_before_in : Connection → Bool
opened_before_in c = c.is_opened_before

-- an end's disconnection request was captured
abbrev pub has_ending_in : Connection → Bool
has_ending_in c = is_some c.first.ending || is_some c.second.ending

-- the late copies of the opening, and of what came behind it
abbrev pub late_copies_in : Connection → Option LateCopies
late_copies_in c = c.late_copies

-- the place of the connection between the same ends whose opening crossed late last, since this one began
abbrev pub repeated_in : Connection → Option ℕ
repeated_in c = c.repeated

abbrev pub with_repeated : Connection → Option ℕ → Connection
with_repeated c place = record c { repeated = place }

-- the record behind which its quiet points are wanted, if they are wanted behind one
abbrev pub quiet_from_in : Connection → Option ℕ
quiet_from_in c = option_and_then from_in c.quiet

-- they are, and none was found
abbrev pub lacks_quiet_point_in : Connection → Bool
lacks_quiet_point_in c = option_map_or lacks_point_in c.quiet false
