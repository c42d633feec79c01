-- The points at which a connection seems to be quiet.
use Rattle.std.specs.Prelude.{ℕ, Bool, ◌&&◌, Option, find, is_none, is_some, option_map}
use Rattle.seatmelon_connections.specs.declared.quiet.Candidate.{Candidate}
use Rattle.seatmelon_connections.specs.declared.quiet.Point.{Point}
use Rattle.seatmelon_connections.specs.declared.quiet.QuietPoints.{QuietPoints}
use Rattle.seatmelon_connections.specs.Quiet.{is_found}

-- the record from which packets are looked at, if they aren't all looked at
abbrev pub from_in : QuietPoints → Option ℕ
from_in q = q.from

-- the earliest point that both ends have confirmed
abbrev pub earliest_in : QuietPoints → Option Point
earliest_in q = option_map (λ (c : Candidate). c.point) (find is_found q.candidates.items)

-- a point is wanted behind a record, and none was found
abbrev pub lacks_point_in : QuietPoints → Bool
lacks_point_in q = is_some q.from && is_none (earliest_in q)
