-- Points at which a connection may be quiet.
use Rattle.std.specs.Prelude.{◌≡◌, ℕ, Bool, true, not, ◌&&◌, Option, Some, None, nat_le}
use Rattle.seatmelon_connections.specs.declared.quiet.Candidate.{Candidate}

-- a record isn't before the one from which packets are looked at, if they aren't all looked at
abbrev pub is_from : Option ℕ → ℕ → Bool
is_from None number = true
is_from (Some from) number = nat_le from number

-- a point stands after such a record
abbrev pub StandsFrom : Option ℕ → Candidate → Type 0
StandsFrom from c = is_from from c.point.«record» ≡ true

-- both ends have confirmed a point
abbrev pub is_found : Candidate → Bool
is_found c = not c.awaits_first && not c.awaits_second
