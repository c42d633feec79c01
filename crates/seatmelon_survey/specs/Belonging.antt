-- To which connection a packet between two ends belongs, among those so far.
use Rattle.std.specs.Prelude.{◌≡◌, ℕ, ◌+◌, min, max, Bool, true, false, not, ◌==◌, ◌&&◌, ◌||◌, if◌then◌else◌, List, []}
use Rattle.std.specs.Prelude.{◌∷◌, map, slice_get, Option, Some, None}
use Rattle.std.specs.Option.{option_and_then, option_map, option_map_or}
use Rattle.seatmelon_packets.specs.declared.packet.Packet.{Packet}
use Rattle.seatmelon_connections.specs.declared.connection.Connection.{Connection}
use Rattle.seatmelon_connections.specs.declared.connection.Request.{Request}
use Rattle.seatmelon_connections.specs.Comparing.{can_have, hash_in, is_claimed, is_followed_by, request_in}
use Rattle.seatmelon_connections.specs.Noted.{first_id_in, has_ending_in, repeated_in, request_of, second_id_in}
use Rattle.seatmelon_survey.specs.declared.findings.Destination.{Destination}
use Rattle.seatmelon_survey.specs.declared.findings.Destination.TheVariants.{Another, Last, Repeated, BehindRepeated}
use Rattle.seatmelon_survey.specs.declared.places.Ends.{Ends}
use Rattle.seatmelon_survey.specs.declared.places.Opening.{Opening}
use Rattle.seatmelon_survey.specs.Places.{Tables, last_at, opened_at, same_ends, is_opening}

-- the place that is found in the rest of a list, or the first place, if the list has true there
abbrev pub or_first : Option ℕ → Bool → Option ℕ
or_first (Some n) first = Some (n + 1)
or_first None true = Some 0
or_first None false = None

-- the last place at which a list has true
abbrev pub last_true : List Bool → Option ℕ
last_true [] = None
last_true (b ∷ bs) = or_first (last_true bs) b

-- the last place of a list at which a test passes
abbrev pub last_place : {A : Type 0} → (A → Bool) → List A → Option ℕ
last_place test xs = last_true (map test xs)

-- the two ends with these ids
abbrev pub ends_of : ℕ → ℕ → Ends
ends_of a b = record { low = min a b; high = max a b }

-- what a request opens between the ends with these ids
abbrev pub opening_between : ℕ → ℕ → Request → Opening
opening_between a b r = record { ends = ends_of a b; hash = hash_in r }

-- what opened a connection, if its request was captured
abbrev pub opening_of : Connection → Option Opening
opening_of c = option_map (opening_between (first_id_in c) (second_id_in c)) (request_of c)

-- what a packet opens, if it is a connection request
abbrev pub opening_in : Packet → Option Opening
opening_in p = option_map (opening_between p.way.sender p.way.receiver) (request_in p)

-- a connection is between these ends
abbrev pub is_between : Ends → Connection → Bool
is_between e c = same_ends (ends_of (first_id_in c) (second_id_in c)) e

-- the place of the last connection between two ends
abbrev pub last_between : Ends → List Connection → Option ℕ
last_between e cs = last_place (is_between e) cs

-- the place of the last connection that can have a packet: a connection between the packet's ends, which the packet fits by
-- its hosts, as a copy of the opening, or by the course of its end
abbrev pub last_for : Packet → List Connection → Option ℕ
last_for p cs = last_place (λ c. can_have c p) cs

-- the place of the connection that a request opened
abbrev pub opened_among : Opening → List Connection → Option ℕ
opened_among o cs = last_place (λ c. is_opening (opening_of c) o) cs

-- the tables are as the connections stand
pub record ArePlaced (cs : List Connection) (t : Tables) : Type 0 where
  pub last : (e : Ends) → last_at t e ≡ last_between e cs
  pub opened : (o : Opening) → opened_at t o ≡ opened_among o cs

-- where a packet belongs that opened no connection and begins none, by the connection whose opening crossed late last:
-- to that one, if there is no other, or if it claims the packet from the last one
abbrev pub destination_behind : List Connection → ℕ → Connection → Packet → Option ℕ → Destination
destination_behind cs last z p None = Last last
destination_behind cs last z p (Some place) =
    if (place == last)
    || option_map_or (λ c. is_claimed c z p) (slice_get cs place) false then BehindRepeated place last
    else Last last

-- where a packet belongs, by the connection that it opened: to that one, as a late copy if this has ended, or isn't the
-- last one that can have the packet
abbrev pub destination_beside : List Connection → ℕ → Connection → Packet → Option ℕ → Destination
destination_beside cs last z p (Some place) =
    if (place == last) && not (has_ending_in z) then Last last else Repeated place last
destination_beside cs last z p None = if is_followed_by z p then Another
    else destination_behind cs last z p (repeated_in z)

-- where a packet belongs, by the last connection that can have it
abbrev pub destination_after : List Connection → Packet → Option ℕ → Destination
destination_after cs p None = Another
destination_after cs p (Some last) =
    option_map_or (λ z. destination_beside cs last z p (option_and_then (λ o. opened_among o cs) (opening_in p)))
    (slice_get cs last) Another

-- where a packet belongs: what other connections between the same ids sent, on quite other hosts, doesn't count
abbrev pub destination_of : List Connection → Packet → Destination
destination_of cs p = destination_after cs p (last_for p cs)
