-- The recorded parameters of a connection.
use Rattle.std.specs.Prelude.{◌≡◌, ◌≢◌, ◌⊎◌, ℕ, ◌+◌, ◌≤◌, List, [], ◌∷◌, length, Bool, true, not, ◌&&◌, ◌==◌, nat_le}
use Rattle.std.specs.Prelude.{◌↔◌, IsSome, IsTrue, Option, IfSome}
use Rattle.std.specs.List.{list_all, list_any}
use Rattle.std.specs.Str.{bytes_eq}
use Rattle.rasta_pcap.specs.declared.fault.Side.{Side}
use Rattle.rasta_pcap.specs.declared.fault.Side.TheVariants.{Client, Server}
use Rattle.rasta_udp.specs.declared.channel.Channel.{Channel}
use Rattle.rasta_udp.specs.declared.channel.Endpoint.{Endpoint}
use Rattle.rasta_pdu.specs.declared.quiet_point.QuietEnd.{QuietEnd}
use Rattle.rasta_pdu.specs.declared.quiet_point.Quiet.{Quiet}
use Rattle.rasta_pdu.specs.declared.route.Route.{Route}

-- the ids of both ends, the layout of their PDUs, their limits, the window of records, their channels,
-- and the quiet point from which they are followed
pub record Parameters : Type 0 where
  pub client_id : ℕ
  pub server_id : ℕ
  pub code_length : ℕ
  pub md4_start : List ℕ
  pub check_length : ℕ
  pub n_sendmax : ℕ
  pub t_max : ℕ
  pub slack : ℕ
  pub first_record : ℕ
  pub last_record : ℕ
  pub channels : List Channel
  pub quiet : Option Quiet

-- both ways over each channel
abbrev pub routes : List Channel → List Route
routes [] = []
routes (c ∷ cs) = record { source = c.client; destination = c.server }
    ∷ record { source = c.server; destination = c.client } ∷ routes cs

abbrev pub same_endpoint : Endpoint → Endpoint → Bool
same_endpoint a b = bytes_eq a.address b.address && a.port == b.port

abbrev pub same_route : Route → Route → Bool
same_route a b = same_endpoint a.source b.source && same_endpoint a.destination b.destination

-- no route stands there twice
abbrev pub are_distinct : List Route → Bool
are_distinct [] = true
are_distinct (r ∷ rs) = not (list_any (same_route r) rs) && are_distinct rs

-- no safety code, or one of 8 or of 16 bytes; no check code, or one of 2 or of 4 bytes
pub record AreLengths (code_length check_length : ℕ) : Type 0 where
  pub code : (code_length ≡ 0) ⊎ (code_length ≡ 8) ⊎ (code_length ≡ 16)
  pub check : (check_length ≡ 0) ⊎ (check_length ≡ 2) ⊎ (check_length ≡ 4)

pub record AreLimits (n_sendmax t_max slack : ℕ) : Type 0 where
  pub sends_some : 1 ≤ n_sendmax
  pub waits_some : 1 ≤ t_max
  pub waits_most : t_max ≤ 60000
  pub slack_most : slack ≤ 1000

pub record IsWindow (first_record last_record : ℕ) : Type 0 where
  pub from_one : 1 ≤ first_record
  pub in_order : first_record ≤ last_record
  pub last_most : last_record ≤ 4000000000

-- a port is a number from 1
abbrev pub has_ports : Channel → Bool
has_ports c = nat_le 1 c.client.port && nat_le 1 c.server.port

-- one to four channels, over which no route stands twice
pub record AreChannels (channels : List Channel) : Type 0 where
  pub some : 1 ≤ length channels
  pub few : length channels ≤ 4
  pub ports : IsTrue (list_all has_ports channels)
  pub distinct_routes : IsTrue (are_distinct (routes channels))

-- the greatest clock of a quiet point
abbrev pub most_clock : ℕ
most_clock = 9223372036854775807

-- an end at a quiet point, whose clock hasn't passed its deadline by more than the slack
pub record IsQuietEnd (slack : ℕ) (e : QuietEnd) : Type 0 where
  pub clock_most : e.clock ≤ most_clock
  pub deadline_most : IfSome e.deadline (λ d. d ≤ most_clock)
  pub in_time : IfSome e.deadline (λ d. e.clock ≤ d + slack)

-- the end of this side at a quiet point
abbrev pub quiet_of : Quiet → Side → QuietEnd
quiet_of q Client = q.client
quiet_of q Server = q.server

pub record IsQuiet (slack : ℕ) (q : Quiet) : Type 0 where
  pub client : IsQuietEnd slack q.client
  pub server : IsQuietEnd slack q.server

-- values that a connection can have
pub record AreParameters (p : Parameters) : Type 0 where
  pub distinct_ids : p.client_id ≢ p.server_id
  pub lengths : AreLengths p.code_length p.check_length
  pub limits : AreLimits p.n_sendmax p.t_max p.slack
  pub window : IsWindow p.first_record p.last_record
  pub channels : AreChannels p.channels
  pub quiet : IfSome p.quiet (IsQuiet p.slack)

-- what is made of these values: parameters with them, or none where a connection can't have them
pub record AreMade (made : Option Parameters) (p : Parameters) : Type 0 where
  pub valid : IsSome made ↔ AreParameters p
  pub value : IfSome made (λ q. q ≡ p)
