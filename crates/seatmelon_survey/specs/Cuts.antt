-- How many datagrams weren't captured whole.
use Rattle.std.specs.Prelude.{◌≡◌, ℕ, ◌+◌, ◌==◌, ◌&&◌, min, Bool, true, false, List, length, filter, filter_map, Option}
use Rattle.std.specs.Prelude.{Some, None, if◌then◌else◌}
use Rattle.std.specs.Map.{lookup}
use Rattle.rasta_udp.specs.declared.channel.Channel.{Channel}
use Rattle.rasta_udp.specs.declared.channel.Endpoint.{Endpoint}
use Rattle.rasta_udp.specs.Frame.{address_of}
use Rattle.seatmelon_packets.specs.Cut.{cut_in}
use Rattle.seatmelon_packets.specs.declared.cut.Cut.{Cut}
use Rattle.seatmelon_survey.specs.CutNotes.{CutNotes}
use Rattle.seatmelon_survey.specs.declared.cuts.CutCount.{CutCount}
use Rattle.seatmelon_survey.specs.declared.cuts.Direction.{Direction}
use Rattle.seatmelon_survey.specs.declared.cuts.Host.{Host}

-- counts stop at the greatest number of 64 bits
abbrev pub capped : ℕ → ℕ
capped n = min n 18446744073709551615

abbrev pub same_host : Host → Host → Bool
same_host a b = (a.address == b.address) && (a.port == b.port)

abbrev pub same_direction : Direction → Direction → Bool
same_direction a b = same_host a.source b.source && same_host a.destination b.destination

-- an address as a number, its first byte the highest
abbrev pub host_of : Endpoint → Host
host_of e = record { address = address_of e; port = e.port }

abbrev pub direction_of : Channel → Direction
direction_of route = record { source = host_of route.client; destination = host_of route.server }

-- a datagram goes this way
abbrev pub goes : Direction → Cut → Bool
goes d cut = same_direction (direction_of cut.route) d

abbrev pub form_number : Bool → ℕ
form_number true = 1
form_number false = 0

abbrev pub one_more : Cut → CutCount → CutCount
one_more cut c = record { datagrams = capped (c.datagrams + 1); formed = capped (c.formed + form_number cut.has_form) }

abbrev pub or_none : Option CutCount → CutCount
or_none None = record { datagrams = 0; formed = 0 }
or_none (Some c) = c

-- what is counted of a direction
abbrev pub count_in : CutNotes → Direction → CutCount
count_in c d = or_none (lookup (same_direction d) c.entries)

-- one datagram more was counted: at its direction and no other one, as long as each is told apart
pub record TakesCut (cut : Cut) (old new : CutNotes) : Type 0 where
  pub all : new.datagrams ≡ capped (old.datagrams + 1)
  pub apart : new.further ≡ 0 → old.further ≡ 0
  pub each : new.further ≡ 0 → (d : Direction)
      → count_in new d ≡ (if goes d cut then one_more cut (count_in old d) else count_in old d)

-- a datagram goes this way, and has the form of RaSTA as far as it was captured
abbrev pub is_formed : Direction → Cut → Bool
is_formed d cut = goes d cut && cut.has_form

abbrev pub counted_of : Direction → List Cut → CutCount
counted_of d cuts = record {
  datagrams = capped (length (filter (goes d) cuts));
  formed = capped (length (filter (is_formed d) cuts));
}

-- of these datagrams: how many there are, and as long as each direction is told apart, how many of each one
pub record AreCounted (cuts : List Cut) (c : CutNotes) : Type 0 where
  pub all : c.datagrams ≡ capped (length cuts)
  pub each : c.further ≡ 0 → (d : Direction) → count_in c d ≡ counted_of d cuts

-- the datagrams in these frames that weren't captured whole
abbrev pub cuts_in : List (List ℕ) → List Cut
cuts_in frames = filter_map cut_in frames

-- one record more was taken in
abbrev pub TakesCutIf : Option Cut → CutNotes → CutNotes → Type 0
TakesCutIf None old new = new ≡ old
TakesCutIf (Some cut) old new = TakesCut cut old new
