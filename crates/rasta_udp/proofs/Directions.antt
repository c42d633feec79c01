-- The directions of channels, channel by channel.
use Rattle.std.proofs.Common.{◌≡◌, ℕ, ◌+◌, ◌<◌, ◌≤◌, List, [], ◌∷◌, length, drop, get_or, Bool, true, false, cond, ◌||◌, refl, ap, ◌∙◌, Option, Some, None}
use Rattle.std.specs.List.{list_any, find}
use Rattle.std.specs.Option.{option_map}
use Rattle.std.proofs.lemmas.List.{at_drop_more, at_drop_all}
use Rattle.rasta_pcap.specs.declared.fault.Side.{Side}
use Rattle.rasta_pcap.specs.declared.fault.Side.TheVariants.{Client, Server}
use Rattle.rasta_udp.specs.declared.channel.Channel.{Channel}
use Rattle.rasta_udp.specs.declared.channel.Endpoint.{Endpoint}
use Rattle.rasta_udp.specs.Frame.{Direction, directions_from}

or_assoc : (a b c : Bool) → ((a || b) || c) ≡ (a || (b || c))
or_assoc true b c = refl
or_assoc false b c = refl

-- some direction passes exactly where some channel does in one of its two directions
pub any_direction : (p : Endpoint → Endpoint → Bool) (number : ℕ) (channels : List Channel) →
    list_any (λ (c : Channel). p c.client c.server || p c.server c.client) channels
    ≡ list_any (λ (d : Direction). p d.source d.destination) (directions_from number channels)
any_direction p number [] = refl
any_direction p number (c ∷ channels) =
    ap (λ b. (p c.client c.server || p c.server c.client) || b) (any_direction p (number + 1) channels)
    ∙ or_assoc (p c.client c.server) (p c.server c.client) _

-- the first direction that passes, of channels whose first has this number
unfoldable pub direction_from : (Endpoint → Endpoint → Bool) → ℕ → List Channel → Option Direction
direction_from p number channels = find (λ (d : Direction). p d.source d.destination) (directions_from number channels)

-- what is handed out of a direction
abbrev pub named : Option Direction → Option (ℕ × Side)
named o = option_map (λ (d : Direction). (d.channel, d.side)) o

-- the first of a channel's two directions that passes, or else the rest
abbrev first_of : Bool → Bool → ℕ → Endpoint → Endpoint → Option Direction → Option Direction
first_of a b number x y rest =
    cond a (Some (record { channel = number; side = Client; source = x; destination = y }))
    (cond b (Some (record { channel = number; side = Server; source = y; destination = x })) rest)

-- the side that sends on one channel
abbrev pub side_on : (Endpoint → Endpoint → Bool) → Channel → Option Side
side_on p c = option_map (λ (d : Direction). d.side) (direction_from p 1 (c ∷ []))

sends_by_test : (a b : Bool) (number : ℕ) (x y : Endpoint) (rest : Option Direction) (s : Side) →
    option_map (λ (d : Direction). d.side) (first_of a b 1 x y None) ≡ Some s → named (first_of a b number x y rest) ≡ Some (number, s)
sends_by_test true b number x y rest s e = ap (option_map (λ (t : Side). (number, t))) e
sends_by_test false true number x y rest s e = ap (option_map (λ (t : Side). (number, t))) e
sends_by_test false false number x y rest s e = cc

passed_by_test : (a b : Bool) (number : ℕ) (x y : Endpoint) (rest : Option Direction) →
    option_map (λ (d : Direction). d.side) (first_of a b 1 x y None) ≡ None → first_of a b number x y rest ≡ rest
passed_by_test true b number x y rest e = cc
passed_by_test false true number x y rest e = cc
passed_by_test false false number x y rest e = refl

module _ (p : Endpoint → Endpoint → Bool) (number : ℕ) (channels : List Channel) (i : ℕ) (d : Channel) (below : i < length channels) where
  -- a side sends on the channel at i, which decides
  pub sends_at : (s : Side) → side_on p (get_or channels i d) ≡ Some s →
      named (direction_from p number (drop i channels)) ≡ Some (number, s)
  unfolding direction_from
  sends_at s e = ap named (at_drop_more (direction_from p number) channels i d below) ∙ sends_by_test _ _ number _ _ _ s e

  -- no side sends on the channel at i, which is passed over
  pub passed_at : side_on p (get_or channels i d) ≡ None →
      direction_from p number (drop i channels) ≡ direction_from p (number + 1) (drop (i + 1) channels)
  unfolding direction_from
  passed_at e = at_drop_more (direction_from p number) channels i d below ∙ passed_by_test _ _ number _ _ _ e

-- no channel is left
pub all_gone : (p : Endpoint → Endpoint → Bool) (number : ℕ) (channels : List Channel) (i : ℕ) → length channels ≤ i →
    direction_from p number (drop i channels) ≡ None
unfolding direction_from
all_gone p number channels i h = at_drop_all (direction_from p number) channels i h
