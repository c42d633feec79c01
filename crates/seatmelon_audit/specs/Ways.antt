-- Which connections record which hosts.
use Rattle.std.specs.Prelude.{◌≡◌, ◌<◌, ◌≤◌, ◌⊎◌, ℕ, List, length, nat_eq, nat_lt, true, false, None, Some, Ok}
use Rattle.std.specs.Prelude.{slice_get, slice_index_or}
use Rattle.std.specs.List.{Contains, filter}
use Rattle.std.specs.List.Sorted.{IsNonDecreasingBy, IsPartitionPoint}
use Rattle.rasta_udp.specs.declared.channel.Channel.{Channel}
use Rattle.rasta_udp.specs.Frame.{packet_in}
use Rattle.rasta_pdu.specs.Params.{Parameters}
use Rattle.seatmelon_audit.specs.Hosts.{bucket_of, hosts_between}
use Rattle.seatmelon_audit.specs.declared.ways.Way.{Way}

abbrev pub way_of : ℕ → ℕ → Way
way_of hosts line = record { hosts = hosts; line = line }

-- those of these between these hosts
abbrev pub ways_between : ℕ → List Way → List Way
ways_between hosts ways = filter (λ (w : Way). nat_eq w.hosts hosts) ways

-- by their buckets, of which there are so many
abbrev pub AreSorted : ℕ → List Way → Type 0
AreSorted buckets ways = IsNonDecreasingBy (λ (w : Way). bucket_of w.hosts buckets) ways

-- the ways of the buckets before this one stand before this place, the others don't
abbrev pub BeginAt : ℕ → ℕ → List Way → ℕ → Type 0
BeginAt buckets bucket ways place =
    IsPartitionPoint (λ (w : Way). nat_lt (bucket_of w.hosts buckets) bucket
    ≡ true) (λ (w : Way). nat_lt (bucket_of w.hosts buckets) bucket ≡ false) ways place

-- each of these is where a bucket begins
abbrev pub AreStarts : ℕ → List Way → List ℕ → Type 0
AreStarts buckets ways starts = (bucket : ℕ) (d : ℕ) → bucket < length starts
    → BeginAt buckets bucket ways (slice_index_or starts bucket d)

-- and each is a place among the ways, or their end
abbrev pub AreWithin : List Way → List ℕ → Type 0
AreWithin ways starts = (bucket : ℕ) (d : ℕ) → bucket < length starts → slice_index_or starts bucket d ≤ length ways

-- both ways over each of these channels are known, as this connection's
abbrev pub KnowsChannels : List Way → ℕ → List Channel → Type 0
KnowsChannels ways line channels = (c : Channel) → Contains channels c
    → Contains ways (way_of (hosts_between c.client c.server) line)
    × Contains ways (way_of (hosts_between c.server c.client) line)

-- the ways of each of these connections are known, by its place among them
abbrev pub KnowsAll : List Way → List Parameters → Type 0
KnowsAll ways params = (line : ℕ) (p : Parameters) → slice_get params line ≡ Some p → KnowsChannels ways line p.channels

-- the connection at this place is one of these ways'
abbrev pub IsNamed : List Way → ℕ → Type 0
IsNamed ways line = (w : Way) × Contains ways w × (w.line ≡ line)

-- each connection is named, or the frame holds neither a packet of its channels nor a faulty one of their hosts
abbrev pub NamesAll : List Way → List Parameters → List ℕ → Type 0
NamesAll ways params frame = (line : ℕ) (p : Parameters) → slice_get params line ≡ Some p
    → IsNamed ways line ⊎ (packet_in p.channels frame ≡ Ok None)
