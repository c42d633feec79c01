-- By which hosts a connection's ends are known.
use Rattle.std.specs.Prelude.{Bool, ◌||◌, List}
use Rattle.std.specs.List.{list_any}
use Rattle.std.specs.Str.{bytes_eq}
use Rattle.rasta_udp.specs.declared.channel.Channel.{Channel}
use Rattle.seatmelon_connections.specs.declared.channel.ChannelCounts.{ChannelCounts}
use Rattle.seatmelon_connections.specs.declared.channel.End.{End}
use Rattle.seatmelon_connections.specs.declared.channel.End.TheVariants.{First, Second}

abbrev pub other_end : End → End
other_end First = Second
other_end Second = First

-- a channel with its ends exchanged
abbrev pub reversed : Channel → Channel
reversed x = record { client = x.server; server = x.client }

-- the channel of a packet that an end sent on this way: its client is the first end
abbrev pub channel_of : End → Channel → Channel
channel_of First route = route
channel_of Second route = reversed route

-- an end has the same address on both channels
abbrev pub shares_host : Channel → Channel → Bool
shares_host a b = bytes_eq a.client.address b.client.address || bytes_eq a.server.address b.server.address

-- a packet that an end sent on this way is known by its hosts: one of them has an address that its end has on one of these
-- channels
abbrev pub knows_host : List ChannelCounts → End → Channel → Bool
knows_host counts sender route =
    list_any (λ (x : ChannelCounts). shares_host x.channel (channel_of sender route)) counts
