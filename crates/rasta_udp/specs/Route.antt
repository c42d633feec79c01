-- From where to where a frame goes.
use Rattle.std.specs.Prelude.{ℕ, ◌+◌, List, length, slice_range, Option, None, Some, nat_lt, if◌then◌else◌}
use Rattle.rasta_udp.specs.declared.channel.Channel.{Channel}
use Rattle.rasta_udp.specs.declared.channel.Endpoint.{Endpoint}
use Rattle.rasta_udp.specs.Frame.{big_at, header_length_of, untagged}

-- the end whose address and port stand there
abbrev pub endpoint_at : List ℕ → ℕ → ℕ → Endpoint
endpoint_at frame address port =
    record { address = slice_range frame address (address + 4); port = big_at 2 port frame }

-- source and destination of a frame without a tag, if it is UDP over IPv4 and both ports were captured
abbrev pub route_by : List ℕ → Option Channel
route_by frame =
    if nat_lt (length frame) 34 then None
    else if nat_lt (length frame) (18 + header_length_of frame) then None
    else Some (record {
      client = endpoint_at frame 26 (14 + header_length_of frame);
      server = endpoint_at frame 30 (16 + header_length_of frame);
    })

unfoldable pub route_of : List ℕ → Option Channel
route_of frame = route_by (untagged frame)
