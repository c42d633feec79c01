-- Between which hosts a frame goes.
use Rattle.std.specs.Prelude.{ℕ, ◌+◌, ◌*◌, ◌^◌, ◌%◌, ◌/◌, List, nat_lt, if◌then◌else◌, Option, None, Some}
use Rattle.rasta_udp.specs.declared.channel.Endpoint.{Endpoint}
use Rattle.rasta_udp.specs.Frame.{Fields, address_of, fields_of, is_tagged, without_tag}

-- the addresses of two hosts as one number, the source's in its high half
abbrev pub hosts_between : Endpoint → Endpoint → ℕ
hosts_between source destination = address_of source * 2 ^ 32 + address_of destination

-- those of a frame without a tag; none where it is too short for a header of IPv4
abbrev pub hosts_in : Fields → Option ℕ
hosts_in x = if nat_lt x.captured 34 then None else Some (x.source_address * 2 ^ 32 + x.destination_address)

-- the frame without the one tag that is passed over
abbrev pub read_from : List ℕ → List ℕ
read_from frame = if is_tagged frame then without_tag frame else frame

abbrev pub hosts_of : List ℕ → Option ℕ
hosts_of frame = hosts_in (fields_of (read_from frame))

-- in which of so many buckets the ways between these hosts are
unfoldable pub bucket_of : ℕ → ℕ → ℕ
bucket_of hosts buckets = (hosts * 11400714819323198485 % 2 ^ 64 / 2 ^ 32) * buckets / 2 ^ 32
