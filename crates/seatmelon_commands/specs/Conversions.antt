-- What a file is converted to.
use Rattle.std.specs.Prelude.{ℕ, List, if◌then◌else◌}
use Rattle.seatmelon_cooked.specs.Ethernet.{ethernet_of}
use Rattle.seatmelon_pcapng.specs.Formats.{capture_of}
use Rattle.seatmelon_pcapng.specs.Peeked.{begins_pcapng}

-- the classic capture of a pcapng file; else the capture of Ethernet frames of packets with Linux cooked headers, which of
-- a file without them is the file itself
abbrev pub converted : List ℕ → List ℕ
converted file = if begins_pcapng file then capture_of file else ethernet_of file
