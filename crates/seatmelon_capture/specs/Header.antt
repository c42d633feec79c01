-- What the header of a capture file says.
use Rattle.std.specs.Prelude.{ℕ, ◌%◌, List, length, drop, nat_lt, Option, None, Some, if◌then◌else◌}
use Rattle.rasta_pcap.specs.declared.pcap.Endianness.{Endianness}
use Rattle.rasta_pcap.specs.Capture.{number_in, order_of}
use Rattle.seatmelon_capture.specs.declared.header.FileHeader.{FileHeader}

-- the snapshot length, and the lower half of the field of the link type, in the byte order in which the magic number
-- stands there; none without a magic number
abbrev pub header_by : Option Endianness → List ℕ → Option FileHeader
header_by None file = None
header_by (Some order) file = Some (record {
  link_type = number_in order 4 (drop 20 file) % 65536;
  snapshot_length = number_in order 4 (drop 16 file);
})

-- the header of a file that begins so; none of fewer than 24 bytes
abbrev pub header_in : List ℕ → Option FileHeader
header_in file = if nat_lt (length file) 24 then None else header_by (order_of file) file
