-- The header of a record, as far as a reader gave it.
use Rattle.std.specs.Prelude.{ℕ, ◌+◌, List, length, nat_lt, nat_le, ◌==◌, if◌then◌else◌, Option, Some, None, Result, Ok}
use Rattle.std.specs.Prelude.{Err}
use Rattle.rasta_pcap.specs.declared.fault.Fault.{Fault}
use Rattle.rasta_pcap.specs.declared.pcap.Endianness.{Endianness}
use Rattle.rasta_pcap.specs.Fault.{fault_at, cut_record, too_many, record_too_long}
use Rattle.rasta_pcap.specs.Capture.{max_records, max_captured, captured_length}

-- what a record's front says, of which fewer than 16 bytes stand at the end of input alone: none at
-- the exact end, how many bytes were captured, or the first fault
abbrev pub front_of : Endianness → ℕ → List ℕ → Result (Option ℕ) Fault
front_of order count front =
    if length front == 0 then Ok None
    else if nat_le max_records count then Err (fault_at too_many (count + 1))
    else if nat_lt (length front) 16 then Err (fault_at cut_record (count + 1))
    else if nat_lt max_captured (captured_length order front) then Err (fault_at record_too_long (count + 1))
    else Ok (Some (captured_length order front))
