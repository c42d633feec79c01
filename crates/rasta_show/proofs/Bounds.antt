-- How many records were read after a header, and how far a reading goes then.
use Rattle.std.proofs.Common.{◌≡◌, ℕ, ◌+◌, ◌<◌, ◌≤◌, List, Option, arith}
use Rattle.rasta_pcap.specs.declared.pcap.Endianness.{Endianness}
use Rattle.rasta_pcap.specs.Capture.{Numbered}
use Rattle.rasta_pcap.specs.Extent.{HasRead, ReadsWithinRecord}
use Rattle.rasta_pcap.specs.Stream.{ReadsRecord}
use Rattle.rasta_pcap.proofs.Extents.{HasRead-more, ReadsUpToRecord-part, ReadsUpToRecord-whole}
use Rattle.rasta_line.specs.Runs.{GoesUpToRecord}

-- where the header of a capture was read before and no record, exactly so many records were read
abbrev pub HasReadMore : Endianness → Endianness → ℕ → Option (List ℕ) → Option (List ℕ) → Type 0
HasReadMore first_order order count old new = (first : Option (List ℕ)) → HasRead first_order 0 first old → HasRead order count first new

pub HasReadMore-more : (first_order order : Endianness) (read count : ℕ) (r : Numbered) (old mid new : Option (List ℕ))
    → HasReadMore first_order order read old mid → ReadsRecord order count r mid new → HasReadMore first_order order (read + 1) old new
HasReadMore-more first_order order read count r old mid new h found first start = HasRead-more order read count r first mid new (h first start) found

-- all of these records
pub GoesUpToRecord-whole : (limit end : ℕ) (first_order order : Endianness) (read : ℕ) (old new : Option (List ℕ))
    → HasReadMore first_order order read old new → read ≤ end → end ≡ limit → GoesUpToRecord first_order limit old new
GoesUpToRecord-whole limit end first_order order read old new h fits is first start =
    ReadsUpToRecord-whole limit order read first new (h first start) (omega arith)

-- these records, and some bytes of one more
pub GoesUpToRecord-part : (limit end : ℕ) (first_order order : Endianness) (read : ℕ) (old mid new : Option (List ℕ))
    → HasReadMore first_order order read old mid → read < end → end ≡ limit → ReadsWithinRecord order mid new
    → GoesUpToRecord first_order limit old new
GoesUpToRecord-part limit end first_order order read old mid new h below is within first start =
    ReadsUpToRecord-part limit order read first mid new (h first start) (omega arith) within
