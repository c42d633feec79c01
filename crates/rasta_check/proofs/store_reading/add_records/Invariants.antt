use Rattle.std.proofs.Common.{◌≡◌, ◌-◌, ◌≤◌, List, ℕ, Option}
use Rattle.rasta_check.proofs.Prelude.{crossing_left}
use Rattle.rasta_pcap.specs.declared.stream.Progress.TheVariants.{Reading}
use Rattle.rasta_pcap.specs.Extent.{HasRead}
use Rattle.rasta_pcap.specs.Stream.{order_in, progress_of}
use Rattle.rasta_check.proofs.Internals.PartialReading.{IsUnderway}
use Rattle.rasta_check.proofs.store_reading.add_records.Given as goal

-- what crosses by the records that are left crosses by all, no read failed, the reading goes on, and as many records were read
-- as were counted
abbrev pub invariant-loop : goal.invariant-loop
invariant-loop g l =
    ((left : ℕ) → left ≡ l.last - l.counter → IsUnderway (crossing_left l.fn.store l.fn.records l.last) (crossing_left l.store l.records left)
    (g.R.Source.remaining l.fn.reader) (g.R.Source.remaining l.reader))
    × (g.R.Source.failure_count l.reader ≡ g.R.Source.failure_count l.fn.reader)
    × (progress_of l.records ≡ Reading)
    × (l.counter ≤ l.last)
    × ((first : Option (List ℕ)) → HasRead (order_in l.fn.records) 0 first (g.R.Source.remaining l.fn.reader)
    → HasRead (order_in l.records) l.counter first (g.R.Source.remaining l.reader))
