use Rattle.std.proofs.Common.{◌≡◌, ◌-◌, ℕ}
use Rattle.rasta_check.proofs.Prelude.{reading, after_reading}
use Rattle.rasta_check.proofs.sent_reading.add_records.Given as goal

-- what crosses by the records that are left crosses by all
abbrev pub invariant-loop : goal.invariant-loop
invariant-loop l = (left : ℕ) → left ≡ l.last - l.counter → after_reading l.fn.sent (reading l.last l.fn.pcap) ≡ after_reading l.sent (reading left l.pcap)
