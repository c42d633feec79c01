use Rattle.std.proofs.Common.{◌≡◌, ◌-◌, IfSome, length}
use Rattle.rasta_pcap.specs.Capture.{max_captured}
use Rattle.seatmelon_cooked.specs.Ethernet.{most_records}
use Rattle.seatmelon_cooked.specs.Steps.{IsOnItsWay}
use Rattle.seatmelon_cooked.proofs.ethernet.write_records.Given as goal

-- what was written of the records so far, and what is still left for the others
abbrev pub invariant-loop : goal.invariant-loop
invariant-loop g l = record {
  room : length l.buffer ≡ max_captured;
  way : IfSome (g.S.Source.remaining l.fn.source) (λ bytes. IsOnItsWay (most_records - l.counter) l.form most_records bytes
      (g.S.Source.remaining l.source) (g.W.Sink.contents l.fn.writer) (g.W.Sink.contents l.writer));
}
