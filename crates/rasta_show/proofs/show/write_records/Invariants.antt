use Rattle.std.proofs.Common.{◌≡◌, ◌-◌, ◌≤◌}
use Rattle.rasta_pcap.specs.declared.stream.Progress.TheVariants.{Reading}
use Rattle.rasta_pcap.specs.Stream.{count_in, order_in, progress_of}
use Rattle.rasta_show.specs.Shown.{shown_left}
use Rattle.rasta_show.proofs.Bounds.{HasReadMore}
use Rattle.rasta_show.proofs.Streaming.{Streams, left_shown}
use Rattle.rasta_show.proofs.show.write_records.Given as goal

-- what was written, and then what the rest shows, is the whole text, no call of a device failed, the reading goes on, as
-- many records were read as were counted, and what decodes has the same parameters
abbrev pub invariant-loop : goal.invariant-loop
invariant-loop g l =
    Streams (shown_left l.params l.fn.records)
    (left_shown l.params (l.end - l.counter) (order_in l.records) (count_in l.records)) l.place
    (g.R.Source.remaining l.fn.reader) (g.R.Source.remaining l.reader) (g.W.Sink.contents l.fn.writer) (g.W.Sink.contents l.writer)
    × (g.R.Source.failure_count l.reader ≡ g.R.Source.failure_count l.fn.reader)
    × (g.W.Sink.failure_count l.writer ≡ g.W.Sink.failure_count l.fn.writer)
    × (progress_of l.records ≡ Reading)
    × (l.place ≤ l.counter)
    × (l.end ≡ l.params.last_record)
    × (l.counter ≤ l.end)
    × HasReadMore (order_in l.fn.records) (order_in l.records) l.counter (g.R.Source.remaining l.fn.reader) (g.R.Source.remaining l.reader)
    × (l.decoder ≡ l.params)
