use Rattle.std.proofs.Common.{◌≡◌, None}
use Rattle.rasta_pcap.specs.declared.stream.Progress.TheVariants.{Reading}
use Rattle.rasta_pcap.specs.Extent.{HasRead}
use Rattle.rasta_pcap.specs.Noting.{PassesOn}
use Rattle.rasta_pcap.specs.Stream.{count_in, order_in, progress_of}
use Rattle.seatmelon_survey.specs.CutRecords.{HasCounted}
use Rattle.seatmelon_survey.specs.Survey.{cuts_of, fault_in, records_in}
use Rattle.seatmelon_survey.proofs.reading.survey.Given as goal

-- as many records were read as were counted, no read failed, no record has a fault, the reading goes on, and what was read
-- is noted
abbrev pub invariant-loop : goal.invariant-loop
invariant-loop g l =
    HasRead (order_in l.records) l.counter (g.R.Source.remaining l.fn.reader) (g.R.Source.remaining l.reader)
    × (g.R.Source.failure_count l.reader ≡ g.R.Source.failure_count l.fn.reader)
    × (progress_of l.records ≡ Reading)
    × (count_in l.records ≡ l.counter)
    × (records_in l.survey ≡ l.counter)
    × (fault_in l.survey ≡ None)
    × HasCounted (order_in l.records) l.counter (g.R.Source.remaining l.fn.reader) (g.R.Source.remaining l.reader) (cuts_of l.survey)
    × PassesOn g.R.Source.remaining g.R.Source.notes l.fn.reader l.reader
