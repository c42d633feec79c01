use Rattle.rasta_pcap.specs.Buffered as buffers
use Rattle.seatmelon_pcapng.proofs.Passing.{IfSome-is}
use Rattle.seatmelon_pcapng.proofs.Through.{capture_left}
use Rattle.seatmelon_pcapng.specs.Formats.{left_in}
use Rattle.seatmelon_show.proofs.Through.{why_told}
use Rattle.seatmelon_show.proofs.listing.list.Goals as goal

pub returns-clause-err : goal.returns-clause-err
returns-clause-err g c =
    let remaining = g.R.Source.remaining in
    let source = c.in_ok-source in
    why_told (buffers.left_in (left_in (λ s. remaining s.now)) source.source) (remaining c.args.reader.now)
    (IfSome-is _ (remaining c.args.reader.now) (λ file is. capture_left (λ s. remaining s.now) (λ s. g.R.Source.notes s.now) c.args.reader c.in_ok-capture.capture source.source
    source.ensures.source source.ensures.empty file is c.in_ok-capture.ensures.left))
    c.in-Err.fault c.fault_met.result c.fault_met.ensures.failed c.in-Err.ensures.err
