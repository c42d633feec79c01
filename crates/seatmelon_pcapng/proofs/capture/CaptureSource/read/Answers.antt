use Rattle.rasta_pcap.specs.Noting.{given}
use Rattle.seatmelon_pcapng.specs.Peeked as peeked
use Rattle.seatmelon_pcapng.proofs.Formats.{converted-more, plain-more, read-consumes}
use Rattle.seatmelon_pcapng.proofs.capture.CaptureSource.read.Goals as goal

pub returns-in-Plain-clause-noted : goal.returns-in-Plain-clause-noted
returns-in-Plain-clause-noted g c =
    let remaining = g.S.Source.remaining in
    let old = c.in-Plain.peeked in
    plain-more remaining g.S.Source.notes c.args.self.now old c.read.new.self (given c.read.result c.read.new.buf) c.in-Plain.is c.read.ensures.noted
    (read-consumes (peeked.left_in remaining old) (peeked.left_in remaining c.read.new.self) c.read.result c.read.new.buf c.read.ensures.bytes)

pub returns-in-Converted-clause-noted : goal.returns-in-Converted-clause-noted
returns-in-Converted-clause-noted g c =
    let read = c.read-in-Converted in
    converted-more g.S.Source.remaining g.S.Source.notes c.args.self.now c.in-Converted.classic read.new.self (given read.result read.new.buf) c.in-Converted.is read.ensures.noted
