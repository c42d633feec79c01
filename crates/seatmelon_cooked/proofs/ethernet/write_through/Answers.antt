use Rattle.std.proofs.Common.{sym, take}
use Rattle.seatmelon_cooked.proofs.Files.{file_as_it_is, file_of_frames}
use Rattle.seatmelon_cooked.proofs.ethernet.write_through.Goals as goal

pub returns-in_ok-write_records-in-Some-clause-written : goal.returns-in_ok-write_records-in-Some-clause-written
returns-in_ok-write_records-in-Some-clause-written g c =
    file_of_frames c.in-Some.form (g.S.Source.remaining c.args.source.now) (g.S.Source.remaining c.fill.new.source) (g.W.Sink.contents c.args.writer.now)
    (g.W.Sink.contents c.write_header.new.writer) (g.W.Sink.contents c.write_records.new.writer) (take c.in_ok-filled.filled c.fill.new.buf)
    c.in_ok-filled.ensures.filled (sym c.in-Some.ensures.told) c.in-Some.ensures.size c.in_ok-write_header-in-Some.ensures.written c.in_ok-write_records-in-Some.ensures.written

pub returns-in_ok-write_rest-in-None-clause-written : goal.returns-in_ok-write_rest-in-None-clause-written
returns-in_ok-write_rest-in-None-clause-written g c =
    file_as_it_is (g.S.Source.remaining c.args.source.now) (g.S.Source.remaining c.fill.new.source) (g.W.Sink.contents c.args.writer.now)
    (g.W.Sink.contents c.write_rest.new.writer) (take c.in_ok-filled.filled c.fill.new.buf)
    c.in_ok-filled.ensures.filled (sym c.in-None.ensures.told) c.in_ok-write_rest-in-None.ensures.written
