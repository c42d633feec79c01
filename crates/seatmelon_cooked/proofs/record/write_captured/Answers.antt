use Rattle.std.proofs.Common.{◌≡◌, ◌<◌, length, length-take-le, take, arith}
use Rattle.seatmelon_cooked.proofs.Records.{goes_cut, goes_whole}
use Rattle.seatmelon_cooked.proofs.record.write_captured.Goals as goal

pub returns-then-read-captured-clause-next : goal.returns-then-read-captured-clause-next
returns-then-read-captured-clause-next g c =
    let packet = take c.in_ok-read.read c.fill.new.buf in
    let cut : length packet < c.args.captured = omega (arith, length-take-le c.in_ok-read.read c.fill.new.buf (omega (arith, c.in_ok-read.ensures.bound, c.fill.ensures.kept))) in
    goes_cut c.args.form c.args.header.now c.args.captured c.requires.size c.requires.told
    (g.S.Source.remaining c.args.source.now) (g.S.Source.remaining c.fill.new.source) (g.W.Sink.contents c.args.writer.now) (g.W.Sink.contents c.write_cut.new.writer)
    packet c.in_ok-read.ensures.filled cut c.in_ok-write_cut.ensures.written

pub returns-clause-next : goal.returns-clause-next
returns-clause-next g c =
    let packet = take c.in_ok-read.read c.fill.new.buf in
    let size : length packet ≡ c.in_ok-read.read = length-take-le c.in_ok-read.read c.fill.new.buf (omega (arith, c.in_ok-read.ensures.bound, c.fill.ensures.kept)) in
    let full : length packet ≡ c.args.captured = omega (arith, c.in_ok-read.ensures.bound) in
    goes_whole c.args.form c.args.header.now c.args.captured c.requires.size c.requires.told c.requires.most c.in_ok-write_record.field-0
    (g.S.Source.remaining c.args.source.now) (g.S.Source.remaining c.fill.new.source) (g.W.Sink.contents c.args.writer.now) (g.W.Sink.contents c.write_record.new.writer)
    packet c.in_ok-read.ensures.filled full c.in_ok-write_record.ensures.written
