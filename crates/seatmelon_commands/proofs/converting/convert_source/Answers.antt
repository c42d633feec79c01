use Rattle.std.proofs.Common.{◌≡◌, ◌∙◌, ◌<◌, [], List, ℕ, length, drop, take, ap, arith, subst}
use Rattle.std.specs.Io.KnownBytes.{Appends}
use Rattle.seatmelon_pcapng.proofs.Passing.{IfSome-is}
use Rattle.seatmelon_commands.proofs.Written.{format_met, piece_held, written_more, written_none}
use Rattle.seatmelon_commands.proofs.converting.convert_source.Goals as goal

pub loop-init : goal.loop-init
loop-init g c =
    let remaining = g.S.Source.remaining in record {
      room = c.in_ok-resize.ensures.len;
      written = IfSome-is _ (remaining c.args.source) (λ file is.
          written_none remaining g.S.Source.notes (g.S.Source.notes c.args.source []) file c.in_ok-capture.capture (g.W.Sink.contents c.args.writer.now)
          (rw is at c.in_ok-capture.ensures.left) (rw is at c.in_ok-capture.ensures.noted));
    }

pub loop-preserved : goal.loop-preserved
loop-preserved g c =
    let remaining = g.S.Source.remaining in
    let buf = c.read.new.buf in
    let n = c.in-Ok.n in
    let size : length buf ≡ c.loop.buffer.len = omega (arith, c.read.auto.buf, c.deref_mut.ensures.len) in
    let piece = piece_held n c.loop.buffer.len buf (drop (length buf) c.loop.buffer.items) c.deref.result.now c.deref.ensures.value size in
    let out = subst (λ (l : List ℕ). Appends (g.W.Sink.contents c.loop.writer) (g.W.Sink.contents c.write_all.new.writer) l) piece c.in_ok-write_all.ensures.out in record {
      room = c.loop.invariant.room;
      written = IfSome-is _ (remaining c.args.source) (λ file is.
          written_more remaining g.S.Source.notes (g.S.Source.notes c.args.source []) file c.loop.capture (g.W.Sink.contents c.args.writer.now)
          (g.W.Sink.contents c.loop.writer) (rw is at c.loop.invariant.written) c.read.new.self (take n buf) c.in-Ok.ensures.bytes.0 c.in-Ok.ensures.noted
          (g.W.Sink.contents c.write_all.new.writer) out);
    }

pub returns-then-n-eq0-clause-format : goal.returns-then-n-eq0-clause-format
returns-then-n-eq0-clause-format g c =
    let remaining = g.S.Source.remaining in
    let buf = c.read.new.buf in
    let room : 0 < length buf = omega (arith, c.read.auto.buf, c.deref_mut.ensures.len, c.loop.invariant.room) in
    IfSome-is _ (remaining c.args.source) (λ file is noted.
    c.format.ensures ∙ format_met remaining g.S.Source.notes (g.S.Source.notes c.args.source []) file c.loop.capture (g.W.Sink.contents c.args.writer.now)
    (g.W.Sink.contents c.loop.writer) (rw is at c.loop.invariant.written) c.read.new.self (take c.in-Ok.n buf) c.in-Ok.ensures.bytes.0 c.in-Ok.ensures.noted
    (ap (λ (k : ℕ). take k buf) c.if-n-eq0.true) (c.in-Ok.ensures.bytes.1 c.if-n-eq0.true room) noted)
