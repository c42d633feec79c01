use Rattle.std.proofs.Common.{◌≡◌, ◌∙◌, ◌<◌, ◌++◌, ℕ, List, [], append-nil, length, take, ap, arith, subst}
use Rattle.std.specs.Io.KnownBytes.{Consumes}
use Rattle.std.proofs.KnownBytes.{Appends-nil, Appends-trans, Consumes-nil, Consumes-trans}
use Rattle.seatmelon_cooked.proofs.Copied.{copied_all}
use Rattle.seatmelon_cooked.proofs.filling.copy.Goals as goal

pub loop-init : goal.loop-init
loop-init g c = ([], Consumes-nil (g.S.Source.remaining c.args.source.now), Appends-nil (g.W.Sink.contents c.args.writer.now))

pub loop-preserved : goal.loop-preserved
loop-preserved g c =
    let piece = take c.in-Ok.n c.read.new.buf in (
      c.loop.invariant.0 ++ piece,
      Consumes-trans (g.S.Source.remaining c.args.source.now) (g.S.Source.remaining c.loop.source) (g.S.Source.remaining c.read.new.self) c.loop.invariant.0 piece
          c.loop.invariant.1 c.in-Ok.ensures.bytes.0,
      Appends-trans (g.W.Sink.contents c.args.writer.now) (g.W.Sink.contents c.loop.writer) (g.W.Sink.contents c.write_all.new.writer) c.loop.invariant.0 piece
          c.loop.invariant.2 c.in_ok-write_all.ensures.out,
    )

pub returns-then-n-eq0-clause-written : goal.returns-then-n-eq0-clause-written
returns-then-n-eq0-clause-written g c =
    let source = g.S.Source.remaining c.args.source.now in
    let done = c.loop.invariant.0 in
    let room : 0 < length c.read.new.buf = omega (arith, c.read.auto.buf) in
    let none : take c.in-Ok.n c.read.new.buf ≡ [] = ap (λ (k : ℕ). take k c.read.new.buf) c.if-n-eq0.true in
    let lost : Consumes source (g.S.Source.remaining c.read.new.self) done =
    subst (Consumes source (g.S.Source.remaining c.read.new.self)) (ap (λ (l : List ℕ). done ++ l) none ∙ append-nil done)
    (Consumes-trans source (g.S.Source.remaining c.loop.source) (g.S.Source.remaining c.read.new.self) done (take c.in-Ok.n c.read.new.buf) c.loop.invariant.1 c.in-Ok.ensures.bytes.0) in
    copied_all source (g.S.Source.remaining c.read.new.self) (g.W.Sink.contents c.args.writer.now) (g.W.Sink.contents c.loop.writer) done lost
    (c.in-Ok.ensures.bytes.1 c.if-n-eq0.true room) c.loop.invariant.2
