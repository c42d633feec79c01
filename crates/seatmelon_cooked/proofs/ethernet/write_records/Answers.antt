use Rattle.std.proofs.Common.{◌≡◌, ℕ, suc, ◌+◌, ◌-◌, Option, IfSome, subst, arith}
use Rattle.seatmelon_cooked.specs.Ethernet.{most_records}
use Rattle.seatmelon_cooked.specs.Steps.{Goes, IsOnItsWay}
use Rattle.seatmelon_cooked.specs.declared.record.Sent.{Sent}
use Rattle.seatmelon_cooked.proofs.Ways.{way_all, way_none, way_on}
use Rattle.seatmelon_cooked.proofs.ethernet.write_records.Goals as goal

pub loop-init : goal.loop-init
loop-init g c = record {
  room = c.requires;
  way = way_none c.args.form most_records (g.S.Source.remaining c.args.source.now) (g.W.Sink.contents c.args.writer.now);
}

pub loop-preserved : goal.loop-preserved
loop-preserved g c =
    let known = g.S.Source.remaining c.args.source.now in
    let mid = g.S.Source.remaining c.loop.source in
    let start = g.W.Sink.contents c.args.writer.now in
    let out = g.W.Sink.contents c.loop.writer in
    let new = g.S.Source.remaining c.write_next.new.source in
    let now = g.W.Sink.contents c.write_next.new.writer in
    let left : ℕ = most_records - (c.loop.counter + 1) in
    let one_less : most_records - c.loop.counter ≡ suc left = omega (arith, c.loop-test.true) in record {
      room = c.in_ok-sent.ensures.kept;
      way = way_on c.args.form most_records left known mid start out new now c.in-Some.sent
          (subst (λ (n : ℕ). IfSome known (λ bytes. IsOnItsWay n c.args.form most_records bytes mid start out)) one_less c.loop.invariant.way)
          (subst (λ (o : Option Sent). IfSome mid (λ rest. Goes c.args.form rest new out now o)) c.in-Some.is c.in_ok-sent.ensures.next);
    }

pub returns-in-None-clause-written : goal.returns-in-None-clause-written
returns-in-None-clause-written g c =
    let known = g.S.Source.remaining c.args.source.now in
    let mid = g.S.Source.remaining c.loop.source in
    let start = g.W.Sink.contents c.args.writer.now in
    let out = g.W.Sink.contents c.loop.writer in
    let new = g.S.Source.remaining c.write_next.new.source in
    let now = g.W.Sink.contents c.write_next.new.writer in
    let left : ℕ = most_records - (c.loop.counter + 1) in
    let one_less : most_records - c.loop.counter ≡ suc left = omega (arith, c.loop-test.true) in
    way_all c.args.form most_records left known mid start out new now
    (subst (λ (n : ℕ). IfSome known (λ bytes. IsOnItsWay n c.args.form most_records bytes mid start out)) one_less c.loop.invariant.way)
    (subst (λ (o : Option Sent). IfSome mid (λ rest. Goes c.args.form rest new out now o)) c.in-None.is c.in_ok-sent.ensures.next)
