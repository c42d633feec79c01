use Rattle.std.proofs.Common.{Result, Ok, ap, sym, refl, arith, subst}
use Rattle.rasta_build.proofs.Prelude.{IfErr, Pass}
use Rattle.rasta_build.specs.Stopping.{IsStopped}
use Rattle.rasta_build.specs.declared.obstacles.Stop.{Stop}
use Rattle.rasta_build.proofs.Answering.{passes_more, pass_stops, pass_ends, are_bound, err_is}
use Rattle.rasta_build.proofs.proposal.pass_through.Goals as goal

pub loop-init : goal.loop-init
loop-init g c = ap (λ (t : Pass). Ok t) (sym c.new-pass.ensures)

pub explain_next-requires : goal.explain_next-requires
explain_next-requires g c κs =
    let b = are_bound c.args.p.now c.args.packets (g.S.SentList.content c.args.client.now) (g.S.SentList.content c.args.server.now) c.loop.counter c.loop.pass c.requires c.loop.invariant in
    let fc = c.requires.2.sent.few_client in
    let fs = c.requires.2.sent.few_server in
    ((refl, tt), ((b.own_params, b.other_params), ((b.own_accepted, b.other_accepted), (omega (arith, fc), omega (arith, fs)))))

pub returns-in_err-explain_next-clause-err : goal.returns-in_err-explain_next-clause-err
returns-in_err-explain_next-clause-err g c =
    let client = g.S.SentList.content c.args.client.now in
    let server = g.S.SentList.content c.args.server.now in
    let stop = c.in_err-explain_next.field-0.0 in
    let handed = err_is c.from_residual.result stop c.from_residual.ensures.0 c.from_residual.ensures.1 in
    let x = c.from.ensures in
    let y = c.from-2.ensures in
    let lc = c.len.ensures.value in
    let ls = c.len-2.ensures.value in
    let low = c.loop-test.true in
    subst (λ (r : Result Pass Stop). IfErr r (IsStopped c.args.p.now client server)) (sym handed)
    (pass_stops c.args.p.now client server c.loop.counter c.loop.pass stop (omega (arith, x, y, lc, ls, low)) c.loop.invariant c.in_err-explain_next.ensures.err)

pub loop-preserved : goal.loop-preserved
loop-preserved g c = passes_more c.args.p.now (g.S.SentList.content c.args.client.now) (g.S.SentList.content c.args.server.now) c.loop.counter c.loop.pass c.explain_next.new.self c.loop.invariant c.in_ok-explain_next.ensures.ok

pub returns-clause-ok : goal.returns-clause-ok
returns-clause-ok g c =
    let x = c.from.ensures in
    let y = c.from-2.ensures in
    let lc = c.len.ensures.value in
    let ls = c.len-2.ensures.value in
    let low = c.loop-test.false in
    let most = c.loop.auto.counter-end in
    pass_ends c.args.p.now (g.S.SentList.content c.args.client.now) (g.S.SentList.content c.args.server.now) c.loop.counter c.loop.pass (omega (arith, x, y, lc, ls, low, most)) c.loop.invariant
