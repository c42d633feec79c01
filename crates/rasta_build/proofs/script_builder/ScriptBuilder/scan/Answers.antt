use Rattle.std.proofs.Common.{◌∙◌, length, ap, arith}
use Rattle.rasta_build.proofs.Prelude.{Built}
use Rattle.rasta_build.proofs.Keeping.{try_keeps, scan_on, scan_ends}
use Rattle.rasta_build.proofs.script_builder.ScriptBuilder.scan.Goals as goal

pub loop-position-preserved : goal.loop-position-preserved
loop-position-preserved g c =
    let sent = g.S.SentList.content c.args.peer.now in
    let inv = c.loop-position.invariant in
    let step = c.in_ok-try_at.ensures.ok in
    let kept = try_keeps sent c.args.place c.args.made c.loop-position.position c.loop-position.self c.try_at.new.self step in
    let more = kept.1 in
    let low = inv.accepted in
    let owes = ap (λ (b : Built). length b.end.state.owed) c.self.view_is in
    record {
      rest = inv.rest ∙ scan_on sent c.args.place c.args.made c.loop-position.position c.args.bound c.loop-position.self c.try_at.new.self (omega arith) step (omega (arith, owes, c.owed.ensures.value, c.if-owed-gt0.false));
      params = kept.0 ∙ inv.params;
      accepted = omega (arith, more, low);
    }

pub returns-then-owed-gt0-clause-ok : goal.returns-then-owed-gt0-clause-ok
returns-then-owed-gt0-clause-ok g c =
    let sent = g.S.SentList.content c.args.peer.now in
    let owes = ap (λ (b : Built). length b.end.state.owed) c.self.view_is in
    c.loop-position.invariant.rest
    ∙ scan_ends sent c.args.place c.args.made c.loop-position.position c.args.bound c.loop-position.self c.try_at.new.self (omega arith) c.in_ok-try_at.ensures.ok (omega (arith, owes, c.owed.ensures.value, c.if-owed-gt0.true))

pub returns-then-owed-gt0-clause-params : goal.returns-then-owed-gt0-clause-params
returns-then-owed-gt0-clause-params g c =
    let kept = try_keeps (g.S.SentList.content c.args.peer.now) c.args.place c.args.made c.loop-position.position c.loop-position.self c.try_at.new.self c.in_ok-try_at.ensures.ok in
    kept.0 ∙ c.loop-position.invariant.params
