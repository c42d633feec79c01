use Rattle.std.proofs.Common.{◌≡◌, ◌-◌, ◌≤◌, ◌∙◌, None, arith, rules}
use Rattle.rasta_build.proofs.Prelude.{accept_from, Unexplained}
use Rattle.std.proofs.lemmas.Grind.{common_steps}
use Rattle.rasta_build.proofs.Keeping.{accept_keeps, accept_more, accept_stuck}
use Rattle.rasta_build.proofs.script_builder.ScriptBuilder.accept_range.Goals as goal

pub loop-position-preserved : goal.loop-position-preserved
loop-position-preserved g c =
    let sent = g.S.SentList.content c.args.peer.now in
    let inv = c.loop-position.invariant in
    let from : c.args.first ≤ c.loop-position.position = omega arith in
    let step = c.in_ok-accept_at.ensures.ok in
    let kept = accept_keeps sent c.args.slot c.loop-position.position c.loop-position.self c.accept_at.new.self step in
    let last = kept.1 in
    record {
      accepts = accept_more sent c.args.slot c.args.first c.loop-position.position c.args.self.now c.loop-position.self c.accept_at.new.self from inv.accepts step;
      most = omega arith;
      params = kept.0 ∙ inv.params;
      accepted = omega (arith, last);
    }

pub returns-in_err-accept_at-clause-err : goal.returns-in_err-accept_at-clause-err
returns-in_err-accept_at-clause-err g c =
    let h : c.in_err-accept_at.field-0.0 ≡ Unexplained → accept_from (g.S.SentList.content c.args.peer.now) c.args.slot c.args.first (c.args.bound - c.args.first) c.args.self.now ≡ None =
    λ (e : c.in_err-accept_at.field-0.0 ≡ Unexplained). accept_stuck (g.S.SentList.content c.args.peer.now) c.args.slot c.args.first c.args.bound c.loop-position.position c.args.self.now c.loop-position.self
    (omega arith) (omega arith) c.loop-position.invariant.accepts (c.in_err-accept_at.ensures.err e) in
    first_of (search rules, grind (arith, common_steps))
