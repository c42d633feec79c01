use Rattle.std.proofs.Common.{rules, ◌≡◌, ◌≤◌, ◌+◌, [], ◌∷◌, ◌++◌, length, arith, ap, sym, subst, ◌∙◌}
use Rattle.rasta_pdu.specs.Pdu.{value_of}
use Rattle.rasta_end.specs.State.{Made, kinds}
use Rattle.rasta_end.specs.Units.{responses_in}
use Rattle.rasta_end.specs.Kept.{OwnPdus}
use Rattle.rasta_end.specs.Judged.{responses_owed, responses_paid}
use Rattle.rasta_end.proofs.Pushing.{responses-made, length-made}
use Rattle.rasta_end.proofs.end.End.record_make.Goals as goal

pub invariant_of-self-2 : goal.invariant_of-self-2
invariant_of-self-2 c =
    let own = c.self.inside.own in
    let m : Made = record { pdu = (value_of c.args.pdu.now).safety; unit = c.unit_of.result } in
    let more : c.push.new.self ≡ record own { made = own.made ++ m ∷ [] } = search rules in
    let longer : length c.push.new.self.made ≡ length own.made + 1 = ap (λ (o : OwnPdus). length o.made) more ∙ length-made own.made m in
    let responses = responses-made own.made m own.asks (responses_owed c.self.inside.owes.reply) (responses_paid c.args.row) (responses_owed c.owes_after-self-inside.result.reply) c.self.invariant.responses c.requires.pays c.owes_after-self-inside.ensures.pays in
    record {
      deadline = c.self.invariant.deadline;
      confirmed = omega (arith, longer, c.self.invariant.confirmed);
      offered = omega (arith, longer, c.self.invariant.offered, c.offered_after-self-inside.ensures.most);
      room = omega (arith, longer, c.push.ensures.room);
      units = omega (arith, c.self.invariant.units, c.owes_after-self-inside.ensures.units, c.offered_after-self-inside.ensures.least);
      responses = subst (λ (o : OwnPdus). responses_in (kinds o.made) + responses_owed c.owes_after-self-inside.result.reply ≤ length o.asks) (sym more) responses;
    }
