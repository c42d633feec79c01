use Rattle.std.proofs.Common.{rules, refl, ◌≡◌, arith, ap, ◌∙◌}
use Rattle.rasta_end.specs.State.{kinds}
use Rattle.rasta_end.specs.Units.{responses_in}
use Rattle.rasta_pdu.specs.Pdu.{value_of}
use Rattle.rasta_end.specs.Kept.{OwnPdus}
use Rattle.rasta_end.proofs.Pushing.{response-own}
use Rattle.rasta_end.proofs.Conveying.{responses_in-few, length-kinds}
use Rattle.rasta_end.proofs.made_pdus.MadePdus.push_response.Goals as goal

pub overflow_add-self : goal.overflow_add-self
overflow_add-self c =
    let few = responses_in-few (kinds c.args.self.now.made) in
    let same = length-kinds c.args.self.now.made in
    let responses : c.self.inside.responses ≡ responses_in (kinds c.args.self.now.made) = c.self.invariant.responses ∙ ap (λ (o : OwnPdus). responses_in (kinds o.made)) c.self.view_is in
    let room = c.made_pdu-made.ensures.room in
    omega (arith, few, same, responses, room)

pub invariant_of-self-2 : goal.invariant_of-self-2
invariant_of-self-2 c =
    response-own _ _ _ c.made_pdu-made.result (value_of c.args.pdu.now).safety c.args.unit c.self.view_is c.self.invariant c.made_pdu-made.ensures.pdu c.made_pdu-made.ensures.conveyed refl refl (search rules)
    refl refl c.requires
