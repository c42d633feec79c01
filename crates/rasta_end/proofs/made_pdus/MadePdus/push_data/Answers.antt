use Rattle.std.proofs.Common.{rules, refl}
use Rattle.rasta_pdu.specs.Pdu.{value_of}
use Rattle.rasta_end.proofs.Pushing.{data-own}
use Rattle.rasta_end.proofs.made_pdus.MadePdus.push_data.Goals as goal

pub invariant_of-self-2 : goal.invariant_of-self-2
invariant_of-self-2 c =
    data-own _ _ _ c.made_pdu-made.result (value_of c.args.pdu.now).safety c.args.unit c.self.view_is c.self.invariant c.made_pdu-made.ensures.pdu c.made_pdu-made.ensures.conveyed refl refl (search rules)
    c.content.result (search rules) refl c.requires c.content.ensures
