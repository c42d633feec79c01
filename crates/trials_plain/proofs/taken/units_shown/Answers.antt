use Rattle.rasta_pdu.specs.Pdu.{value_of}
use Rattle.trials_plain.specs.Plain.{pdus}
use Rattle.trials_plain.proofs.Plainly.{shown-at}
use Rattle.trials_plain.proofs.taken.units_shown.Goals as goal

pub returns : goal.returns
returns c = λ peer same. shown-at (pdus c.args.own.now) peer c.args.units.now (value_of c.args.pdu.now).safety c.units_at.result c.confirmed_position.result same c.units_at.ensures c.confirmed_position.ensures
