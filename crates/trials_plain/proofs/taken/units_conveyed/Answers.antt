use Rattle.std.proofs.Common.{◌≡◌, ◌∙◌, List, ap}
use Rattle.rasta_pdu.specs.Pdu.{SafetyPdu}
use Rattle.rasta_check.specs.Model.Taken.{all_made, units_along, pdus_of}
use Rattle.trials_plain.specs.Plain.{copies_of, pdus}
use Rattle.trials_plain.proofs.Plainly.{ok_more}
use Rattle.trials_plain.proofs.taken.units_conveyed.Goals as goal

pub returns : goal.returns
returns c =
    let same : pdus c.as_slice.result.now ≡ all_made c.args.params.now c.args.side (copies_of c.args.own.now) = ap pdus c.as_slice.ensures.value ∙ c.in_ok-made.ensures in
    ok_more c.units_along.result (λ units h. h ∙ ap (λ (own : List SafetyPdu). units_along own (pdus_of (copies_of c.args.peer.now))) same) c.units_along.ensures
