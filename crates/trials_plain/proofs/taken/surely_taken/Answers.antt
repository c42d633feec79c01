use Rattle.std.proofs.Common.{◌≡◌, ◌∙◌, ap}
use Rattle.rasta_check.specs.Model.Taken.{all_made}
use Rattle.trials_plain.specs.Plain.{copies_of, pdus}
use Rattle.trials_plain.proofs.Plainly.{ok_more, listed_units}
use Rattle.trials_plain.proofs.taken.surely_taken.Goals as goal

pub returns : goal.returns
returns c =
    let same : pdus c.as_slice-made.result.now ≡ all_made c.args.params.now c.args.side (copies_of c.args.own.now) = ap pdus c.as_slice-made.ensures.value ∙ c.in_ok-all.ensures in
    let data_is = ap copies_of c.as_slice.ensures.value ∙ c.in_ok-data_pdus.ensures in
    ok_more c.units_from.result (λ taken h. listed_units _ _ (copies_of c.args.peer.now) _ (copies_of c.args.own.now) _ _ c.units_taken.result
    same data_is c.units_taken.ensures c.first_of-listed.ensures h) c.units_from.ensures
