use Rattle.std.proofs.Common.{◌≡◌, ◌∙◌, List, ap, filter, flat_map, length, refl, sym, subst, ℕ}
use Rattle.rasta_check.specs.declared.sights.ShownUnit.{ShownUnit}
use Rattle.seatmelon_account.specs.Messages.{AreFirstTaken}
use Rattle.seatmelon_account.specs.Middle.{AreToldSo, data_told, is_proved, packets_in, told_units}
use Rattle.seatmelon_account.specs.declared.messages.Message.{Message}
use Rattle.seatmelon_account.proofs.Windows.{front_first, proved_first}
use Rattle.seatmelon_account.proofs.middle.direction.Goals as goal

pub returns : goal.returns
returns c =
    let r = c.args.reading.now in
    let messages = c.in_ok-messages.messages.items in
    let units : c.told_units.result.0.now ≡ told_units c.args.units.now = c.told_units.ensures.told in
    let told = subst (λ (l : List ShownUnit). AreToldSo (flat_map (data_told r.store.params (packets_in r)) l) messages) units c.in_ok-messages.ensures in
    let taken = c.count_proved.ensures ∙ ap (λ (l : List Message). length (filter is_proved l)) c.deref.ensures.value in record {
      end = refl;
      messages = told;
      taken = taken;
      first = subst (λ (n : ℕ). AreFirstTaken n messages) (sym taken) (proved_first r.store.params (packets_in r) (told_units c.args.units.now) messages (front_first c.args.units.now _ c.requires) told.all);
    }
