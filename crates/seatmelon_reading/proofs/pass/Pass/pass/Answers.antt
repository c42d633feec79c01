use Rattle.std.proofs.Common.{refl}
use Rattle.rasta_check.specs.Capture.Building.{crossed_in}
use Rattle.seatmelon_reading.proofs.Passing.{next_outside}
use Rattle.seatmelon_reading.proofs.Told.{outside_same, still_next}
use Rattle.seatmelon_reading.proofs.Unjudged.{unjudged_same}
use Rattle.seatmelon_reading.proofs.pass.Pass.pass.Goals as goal

pub returns-in-Before : goal.returns-in-Before
returns-in-Before c = record {
  standing = let pass = c.args.self.now in next_outside pass.params pass.without.now (crossed_in pass.builder) pass.refusal (c.args.record.now.number, c.args.record.now.bytes.now) c.args.place
      pass.recorded pass.window.in_order c.in-Before.is c.requires.stands;
  told = λ records q passed count is timed. (let pass = c.args.self.now in
      still_next pass.notes.zero_is_no_time pass.params pass.without.now records q pass.refusal c.args.record.now.number c.args.record.now.bytes.now is
      (outside_same pass.params pass.without.now records q c.args.record.now.number c.args.record.now.bytes.now c.args.place c.in-Before.is c.requires.stands is) passed.refused passed.told);
  unjudged = λ records q stored before is. (let pass = c.args.self.now in
      unjudged_same pass.params pass.without.now records q (crossed_in pass.builder) pass.unjudged
      (outside_same pass.params pass.without.now records q c.args.record.now.number c.args.record.now.bytes.now c.args.place c.in-Before.is c.requires.stands is) before);
  kept = record { params = refl; without = refl; notes = refl; stays = λ r e. refl };
  err = tt;
}
