use Rattle.rasta_check.specs.Capture.Building.{crossed_in}
use Rattle.seatmelon_reading.proofs.Passing.{kept_params}
use Rattle.seatmelon_audit.proofs.line.Line.judge.Goals as goal

pub invariant_of-self : goal.invariant_of-self
invariant_of-self c = record {
  window = c.args.self.now.window;
  recorded = kept_params c.args.self.now.params (crossed_in c.args.self.now.builder) (crossed_in c.add.new.self) (c.args.record.now.number, c.args.record.now.bytes.now) c.add.result _ _
      c.add.ensures.value (λ x h. h.0) c.add.ensures.kept c.args.self.now.recorded;
}
