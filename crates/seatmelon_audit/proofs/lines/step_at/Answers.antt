use Rattle.std.proofs.Common.{◌∙◌, arith, refl, subst}
use Rattle.std.proofs.lemmas.List.{get_or_default}
use Rattle.seatmelon_audit.specs.Lines.{HeldOnce, IsStep}
use Rattle.seatmelon_audit.specs.declared.line.Line.{Line}
use Rattle.seatmelon_audit.proofs.lines.step_at.Goals as goal

pub returns-then-place-len : goal.returns-then-place-len
returns-then-place-len c = record {
  step = record {
    past = λ h. absurd (omega (arith, h, c.if-place-len.true, c.len.ensures));
    here = λ d h. (
      c.step.new.self,
      refl,
      subst (λ (l : Line). IsStep l c.step.new.self (c.args.record.now.number, c.args.record.now.bytes.now) c.args.time)
          (c.index_mut.ensures.value ∙ get_or_default c.args.lines.now.items c.args.place _ d h) c.step.ensures.step,
    );
  };
  held = record {
    past = λ h. absurd (omega (arith, h, c.if-place-len.true, c.len.ensures));
    here = λ d h. subst (λ (l : Line). HeldOnce l (c.args.record.now.number, c.args.record.now.bytes.now) c.step.result)
        (c.index_mut.ensures.value ∙ get_or_default c.args.lines.now.items c.args.place _ d h) c.step.ensures.held;
  };
}
