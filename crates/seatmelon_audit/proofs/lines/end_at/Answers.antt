use Rattle.std.proofs.Common.{◌∙◌, arith, refl, subst}
use Rattle.std.proofs.lemmas.List.{get_or_default}
use Rattle.seatmelon_audit.specs.Ends.{IsEnd}
use Rattle.seatmelon_audit.specs.declared.line.Line.{Line}
use Rattle.seatmelon_audit.proofs.lines.end_at.Goals as goal

pub returns-then-place-len : goal.returns-then-place-len
returns-then-place-len c = record {
  past = λ h. absurd (omega (arith, h, c.if-place-len.true, c.len.ensures));
  here = λ d h. (
    c.end.new.self,
    refl,
    subst (λ (l : Line). IsEnd c.args.fault l c.end.new.self) (c.index_mut.ensures.value ∙ get_or_default c.args.lines.now.items c.args.place _ d h)
        (record { ends = c.end.ensures.line; params = c.end.ensures.kept }),
  );
}
