use Rattle.std.proofs.Common.{◌∙◌, ap, sym}
use Rattle.seatmelon_middle.specs.Told.{tells}
use Rattle.seatmelon_audit.proofs.answer.told_beside.Goals as goal

pub returns : goal.returns
returns c packets seen opens = record {
  told = sym c.if-not-is_told.false ∙ c.is_told.ensures ∙ ap (λ o. tells c.args.params.now o c.args.fault) opens;
  unfit = c.contradiction.ensures c.args.params.now packets seen;
  counts = (c.in_ok-lists.lists, c.in_ok-lists.ensures c.args.params.now packets seen, c.of.ensures);
}
