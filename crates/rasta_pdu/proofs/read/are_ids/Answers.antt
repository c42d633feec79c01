use Rattle.std.proofs.Common.{◌≡◌, Bool, true, false, ◌&&◌, sym, ap, ◌∙◌}
use Rattle.rasta_pdu.proofs.read.are_ids.Goals as goal

both : (r s a b : Bool) → r ≡ true → r ≡ a → s ≡ b → s ≡ (a && b)
both r s a b h e f = f ∙ ap (λ (x : Bool). x && b) (sym h ∙ e)

first : (r a b : Bool) → r ≡ false → r ≡ a → r ≡ (a && b)
first r a b h e = h ∙ ap (λ (x : Bool). x && b) (sym h ∙ e)

pub returns-then-has_id : goal.returns-then-has_id
returns-then-has_id c = both c.has_id.result c.has_id-then-has_id.result _ _ c.if-has_id.true c.has_id.ensures c.has_id-then-has_id.ensures

pub returns-else-has_id : goal.returns-else-has_id
returns-else-has_id c = first c.has_id.result _ _ c.if-has_id.false c.has_id.ensures
