use Rattle.std.proofs.Common.{◌≡◌, ℕ, [], ◌∷◌, ◌++◌, ◌+◌, ◌<◌, List, length, refl, ap, sym, ◌∙◌, subst, arith}
use Rattle.rasta_check.proofs.Prelude.{length-map, Pdu, FirstCopy, IsOrdered, copy_of}
use Rattle.rasta_check.specs.Capture.Lists.{copies_in}
use Rattle.rasta_check.proofs.Internals.ListPushes.{marks_grown, map_grown, few_more, keys_grown}
use Rattle.rasta_check.proofs.map_list.MapList.push.Goals as goal

pub invariant_of-self-2 : goal.invariant_of-self-2
invariant_of-self-2 c =
    let old = c.self.inside.copies in
    let x : ℕ × Pdu = (c.args.place, c.args.pdu) in
    let ordered : IsOrdered (copies_in old.entries ++ copy_of x ∷ []) = subst (λ (s : List FirstCopy). IsOrdered (s ++ copy_of x ∷ [])) (sym c.self.view_is) c.requires.ordered in
    let few : length (copies_in old.entries) + 1 < 4294967296 = (let a = ap length c.self.view_is in let b = c.requires.few in omega arith) in
    let count : c.len-position.result ≡ length (copies_in old.entries) = c.len-position.ensures.len ∙ sym (length-map old.entries _) in
    let keys = c.self.invariant.0 in
    let grown = map_grown old x ordered keys (omega (arith, few)) c.number.result _ c.number.ensures c.in-Ok.ensures.entries in
    let rest = marks_grown (copies_in old.entries) _ (copy_of x) c.args.place c.len-position.result _ _ _ grown ordered c.self.invariant.2
    refl count c.reserve.ensures.same c.mark.ensures in
    (keys_grown old x ordered keys (omega (arith, few)) c.number.result _ c.number.ensures c.in-Ok.ensures.entries, rest.0, rest.1, few_more _ _ _ _ grown few)

pub returns-clause-ok : goal.returns-clause-ok
returns-clause-ok c =
    let old = c.self.inside.copies in
    let x : ℕ × Pdu = (c.args.place, c.args.pdu) in
    let ordered : IsOrdered (copies_in old.entries ++ copy_of x ∷ []) = subst (λ (s : List FirstCopy). IsOrdered (s ++ copy_of x ∷ [])) (sym c.self.view_is) c.requires.ordered in
    let few : length (copies_in old.entries) < 4294967296 = (let a = ap length c.self.view_is in let b = c.requires.few in omega arith) in
    map_grown old x ordered c.self.invariant.0 few c.number.result _ c.number.ensures c.in-Ok.ensures.entries
    ∙ ap (λ (s : List FirstCopy). s ++ copy_of x ∷ []) c.self.view_is
