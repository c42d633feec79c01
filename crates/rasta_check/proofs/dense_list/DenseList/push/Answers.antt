use Rattle.std.proofs.Common.{◌≡◌, ℕ, [], ◌∷◌, ◌++◌, ◌+◌, ◌<◌, List, map, length, refl, ap, sym, ◌∙◌, subst, arith}
use Rattle.rasta_check.proofs.Prelude.{length-map, Pdu, FirstCopy, IsOrdered, copy_of, map_push}
use Rattle.rasta_check.proofs.Internals.ListPushes.{marks_grown, few_more}
use Rattle.rasta_check.proofs.dense_list.DenseList.push.Goals as goal

pub invariant_of-self-2 : goal.invariant_of-self-2
invariant_of-self-2 c =
    let items = c.self.inside.copies.items in
    let x : ℕ × Pdu = (c.args.place, c.args.pdu) in
    let ordered : IsOrdered (map copy_of items ++ copy_of x ∷ []) = subst (λ (s : List FirstCopy). IsOrdered (s ++ copy_of x ∷ [])) (sym c.self.view_is) c.requires.ordered in
    let few : length (map copy_of items) + 1 < 4294967296 = (let a = ap length c.self.view_is in let b = c.requires.few in omega arith) in
    let reserved : c.try_reserve.new.self.items ≡ items = c.in_ok-try_reserve.ensures.items in
    let all = c.push_reserved.ensures.items ∙ ap (λ (xs : List (ℕ × Pdu)). xs ++ x ∷ []) reserved in
    let count : c.len.result ≡ length (map copy_of items) = (let a = c.len.ensures in let b = ap length reserved in let d = length-map items copy_of in let e = c.in_ok-try_reserve.ensures.len in omega arith) in
    let grown = map_push copy_of items _ x all in
    let rest = marks_grown (map copy_of items) _ (copy_of x) c.args.place c.len.result _ _ _ grown ordered c.self.invariant.1
    refl count c.reserve.ensures.same c.mark.ensures in
    (rest.0, rest.1, few_more _ _ _ _ grown few)
