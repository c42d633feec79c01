use Rattle.std.proofs.Common.{◌≡◌, ◌∙◌, ℕ, ◌+◌, List, length, Some, ap, arith, subst, sym}
use Rattle.std.proofs.lemmas.List.{length_push}
use Rattle.seatmelon_suppose.specs.Common.{IsUnder, proof_at}
use Rattle.seatmelon_suppose.specs.declared.filling.Listed.{Listed}
use Rattle.seatmelon_suppose.proofs.Agreement.{ProvedIn, proved-push}
use Rattle.seatmelon_suppose.proofs.Under.{under-push}
use Rattle.seatmelon_suppose.proofs.common.both.Goals as goal

pub loop-place-preserved : goal.loop-place-preserved
loop-place-preserved c =
    let inv = c.loop-place.invariant in
    let before = c.loop-place.both.items in
    let first = c.args.first.now in
    let other = c.args.other.now in
    let place = c.loop-place.place in
    let items = c.in_ok-push.ensures.items in record {
      count = ap length items ∙ length_push before c.later.result ∙ ap (λ n. n + 1) inv.count;
      first = subst (λ l. IsUnder l first) (sym items) (under-push before first c.later.result _ place inv.count (omega (arith, c.loop-place-test.true, c.min-place-end.ensures))
          c.later.ensures.data c.later.ensures.first inv.first);
      other = subst (λ l. IsUnder l other) (sym items) (under-push before other c.later.result _ place inv.count (omega (arith, c.loop-place-test.true, c.min-place-end.ensures))
          (c.later.ensures.data ∙ c.if-one-two.false) c.later.ensures.second inv.other);
      proved = subst (λ (l : List Listed). (i proof : ℕ) → proof_at i l ≡ Some proof → ProvedIn first other i proof) (sym items)
          (proved-push first other before c.later.result _ _ place inv.count (omega (arith, c.loop-place-test.true, c.min-place-end.ensures))
          (omega (arith, c.loop-place-test.true, c.min-place-end.ensures)) c.later.ensures.either inv.proved);
    }
