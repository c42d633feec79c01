use Rattle.std.proofs.Common.{rules, ◌≡◌, ◌∙◌, ◌≤◌, ◌+◌, ◌++◌, ◌∷◌, [], refl, ap, arith, length}
use Rattle.std.proofs.lemmas.List.{length_push}
use Rattle.trials_plain.proofs.Plainly.{conveyed-more, at_most-more, at_most-push, one_or_none, one_at_most}
use Rattle.trials_plain.proofs.taken.units_along.Goals as goal

pub loop-pdu-preserved : goal.loop-pdu-preserved
loop-pdu-preserved c =
    let before = c.loop-pdu.units.items in
    let pushed : c.push.new.self.items ≡ before ++ c.units_after.result ∷ [] = search rules in
    let long : length c.push.new.self.items ≡ length before + 1 = ap length pushed ∙ length_push before c.units_after.result in
    let fits : c.units_after.result ≤ length before + 1 = search rules in
    record {
      conveyed =
          conveyed-more c.in_ok-asks.asks.items before c.push.new.self.items c.args.own.now c.loop-pdu.pdu-index c.units_after.result c.loop-pdu.responses _ _ _ c.loop-pdu-test.true refl
          search rules pushed (ap (λ n. c.loop-pdu.responses + n) (c.from-responses.ensures ∙ one_or_none _ _ c.is.ensures))
          ∙ c.loop-pdu.invariant.conveyed;
      few = rw long (rw pushed (at_most-push (length before + 1) before c.units_after.result fits (at_most-more (length before) (length before + 1) before (omega arith) c.loop-pdu.invariant.few)));
      responses = (let one = one_at_most c.is.result in omega (arith, one, c.from-responses.ensures, c.loop-pdu.invariant.responses));
    }
