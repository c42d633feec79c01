use Rattle.std.proofs.Common.{◌∷◌, ◌++◌, ap, sym, ◌∙◌, arith}
use Rattle.std.specs.Fmt.{decimal}
use Rattle.std.proofs.lemmas.Int.Digits.{digits_more, digits_value_more}
use Rattle.rasta_cert.proofs.Numbers.{decimal-front, short_value}
use Rattle.rasta_cert.proofs.front.short_number_before.Goals as goal

pub returns-in_default-clause-text : goal.returns-in_default-clause-text
returns-in_default-clause-text c =
    let text = c.args.text.now in
    let count = c.loop-count.count in
    let digits = c.loop-count.invariant in
    let after = c.in_ok-rest.ensures in
    let small = short_value text count (omega arith) (omega arith) digits.digits in
    let spelled = decimal-front text count (omega arith) after.some c.if-text-eq48.false digits.digits (omega arith) in
    after.text ∙ ap (λ l. l ++ c.args.byte ∷ c.in_ok-rest.rest.now) (sym (ap decimal digits.value ∙ spelled))

pub overflow_mul-value : goal.overflow_mul-value
overflow_mul-value c =
    let small = short_value c.args.text.now c.loop-count.count (omega arith) (omega arith) c.loop-count.invariant.digits in
    omega arith

pub overflow_add-value : goal.overflow_add-value
overflow_add-value c =
    let small = short_value c.args.text.now c.loop-count.count (omega arith) (omega arith) c.loop-count.invariant.digits in
    omega (arith, c.in-Some.ensures)

pub loop-count-preserved : goal.loop-count-preserved
loop-count-preserved c =
    let text = c.args.text.now in
    let digit = c.in-Some.ensures in
    let next = digits_value_more 10 text c.loop-count.count (omega arith) in
    record {
      value = omega (arith, next, digit.1);
      digits = digits_more 10 text c.loop-count.count (omega arith) c.loop-count.invariant.digits digit.0;
    }
