use Rattle.std.proofs.Common.{◌≡◌, ℕ, ◌+◌, ◌<◌, List, take, length, get_or, Option, Some, None, subst, sym, ap, ◌∙◌, arith}
use Rattle.std.specs.Char.{digit_value}
use Rattle.std.specs.Option.{SomeIff}
use Rattle.std.specs.Str.Parse.{AllDigits, digits_value}
use Rattle.std.proofs.lemmas.List.{take_more, take_all}
use Rattle.std.proofs.lemmas.Int.Digits.{digits_push, digits_value_more}
use Rattle.std.proofs.lemmas.Str.Parse.{digit_at, digits_value-take-le}
use Rattle.std.proofs.lemmas.Str.{digit_value_digit}
use Rattle.rasta_cert.proofs.fields.digits.Goals as goal

none_from : (o : Option ℕ) (P : Type 0) (v : ℕ) → o ≡ None → ¬ P → SomeIff o P v
none_from None P v h not_so = not_so
none_from (Some x) P v h not_so = absurd (let e : ◌≡◌ {A = Option ℕ} (Some x) None = h in cc)

digit_of_all : (text : List ℕ) (i : ℕ) → AllDigits 10 text → i < length text → digit_value (get_or text i 0) < 10
digit_of_all text i all within =
    let range = digit_at text i all within in
    let value = digit_value_digit (get_or text i 0) range in
    omega (arith, value)

pub returns-in_err-value : goal.returns-in_err-value
returns-in_err-value c =
    let text = c.args.text.now in
    let i = c.loop-byte.byte-index in
    let next = digits_value_more 10 text i c.loop-byte-test.true in
    let below = digits_value-take-le 10 text (i + 1) (omega arith) in
    none_from c.from_residual.result _ _ c.from_residual.ensures
    (λ h. c.in_err-value.ensures (digit_of_all text i h.0 c.loop-byte-test.true, omega (arith, next, below, c.loop-byte.invariant.value, h.1)))

pub loop-byte-preserved : goal.loop-byte-preserved
loop-byte-preserved c =
    let text = c.args.text.now in
    let i = c.loop-byte.byte-index in
    let e = c.in_ok-value.ensures in
    let next = digits_value_more 10 text i c.loop-byte-test.true in
    record {
      value = omega (arith, next, c.loop-byte.invariant.value, e.1);
      fits = omega (arith, e.0.1, e.1);
      digits = subst (AllDigits 10) (sym (take_more text i 0 c.loop-byte-test.true)) (digits_push 10 (take i text) (get_or text i 0) c.loop-byte.invariant.digits e.0.0);
    }

pub returns : goal.returns
returns c =
    let whole = take_all c.loop-byte.byte-index c.args.text.now c.loop-byte-test.false in
    let all : AllDigits 10 c.args.text.now = subst (AllDigits 10) whole c.loop-byte.invariant.digits in
    let value : c.loop-byte.value ≡ digits_value 10 c.args.text.now = c.loop-byte.invariant.value ∙ ap (digits_value 10) whole in
    let fits = c.loop-byte.invariant.fits in
    ((all, omega (arith, value, fits)), value)
