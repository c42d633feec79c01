use Rattle.std.proofs.Common.{◌∙◌, ◌+◌, ◌%◌, ap, sym}
use Rattle.rasta_pdu.specs.Pdu.{value_of}
use Rattle.seatmelon_reading.proofs.Found.{a_number, number_due-none, number_due-some}
use Rattle.seatmelon_reading.proofs.capture_refusal.next_number.Goals as goal

pub returns-in_err-first : goal.returns-in_err-first
returns-in_err-first c = c.from_residual.ensures ∙ sym (number_due-none c.args.list.now (sym c.in_err-first.ensures.value))

pub returns : goal.returns
returns c =
    ap (λ n. a_number ((n + c.len.result) % 4294967296)) c.number.ensures
    ∙ ap (λ n. a_number (((value_of c.in_ok-first.first).number + n) % 4294967296)) c.len.ensures.value
    ∙ sym (number_due-some c.args.list.now _ c.in_ok-first.ensures.ordered (sym c.in_ok-first.ensures.value))
