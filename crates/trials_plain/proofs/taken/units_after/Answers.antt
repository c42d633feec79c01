use Rattle.std.proofs.Common.{◌+◌, ap, ◌∙◌, length, arith}
use Rattle.rasta_end.specs.Units.{units_at}
use Rattle.trials_plain.proofs.Plainly.{not_empty, last-at_most, at-at_most, conveys-response, conveys-data, conveys-again, conveys-other}
use Rattle.trials_plain.proofs.taken.units_after.Goals as goal

pub overflow_add-result : goal.overflow_add-result
overflow_add-result c = (let l = last-at_most (length c.args.units.now) c.args.units.now c.requires in omega (arith, l))

pub overflow_add-result-in-RetransmittedData : goal.overflow_add-result-in-RetransmittedData
overflow_add-result-in-RetransmittedData c = (let l = last-at_most (length c.args.units.now) c.args.units.now c.requires in omega (arith, l))

pub returns-in-RetransmissionResponse : goal.returns-in-RetransmissionResponse
returns-in-RetransmissionResponse c =
    let some = not_empty c.args.units.now c.is_empty.result c.is_empty.ensures c.if-is_empty.false in
    let l = at-at_most (length c.args.units.now) c.args.units.now c.ask_at.result c.requires in
    record {
      value = c.units_at.ensures ∙ ap (units_at c.args.units.now) c.ask_at.ensures ∙ conveys-response c.args.asks.now c.args.units.now c.args.responses c.args.kind some c.in-RetransmissionResponse.is;
      bound = omega (arith, l);
    }

pub returns-in-Data : goal.returns-in-Data
returns-in-Data c =
    let some = not_empty c.args.units.now c.is_empty.result c.is_empty.ensures c.if-is_empty.false in
    let l = last-at_most (length c.args.units.now) c.args.units.now c.requires in
    record {
      value = ap (λ n. n + 1) c.last_of.ensures ∙ conveys-data c.args.asks.now c.args.units.now c.args.responses c.args.kind some c.in-Data.is;
      bound = omega (arith, l);
    }

pub returns-in-RetransmittedData : goal.returns-in-RetransmittedData
returns-in-RetransmittedData c =
    let some = not_empty c.args.units.now c.is_empty.result c.is_empty.ensures c.if-is_empty.false in
    let l = last-at_most (length c.args.units.now) c.args.units.now c.requires in
    record {
      value = ap (λ n. n + 1) c.last_of-in-RetransmittedData.ensures ∙ conveys-again c.args.asks.now c.args.units.now c.args.responses c.args.kind some c.in-RetransmittedData.is;
      bound = omega (arith, l);
    }

pub returns-in_default : goal.returns-in_default
returns-in_default c =
    let some = not_empty c.args.units.now c.is_empty.result c.is_empty.ensures c.if-is_empty.false in
    let l = last-at_most (length c.args.units.now) c.args.units.now c.requires in
    record {
      value = c.last_of-in_default.ensures
          ∙ conveys-other c.args.asks.now c.args.units.now c.args.responses c.args.kind some c.in_default.not-RetransmissionResponse c.in_default.not-Data c.in_default.not-RetransmittedData;
      bound = omega (arith, l);
    }
