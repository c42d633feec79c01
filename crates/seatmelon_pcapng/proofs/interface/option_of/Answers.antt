use Rattle.std.proofs.Common.{◌∙◌, ◌+◌, ap, length, min, sym, arith}
use Rattle.seatmelon_pcapng.specs.Interfaces.{option_of}
use Rattle.seatmelon_pcapng.proofs.Options.{option_of-cut, option_of-end, option_of-few, option_of-found, option_of-other}
use Rattle.seatmelon_pcapng.proofs.interface.option_of.Goals as goal
use Rattle.seatmelon_pcapng.proofs.interface.option_of.Goals.{then-found-eq-END_OF_OPTIONS-via-then-found-eq-END_OF_OPTIONS, then-found-eq-END_OF_OPTIONS-via-else-found-eq-END_OF_OPTIONS+then-rest-len}

pub returns-then-found-eq-END_OF_OPTIONS : goal.returns-then-found-eq-END_OF_OPTIONS
returns-then-found-eq-END_OF_OPTIONS c =
    let found = c.u16_at-found.result in
    let rest = c.loop-rest.rest.now in
    elim c.then-found-eq-END_OF_OPTIONS.branch [
      | then-found-eq-END_OF_OPTIONS-via-then-found-eq-END_OF_OPTIONS w ↦
          sym (c.loop-rest.invariant ∙ option_of-end c.args.order c.args.code rest (omega arith) found c.u16_at-found.ensures w.if-found-eq-END_OF_OPTIONS.true)
      | then-found-eq-END_OF_OPTIONS-via-else-found-eq-END_OF_OPTIONS+then-rest-len w ↦
          sym (c.loop-rest.invariant ∙ option_of-cut c.args.order c.args.code rest (omega arith) found c.from-len.result c.u16_at-found.ensures
          (c.from-len.ensures ∙ c.u16_at.ensures) w.if-found-eq-END_OF_OPTIONS.false (omega arith))
    ]

pub returns-then-found-code : goal.returns-then-found-code
returns-then-found-code c =
    let found = c.u16_at-found.result in
    let rest = c.loop-rest.rest.now in
    sym (c.loop-rest.invariant ∙ option_of-found c.args.order c.args.code rest (omega arith) found c.from-len.result c.u16_at-found.ensures (c.from-len.ensures ∙ c.u16_at.ensures)
    c.if-found-eq-END_OF_OPTIONS.false (omega arith) c.if-found-code.true)

pub loop-rest-preserved : goal.loop-rest-preserved
loop-rest-preserved c =
    let found = c.u16_at-found.result in
    let rest = c.loop-rest.rest.now in
    c.loop-rest.invariant ∙ option_of-other c.args.order c.args.code rest (omega arith) found c.from-len.result c.min.result c.u16_at-found.ensures (c.from-len.ensures ∙ c.u16_at.ensures)
    c.if-found-eq-END_OF_OPTIONS.false (omega arith) c.if-found-code.false (c.min.ensures ∙ ap (λ n. min (length rest) (4 + n)) c.padded.ensures)
    ∙ ap (option_of c.args.order c.args.code) (sym c.split_at.ensures.back)

pub returns : goal.returns
returns c = sym (c.loop-rest.invariant ∙ option_of-few c.args.order c.args.code c.loop-rest.rest.now (omega arith))
