use Rattle.std.proofs.Common.{◌∙◌, ap, arith, sym}
use Rattle.std.specs.Option.{option_map, option_or}
use Rattle.rasta_check.proofs.Lists.{none_within}
use Rattle.rasta_check.specs.Capture.Lists.{copy_of}
use Rattle.seatmelon_middle.specs.Course.{disconnection_at}
use Rattle.seatmelon_audit.proofs.Counting.{first_all, first_more, none_left, sent_left}
use Rattle.seatmelon_audit.proofs.answer.sent_by.Goals as goal
use Rattle.seatmelon_audit.proofs.answer.sent_by.Goals.{in-Some, in_default}

pub count_added-messages-requires : goal.count_added-messages-requires
count_added-messages-requires c =
    let left = sent_left c.args.list.now c.loop-position.position (copy_of (c.in-Some.place, c.in-Some.pdu)) (sym c.in-Some.ensures.value) in
    omega (arith, left, c.loop-position.invariant.0, c.requires)

pub overflow_add-messages : goal.overflow_add-messages
overflow_add-messages c =
    let left = sent_left c.args.list.now c.loop-position.position (copy_of (c.in-Some.place, c.in-Some.pdu)) (sym c.in-Some.ensures.value) in
    omega (arith, left, c.loop-position.invariant.0, c.requires, c.count_added-messages.ensures)

pub loop-position-preserved : goal.loop-position-preserved
loop-position-preserved c =
    let list = c.args.list.now in
    elim c.match-get.branch [
      | in-Some w ↦
          let copy = copy_of (w.in-Some.place, w.in-Some.pdu) in
          let left = sent_left list c.loop-position.position copy (sym w.in-Some.ensures.value) in
          let before = c.loop-position.invariant.0 in (
            rw w.messages-is (omega (arith, left, before, w.count_added-messages.ensures)),
            w.disconnection-is ∙ w.first_of-disconnection.ensures ∙ ap (λ (o : _). option_or o (disconnection_at c.args.side copy.place copy.pdu)) c.loop-position.invariant.1
                ∙ sym (first_more c.args.side list c.loop-position.position copy (sym w.in-Some.ensures.value)),
          )
      | in_default w ↦ absurd (none_within list c.loop-position.position
          (let a = c.loop-position-test.true in let b = c.len-position-end.ensures.value in omega arith)
          (ap (option_map copy_of) (sym w.in_default.is) ∙ c.get.ensures.value))
    ]

pub returns-clause-messages : goal.returns-clause-messages
returns-clause-messages c =
    let none = none_left c.loop-position.position c.args.list.now (omega (arith, c.loop-position-test.false, c.len-position-end.ensures.value)) in
    omega (arith, none, c.loop-position.invariant.0)

pub returns-clause-disconnection : goal.returns-clause-disconnection
returns-clause-disconnection c =
    c.loop-position.invariant.1 ∙ first_all c.args.side c.args.list.now c.loop-position.position (omega (arith, c.loop-position-test.false, c.len-position-end.ensures.value))
