use Rattle.std.proofs.Common.{◌∙◌, ap, arith, sym}
use Rattle.std.specs.Option.{option_map}
use Rattle.rasta_check.proofs.Lists.{none_within}
use Rattle.rasta_check.specs.Capture.Lists.{copy_of}
use Rattle.seatmelon_middle.proofs.Courses.{found, none_found, none_more, not_found}
use Rattle.seatmelon_middle.proofs.course.first_disconnection.Goals as goal
use Rattle.seatmelon_middle.proofs.course.first_disconnection.Goals.{in-Some+else-is_some, in_default}

pub returns-then-is_some : goal.returns-then-is_some
returns-then-is_some c =
    found c.args.side c.args.copies.now c.loop-position.position (copy_of (c.in-Some.place, c.in-Some.pdu)) c.disconnection_at-found.result
    (sym c.in-Some.ensures.value) c.disconnection_at-found.ensures (sym c.is_some.ensures ∙ c.if-is_some.true) c.loop-position.invariant

pub loop-position-preserved : goal.loop-position-preserved
loop-position-preserved c =
    let side = c.args.side in
    let copies = c.args.copies.now in
    let i = c.loop-position.position in
    elim c.match-get.branch [
      | in-Some+else-is_some w ↦
          none_more side copies i (copy_of (w.in-Some.place, w.in-Some.pdu)) (sym w.in-Some.ensures.value)
          (sym w.disconnection_at-found.ensures ∙ not_found w.disconnection_at-found.result (sym w.is_some.ensures ∙ w.if-is_some.false)) c.loop-position.invariant
      | in_default w ↦ absurd (none_within copies i
          (let a = c.loop-position-test.true in let b = c.len-position-end.ensures.value in omega arith)
          (ap (option_map copy_of) (sym w.in_default.is) ∙ c.get.ensures.value))
    ]

pub returns : goal.returns
returns c =
    sym (none_found c.args.side c.args.copies.now c.loop-position.position
    (omega (arith, c.loop-position-test.false, c.len-position-end.ensures.value)) c.loop-position.invariant)
