use Rattle.std.proofs.Common.{◌∙◌, ap, arith, sym}
use Rattle.std.specs.Option.{option_map}
use Rattle.rasta_check.proofs.Lists.{none_within}
use Rattle.rasta_check.specs.Capture.Lists.{copy_of}
use Rattle.seatmelon_middle.proofs.Courses.{behind_all, behind_more, behind_most, behind_same}
use Rattle.seatmelon_middle.proofs.course.count_behind.Goals as goal
use Rattle.seatmelon_middle.proofs.course.count_behind.Goals.{in-Some+then-at-place, in-Some+else-at-place, in_default}

pub overflow_add-count : goal.overflow_add-count
overflow_add-count c =
    let most = behind_most c.args.place c.args.copies.now c.loop-position.position in
    omega (arith, c.loop-position.invariant, most, c.loop-position-test.true, c.len-position-end.type_inv)

pub loop-position-preserved : goal.loop-position-preserved
loop-position-preserved c =
    let place = c.args.place in
    let copies = c.args.copies.now in
    let i = c.loop-position.position in
    elim c.match-get.branch [
      | in-Some+then-at-place w ↦
          let more = behind_more place copies i (copy_of (w.in-Some.at, w.in-Some.field-0-1)) (sym w.in-Some.ensures.value) (grind (arith, w.if-at-place.true)) in
          rw w.count-is (omega (arith, more, c.loop-position.invariant))
      | in-Some+else-at-place w ↦
          let same = behind_same place copies i (copy_of (w.in-Some.at, w.in-Some.field-0-1)) (sym w.in-Some.ensures.value) (grind (arith, w.if-at-place.false)) in
          rw w.count-is (omega (arith, same, c.loop-position.invariant))
      | in_default w ↦ absurd (none_within copies i
          (let a = c.loop-position-test.true in let b = c.len-position-end.ensures.value in omega arith)
          (ap (option_map copy_of) (sym w.in_default.is) ∙ c.get.ensures.value))
    ]

pub returns : goal.returns
returns c =
    c.loop-position.invariant ∙ behind_all c.args.place c.args.copies.now c.loop-position.position
    (omega (arith, c.loop-position-test.false, c.len-position-end.ensures.value))
