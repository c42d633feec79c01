use Rattle.std.proofs.Common.{◌∙◌, ap, arith, sym}
use Rattle.std.specs.Option.{option_map}
use Rattle.rasta_check.proofs.Lists.{none_within}
use Rattle.rasta_check.specs.Capture.Lists.{copy_of}
use Rattle.seatmelon_account.proofs.Signs.{sighted_all, sighted_more}
use Rattle.seatmelon_account.proofs.lives.search_of.Goals as goal
use Rattle.seatmelon_account.proofs.lives.search_of.Goals.{in-Some, in_default}

pub loop-position-preserved : goal.loop-position-preserved
loop-position-preserved c =
    let packets = c.args.packets.now in
    let copies = c.args.copies.now in
    let i = c.loop-position.position in
    elim c.match-get.branch [
      | in-Some w ↦
          rw w.search-is (sighted_more packets copies i (copy_of (w.in-Some.place, w.in-Some.field-0-1)) _ (sym w.in-Some.ensures.value)
          (w.add_at.ensures _ c.loop-position.invariant))
      | in_default w ↦ absurd (none_within copies i
          (let a = c.loop-position-test.true in let b = c.len-position-end.ensures.value in omega arith)
          (ap (option_map copy_of) (sym w.in_default.is) ∙ c.get.ensures.value))
    ]

pub returns : goal.returns
returns c =
    sighted_all c.args.packets.now c.args.copies.now c.loop-position.position _
    (omega (arith, c.loop-position-test.false, c.len-position-end.ensures.value)) c.loop-position.invariant
