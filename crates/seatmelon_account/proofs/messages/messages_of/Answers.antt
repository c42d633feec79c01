use Rattle.std.proofs.Common.{◌∙◌, ap, arith, sym}
use Rattle.std.specs.Option.{option_map}
use Rattle.rasta_check.proofs.Lists.{none_within}
use Rattle.rasta_check.specs.Capture.Lists.{copy_of}
use Rattle.seatmelon_account.proofs.SentMessages.{copies_more}
use Rattle.seatmelon_account.proofs.messages.messages_of.Goals as goal
use Rattle.seatmelon_account.proofs.messages.messages_of.Goals.{in-Some+in_ok-add_copy, in_default}

pub loop-position-preserved : goal.loop-position-preserved
loop-position-preserved c =
    let list = c.args.list.now in
    elim c.match-get.branch [
      | in-Some+in_ok-add_copy w ↦
          rw w.messages-is (
            copies_more list c.loop-position.position (copy_of (w.in-Some.place, w.in-Some.pdu)) _ _ (sym w.in-Some.ensures.value) w.in_ok-add_copy.ensures.all
                ∙ c.loop-position.invariant.0,
            w.in_ok-add_copy.ensures.numbered c.loop-position.invariant.1,
          )
      | in_default w ↦ absurd (none_within list c.loop-position.position
          (let a = c.loop-position-test.true in let b = c.len-position-end.ensures.value in omega arith)
          (ap (option_map copy_of) (sym w.in_default.is) ∙ c.get.ensures.value))
    ]
