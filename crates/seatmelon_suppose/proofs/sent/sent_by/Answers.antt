use Rattle.std.proofs.Common.{◌≡◌, ◌∙◌, ℕ, List, [], ◌∷◌, ◌++◌, Option, ap, arith, subst, sym}
use Rattle.std.specs.Option.{option_map}
use Rattle.rasta_check.proofs.Lists.{none_within}
use Rattle.rasta_check.specs.Capture.Lists.{copy_of}
use Rattle.seatmelon_suppose.specs.Sent.{sent_messages}
use Rattle.seatmelon_suppose.proofs.SentMessages.{copies-more}
use Rattle.seatmelon_suppose.proofs.sent.sent_by.Goals as goal
use Rattle.seatmelon_suppose.proofs.sent.sent_by.Goals.{in-Some+in_ok-add_copy, in_default}

pub loop-position-preserved : goal.loop-position-preserved
loop-position-preserved c =
    let list = c.list_of-list.result in
    let position = c.loop-position.position in
    let old = c.loop-position.sent.items in
    elim c.match-get.branch [
      | in-Some+in_ok-add_copy w ↦
          rw w.sent-is (
          copies-more c.args.judged.now.origins.items list position (copy_of (w.in-Some.place, w.in-Some.pdu)) old w.add_copy.new.sent.items (sym w.in-Some.ensures.value)
          (subst (λ (from : List (Option ℕ)). w.add_copy.new.sent.items ≡ old ++ sent_messages from (copy_of (w.in-Some.place, w.in-Some.pdu) ∷ []))
          w.deref.ensures.value w.in_ok-add_copy.ensures)
          ∙ c.loop-position.invariant
          )
      | in_default w ↦ absurd (none_within list position
          (let a = c.loop-position-test.true in let b = c.len-position-end.ensures.value in omega arith)
          (ap (option_map copy_of) (sym w.in_default.is) ∙ c.get.ensures.value))
    ]
