use Rattle.std.proofs.Common.{◌∙◌, ap, sym, arith}
use Rattle.rasta_check.proofs.Prelude.{option_map, copy_of, with_proofs, none_within}
use Rattle.rasta_check.proofs.Verdict.ListSteps.{proofs_more, proofs_end}
use Rattle.rasta_check.proofs.surely_taken.proof_places.Goals as goal
use Rattle.rasta_check.proofs.surely_taken.proof_places.Goals.{in-Some+in_ok-add_proofs, in_default}

pub loop-position-preserved : goal.loop-position-preserved
loop-position-preserved g c =
    let xs = g.S.SentList.content c.args.peer.now in
    elim c.match-get.branch [
      | in-Some+in_ok-add_proofs w ↦
          rw w.places-is
          (proofs_more _ xs c.loop-position.position (copy_of (w.in-Some.place, w.in-Some.pdu)) _ _ (sym w.in-Some.ensures.value) (w.in_ok-add_proofs.ensures ∙ ap (λ n. with_proofs c.loop-position.places.items n w.in-Some.place) w.units_shown.ensures)
          ∙ c.loop-position.invariant)
      | in_default w ↦ absurd (none_within xs c.loop-position.position
          (let a = c.loop-position-test.true in let b = c.len-position-end.ensures.value in omega arith)
          (ap (option_map copy_of) (sym w.in_default.is) ∙ c.get.ensures.value))
    ]

pub returns : goal.returns
returns g c =
    let xs = g.S.SentList.content c.args.peer.now in
    sym (proofs_end _ xs c.loop-position.position _ (let a = c.loop-position-test.false in let b = c.len-position-end.ensures.value in omega arith)) ∙ c.loop-position.invariant
