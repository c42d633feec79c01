use Rattle.std.proofs.Common.{take, sym, rules}
use Rattle.rasta_check.proofs.Prelude.{none_within, value_of}
use Rattle.rasta_check.proofs.Middle.SeenSteps.{stored_spells, stored_more}
use Rattle.rasta_check.proofs.shown.Shown.of_store.Goals as goal
use Rattle.rasta_check.proofs.shown.Shown.of_store.Goals.{in-Some+in_ok-add_pdu, in_default}

pub add_pdu-requires-clause-spelled : goal.add_pdu-requires-clause-spelled
add_pdu-requires-clause-spelled c =
    let v = c.in-Some.ensures.value in
    (v.0, stored_spells c.args.store.now c.loop-place.invariant.crossing v.0 c.loop-place.shown c.in-Some.side (value_of c.in-Some.pdu) c.loop-place.invariant.seen.params v.2 v.3)

pub loop-place-preserved : goal.loop-place-preserved
loop-place-preserved c =
    let store = c.args.store.now in
    let place = c.loop-place.place in
    let seen = c.loop-place.invariant.seen in
    let crossing = c.loop-place.invariant.crossing in
    elim c.match-pdu_at.branch [
      | in-Some+in_ok-add_pdu w ↦
          (let v = w.in-Some.ensures.value in
          let spells = stored_spells store crossing v.0 c.loop-place.shown w.in-Some.side (value_of w.in-Some.pdu) seen.params v.2 v.3 in
          record {
            seen = stored_more store crossing v.0 place c.match-pdu_at.shown w.add_pdu.new.self v.1 w.shown-is
                (w.in_ok-add_pdu.ensures.ok v.0 spells store.params (take place store.packets) seen);
            crossing = crossing;
          })
      | in_default w ↦ absurd (none_within store.packets place
          (let a = c.loop-place-test.true in search rules)
          (sym w.in_default.ensures.value))
    ]
