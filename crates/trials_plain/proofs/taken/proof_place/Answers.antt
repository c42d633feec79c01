use Rattle.std.proofs.Common.{◌∙◌}
use Rattle.std.proofs.lemmas.Bool.{lt-ltb, le-ltb}
use Rattle.rasta_check.specs.Model.Taken.{pdus_of}
use Rattle.trials_plain.specs.Plain.{pdus, copies_of}
use Rattle.trials_plain.proofs.Plainly.{proof-here, proof-passed}
use Rattle.trials_plain.proofs.taken.proof_place.Goals as goal

pub returns-then-unit-units_shown : goal.returns-then-unit-units_shown
returns-then-unit-units_shown c =
    proof-here (pdus c.args.own.now) (pdus_of (copies_of c.args.peer.now)) c.args.unit c.args.peer.now c.loop-copy.copy-index c.units_shown.result _ _ c.loop-copy-test.true c.copy-item.is
    (c.units_shown.ensures (pdus_of (copies_of c.args.peer.now)) c.requires) (lt-ltb _ _ c.if-unit-units_shown.true)
    ∙ c.loop-copy.invariant

pub loop-copy-preserved : goal.loop-copy-preserved
loop-copy-preserved c =
    proof-passed (pdus c.args.own.now) (pdus_of (copies_of c.args.peer.now)) c.args.unit c.args.peer.now c.loop-copy.copy-index c.units_shown.result _ _ c.loop-copy-test.true c.copy-item.is
    (c.units_shown.ensures (pdus_of (copies_of c.args.peer.now)) c.requires) (le-ltb _ _ c.if-unit-units_shown.false)
    ∙ c.loop-copy.invariant
