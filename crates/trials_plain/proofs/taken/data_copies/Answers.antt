use Rattle.std.proofs.Common.{◌∙◌}
use Rattle.trials_plain.specs.Plain.{copies_of}
use Rattle.trials_plain.proofs.Plainly.{copies-more}
use Rattle.trials_plain.proofs.taken.data_copies.Goals as goal

pub loop-copy-preserved : goal.loop-copy-preserved
loop-copy-preserved c =
    copies-more c.args.sent.now (copies_of c.loop-copy.copies.items) _ c.loop-copy.copy-index _ _ c.loop-copy-test.true c.copy-item.is c.in_ok-push_data.ensures ∙ c.loop-copy.invariant
