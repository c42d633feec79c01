use Rattle.std.proofs.Common.{rules, ◌≡◌, ◌+◌, ◌∙◌, ap, drop, map, max}
use Rattle.std.specs.Prelude.{fold}
use Rattle.rasta_check.specs.Model.Taken.{pdus_of, units_shown}
use Rattle.trials_plain.specs.Plain.{pdus, copies_of}
use Rattle.trials_plain.proofs.Plainly.{most-more}
use Rattle.trials_plain.proofs.taken.units_taken.Goals as goal

pub loop-copy-preserved : goal.loop-copy-preserved
loop-copy-preserved c =
    let most : c.max-most.result ≡ max c.loop-copy.most c.units_shown.result = search rules in
    ap (λ n. fold max n (map (units_shown (pdus c.args.own.now) (pdus_of (copies_of c.args.peer.now))) (pdus_of (copies_of (drop (c.loop-copy.copy-index + 1) c.args.peer.now))))) most
    ∙ most-more (units_shown (pdus c.args.own.now) (pdus_of (copies_of c.args.peer.now))) c.args.peer.now c.loop-copy.copy-index c.loop-copy.most c.units_shown.result _ _ c.loop-copy-test.true c.copy-item.is
    (c.units_shown.ensures (pdus_of (copies_of c.args.peer.now)) c.requires)
    ∙ c.loop-copy.invariant
