use Rattle.std.proofs.Common.{◌∙◌, arith, subst, sym, take}
use Rattle.std.proofs.lemmas.List.{take_all, take_more}
use Rattle.rasta_pcap.specs.Capture.{Numbered}
use Rattle.seatmelon_audit.specs.Lines.{HaveTaken, TellsHeld}
use Rattle.seatmelon_audit.specs.Ways.{ways_between}
use Rattle.seatmelon_audit.proofs.Holding.{or_false, or_true}
use Rattle.seatmelon_audit.proofs.Steps.{between_then}
use Rattle.seatmelon_audit.proofs.lines.step_all.Goals as goal
use Rattle.seatmelon_audit.proofs.lines.step_all.Goals.{else-step_on, then-step_on}

pub loop-way-preserved : goal.loop-way-preserved
loop-way-preserved c =
    let old = c.loop-way.lines.items in
    let new = c.step_on.new.lines.items in
    let first = c.args.lines.now.items in
    let r : Numbered = (c.args.record.now.number, c.args.record.now.bytes.now) in
    let told = c.step_on.ensures.held first c.loop-way.held c.loop-way.invariant.kept c.loop-way.invariant.told in record {
      between = between_then _ old new (c.args.record.now.number, c.args.record.now.bytes.now) c.args.time c.loop-way.invariant.between c.step_on.ensures.between;
      taken = subst (λ l. HaveTaken (ways_between c.args.hosts l) c.args.record.now.number new) (sym (take_more c.args.ways.now c.loop-way.way-index _ (omega (arith, c.loop-way-test.true))))
          (c.step_on.ensures.taken (take c.loop-way.way-index c.args.ways.now) c.loop-way.invariant.taken);
      told = elim c.if-step_on.branch [
        | then-step_on w ↦ rw w.held-is (subst (λ b. TellsHeld b first new r) (or_true c.loop-way.held c.step_on.result w.if-step_on.true) told)
        | else-step_on w ↦ rw w.held-is (subst (λ b. TellsHeld b first new r) (or_false c.loop-way.held c.step_on.result w.if-step_on.false) told)
      ];
      kept = c.step_on.ensures.kept ∙ c.loop-way.invariant.kept;
    }

pub returns-clause-taken : goal.returns-clause-taken
returns-clause-taken c =
    subst (λ l. HaveTaken (ways_between c.args.hosts l) c.args.record.now.number c.loop-way.lines.items) (take_all c.loop-way.way-index c.args.ways.now (omega (arith, c.loop-way-test.false)))
    c.loop-way.invariant.taken
