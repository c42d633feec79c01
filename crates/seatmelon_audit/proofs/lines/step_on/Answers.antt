use Rattle.std.proofs.Common.{refl, subst, sym}
use Rattle.seatmelon_audit.specs.Lines.{HaveTaken}
use Rattle.seatmelon_audit.specs.Ways.{ways_between}
use Rattle.seatmelon_audit.proofs.Holding.{held_or}
use Rattle.seatmelon_audit.proofs.Knowing.{between_yes}
use Rattle.seatmelon_audit.proofs.Steps.{between_step, params_step, taken_step}
use Rattle.seatmelon_audit.proofs.lines.step_on.Goals as goal

pub returns-then-way-hosts-clause-between : goal.returns-then-way-hosts-clause-between
returns-then-way-hosts-clause-between c =
    between_step c.args.way.now.line c.args.lines.now.items c.step_at.new.lines.items (c.args.record.now.number, c.args.record.now.bytes.now) c.args.time c.step_at.ensures.step

pub returns-then-way-hosts-clause-taken : goal.returns-then-way-hosts-clause-taken
returns-then-way-hosts-clause-taken c ways taken =
    let way = c.args.way.now in
    let new = c.step_at.new.lines.items in
    subst (λ l. HaveTaken l c.args.record.now.number new) (sym (between_yes c.args.hosts ways way c.if-way-hosts.true))
    (taken_step way.line c.args.lines.now.items new (c.args.record.now.number, c.args.record.now.bytes.now) c.args.time c.step_at.ensures.step (ways_between c.args.hosts ways) way refl taken)

pub returns-then-way-hosts-clause-kept : goal.returns-then-way-hosts-clause-kept
returns-then-way-hosts-clause-kept c =
    params_step c.args.way.now.line c.args.lines.now.items c.step_at.new.lines.items (c.args.record.now.number, c.args.record.now.bytes.now) c.args.time c.step_at.ensures.step

pub returns-then-way-hosts-clause-held : goal.returns-then-way-hosts-clause-held
returns-then-way-hosts-clause-held c first held same before =
    held_or c.args.way.now.line first c.args.lines.now.items c.step_at.new.lines.items (c.args.record.now.number, c.args.record.now.bytes.now) c.args.time c.step_at.result same
    c.step_at.ensures.step c.step_at.ensures.held held before
