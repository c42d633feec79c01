use Rattle.std.proofs.Common.{subst, sym}
use Rattle.seatmelon_audit.specs.All.{lines_in}
use Rattle.seatmelon_audit.specs.Lines.{params_of}
use Rattle.seatmelon_audit.specs.Sorting.{sorted_in}
use Rattle.seatmelon_audit.specs.Ways.{KnowsAll, NamesAll, ways_between}
use Rattle.seatmelon_audit.proofs.Holding.{any_held}
use Rattle.seatmelon_audit.proofs.Steps.{all_taken}
use Rattle.seatmelon_audit.proofs.lines.Lines.add.Goals as goal

pub returns-clause-lines : goal.returns-clause-lines
returns-clause-lines c known =
    all_taken (lines_in c.args.self.now) c.step_all.new.lines.items (ways_between c.of_frame-hosts.result.0 c.of_frame-hosts.result.1.now) (c.args.record.now.number, c.args.record.now.bytes.now) c.args.time
    c.step_all.ensures.between c.step_all.ensures.taken
    (subst (λ ps. NamesAll (ways_between c.of_frame-hosts.result.0 c.of_frame-hosts.result.1.now) ps c.args.record.now.bytes.now) (sym c.step_all.ensures.kept) (c.of_frame-hosts.ensures (params_of (lines_in c.args.self.now)) known))

pub returns-clause-known : goal.returns-clause-known
returns-clause-known c known = subst (KnowsAll (sorted_in c.args.self.now.ways)) (sym c.step_all.ensures.kept) known

pub returns-clause-held : goal.returns-clause-held
returns-clause-held c known =
    any_held (lines_in c.args.self.now) c.step_all.new.lines.items (ways_between c.of_frame-hosts.result.0 c.of_frame-hosts.result.1.now) (c.args.record.now.number, c.args.record.now.bytes.now) c.step_all.ensures.kept c.step_all.ensures.taken
    (subst (λ ps. NamesAll (ways_between c.of_frame-hosts.result.0 c.of_frame-hosts.result.1.now) ps c.args.record.now.bytes.now) (sym c.step_all.ensures.kept) (c.of_frame-hosts.ensures (params_of (lines_in c.args.self.now)) known))
    c.step_all.result c.step_all.ensures.held
