use Rattle.std.proofs.Common.{refl}
use Rattle.seatmelon_audit.proofs.Standings.{line_begun}
use Rattle.seatmelon_audit.proofs.line.Line.new.Goals as goal

pub returns-clause-line : goal.returns-clause-line
returns-clause-line c = line_begun _ c.args.params.now refl refl c.new.ensures c.new-2.ensures.items refl refl refl
