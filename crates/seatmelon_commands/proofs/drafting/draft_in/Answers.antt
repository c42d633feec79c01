use Rattle.std.proofs.Common.{rules}
use Rattle.seatmelon_commands.proofs.drafting.draft_in.Goals as goal

pub returns-then-number-count-clause-outside : goal.returns-then-number-count-clause-outside
returns-then-number-count-clause-outside c = search rules
