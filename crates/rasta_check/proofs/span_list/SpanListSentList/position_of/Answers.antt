use Rattle.std.proofs.Common.{rules}
use Rattle.rasta_check.proofs.span_list.SpanListSentList.position_of.Goals as goal

pub returns-clause-value : goal.returns-clause-value
returns-clause-value c = search rules
