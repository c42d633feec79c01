use Rattle.std.proofs.Common.{rules}
use Rattle.rasta_params.proofs.document.read_slack.Goals as goal

pub returns-clause-range : goal.returns-clause-range
returns-clause-range c = search rules

pub returns-clause-value : goal.returns-clause-value
returns-clause-value c = search rules
