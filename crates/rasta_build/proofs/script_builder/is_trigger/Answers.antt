use Rattle.std.proofs.Common.{rules}
use Rattle.rasta_build.proofs.script_builder.is_trigger.Goals as goal

pub returns-in-Heartbeat : goal.returns-in-Heartbeat
returns-in-Heartbeat c = search rules

pub returns-in_default-matches-2 : goal.returns-in_default-matches-2
returns-in_default-matches-2 c = search rules
