use Rattle.std.proofs.Common.{rules}
use Rattle.rasta_build.proofs.script_builder.ScriptBuilder.why.Goals as goal

pub returns-in-Heartbeat : goal.returns-in-Heartbeat
returns-in-Heartbeat c = search rules
