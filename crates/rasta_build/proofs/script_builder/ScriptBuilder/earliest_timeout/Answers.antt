use Rattle.std.proofs.Common.{rules}
use Rattle.rasta_build.proofs.script_builder.ScriptBuilder.earliest_timeout.Goals as goal

pub returns-in-Some-deadline : goal.returns-in-Some-deadline
returns-in-Some-deadline c = search rules
