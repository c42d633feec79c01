use Rattle.std.proofs.Common.{rules}
use Rattle.rasta_build.proofs.script_builder.ScriptBuilder.first_acceptable.Goals as goal

pub returns-else-matches : goal.returns-else-matches
returns-else-matches g c = search rules

pub returns-then-matches : goal.returns-then-matches
returns-then-matches g c = search rules
