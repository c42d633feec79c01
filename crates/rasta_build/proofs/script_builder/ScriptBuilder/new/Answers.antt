use Rattle.std.proofs.Common.{rules}
use Rattle.rasta_build.proofs.script_builder.ScriptBuilder.new.Goals as goal

pub returns : goal.returns
returns c = search rules
