use Rattle.std.proofs.Common.{rules}
use Rattle.rasta_build.proofs.script_builder.ScriptBuilder.note_make.Goals as goal

pub returns-clause-ok : goal.returns-clause-ok
returns-clause-ok c = search rules
