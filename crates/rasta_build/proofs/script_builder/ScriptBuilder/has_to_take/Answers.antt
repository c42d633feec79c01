use Rattle.std.proofs.Common.{rules}
use Rattle.rasta_build.proofs.script_builder.ScriptBuilder.has_to_take.Goals as goal

pub returns-in-DisconnectionRequest : goal.returns-in-DisconnectionRequest
returns-in-DisconnectionRequest c = search rules
