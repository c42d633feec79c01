use Rattle.std.proofs.Common.{rules}
use Rattle.rasta_commands.proofs.forms.Form.params.Goals as goal

pub returns : goal.returns
returns c = search rules
