use Rattle.std.proofs.Common.{rules}
use Rattle.rasta_commands.proofs.forms.Form.certificate.Goals as goal

pub returns-in-Check : goal.returns-in-Check
returns-in-Check c = search rules
