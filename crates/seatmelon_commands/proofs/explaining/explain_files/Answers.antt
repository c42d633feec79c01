use Rattle.std.proofs.Common.{rules}
use Rattle.seatmelon_commands.proofs.explaining.explain_files.Goals as goal

pub returns : goal.returns
returns g c = search rules
