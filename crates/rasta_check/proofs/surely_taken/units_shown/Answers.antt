use Rattle.std.proofs.Common.{rules}
use Rattle.rasta_check.proofs.surely_taken.units_shown.Goals as goal

pub returns-in-ConnectionRequest : goal.returns-in-ConnectionRequest
returns-in-ConnectionRequest c = search rules
