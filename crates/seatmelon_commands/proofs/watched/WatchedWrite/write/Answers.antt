use Rattle.std.proofs.Common.{rules}
use Rattle.seatmelon_commands.proofs.watched.WatchedWrite.write.Goals as goal

pub returns-in-Err-clause-bytes : goal.returns-in-Err-clause-bytes
returns-in-Err-clause-bytes g c = search rules

pub returns-in_default-clause-bytes : goal.returns-in_default-clause-bytes
returns-in_default-clause-bytes g c = search rules
