use Rattle.std.proofs.Common.{rules}
use Rattle.seatmelon_reading.proofs.window.last_read.Goals as goal

pub returns-else-records-first_record : goal.returns-else-records-first_record
returns-else-records-first_record c = search rules
