use Rattle.std.proofs.Common.{rules}
use Rattle.seatmelon_reading.proofs.window.window_place.Goals as goal

pub returns-else-number-last_record : goal.returns-else-number-last_record
returns-else-number-last_record c = search rules
