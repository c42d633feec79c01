use Rattle.std.proofs.Common.{rules}
use Rattle.seatmelon_failures.proofs.file_kind.is_capture.Goals as goal

pub returns-else-starts_with-3 : goal.returns-else-starts_with-3
returns-else-starts_with-3 c = search rules
