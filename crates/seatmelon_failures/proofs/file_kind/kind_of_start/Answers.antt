use Rattle.std.proofs.Common.{rules}
use Rattle.seatmelon_failures.proofs.file_kind.kind_of_start.Goals as goal

pub returns-else-is_text : goal.returns-else-is_text
returns-else-is_text c = search rules

pub returns-then-starts_with : goal.returns-then-starts_with
returns-then-starts_with c = search rules
