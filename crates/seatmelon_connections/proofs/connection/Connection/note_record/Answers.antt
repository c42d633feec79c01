use Rattle.std.proofs.Common.{rules}
use Rattle.seatmelon_connections.proofs.connection.Connection.note_record.Goals as goal

pub returns-else-not-matches-clause-last_record : goal.returns-else-not-matches-clause-last_record
returns-else-not-matches-clause-last_record c = search rules

pub returns-then-not-matches-clause-last_record : goal.returns-then-not-matches-clause-last_record
returns-then-not-matches-clause-last_record c = search rules
