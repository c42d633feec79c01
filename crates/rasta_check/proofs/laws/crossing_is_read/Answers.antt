use Rattle.rasta_check.proofs.Capture.Readings.{file_by, file_records}
use Rattle.rasta_check.proofs.laws.crossing_is_read.Goals as goal

pub returns-clause-records : goal.returns-clause-records
returns-clause-records c p file k valid e = file_by p file k e

pub returns-clause-packets : goal.returns-clause-packets
returns-clause-packets c p file k records valid e is = file_records p file k records valid e is
