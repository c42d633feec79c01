use Rattle.std.proofs.Common.{rules}
use Rattle.seatmelon_survey.proofs.findings.Survey.add_record.Goals as goal

pub returns-in_err-add_packet-in-Packet-clause-unchanged : goal.returns-in_err-add_packet-in-Packet-clause-unchanged
returns-in_err-add_packet-in-Packet-clause-unchanged c = search rules
