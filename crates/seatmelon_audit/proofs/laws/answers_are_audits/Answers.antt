use Rattle.seatmelon_audit.proofs.Auditing.{audited_as}
use Rattle.seatmelon_audit.proofs.laws.answers_are_audits.Goals as goal

pub returns : goal.returns
returns c p file answer h = audited_as p file answer h
