use Rattle.rasta_verdict.proofs.Proposals.{refusal_has_status}
use Rattle.rasta_verdict.proofs.verdict.write_verdict.Goals as goal

pub returns-in_ok-write_all-in-Unscripted-clause-answered : goal.returns-in_ok-write_all-in-Unscripted-clause-answered
returns-in_ok-write_all-in-Unscripted-clause-answered g c = refusal_has_status c.args.verdict.now c.in-Unscripted.fault c.in-Unscripted.is
