use Rattle.std.proofs.Common.{rules}
use Rattle.rasta_commands.proofs.running.run_command.Goals as goal

pub returns-in-Show-clause-begun : goal.returns-in-Show-clause-begun
returns-in-Show-clause-begun g c = rw c.in-Show.is c.run_show.ensures.begun

pub returns-in-Show-clause-text : goal.returns-in-Show-clause-text
returns-in-Show-clause-text g c = rw c.in-Show.is c.run_show.ensures.text

-- searched for, so that an edit that changes the fault alone is refused by `silent` and by nothing else
pub returns-in-Build-clause-begun : goal.returns-in-Build-clause-begun
returns-in-Build-clause-begun g c = rw c.in-Build.is (search rules)

pub returns-in-Check-clause-begun : goal.returns-in-Check-clause-begun
returns-in-Check-clause-begun g c = rw c.in-Check.is c.run_check_by_value.ensures.begun

pub returns-in-Audit-clause-begun : goal.returns-in-Audit-clause-begun
returns-in-Audit-clause-begun g c = rw c.in-Audit.is c.run_audit.ensures.begun

pub returns-in-Check-clause-headline : goal.returns-in-Check-clause-headline
returns-in-Check-clause-headline g c = rw c.in-Check.is c.run_check_by_value.ensures.headline

pub returns-in-Audit-clause-headline : goal.returns-in-Audit-clause-headline
returns-in-Audit-clause-headline g c = rw c.in-Audit.is c.run_audit.ensures.headline

pub returns-in-Build-clause-decided : goal.returns-in-Build-clause-decided
returns-in-Build-clause-decided g c = rw c.in-Build.is c.run_build.ensures.decided

pub returns-in-Audit-clause-decided : goal.returns-in-Audit-clause-decided
returns-in-Audit-clause-decided g c = rw c.in-Audit.is c.run_audit.ensures.decided
