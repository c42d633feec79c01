use Rattle.rasta_end.proofs.Owing.{resumes-pays}
use Rattle.rasta_end.proofs.making.owes_after.Goals as goal

pub returns-in-Resumes-clause-pays : goal.returns-in-Resumes-clause-pays
returns-in-Resumes-clause-pays c =
    resumes-pays c.args.row c.args.owes c.without_first-in-Resumes.result.reply c.in-Resumes.is c.without_first-in-Resumes.ensures.reply c.requires.allowed c.requires.owing
