use Rattle.std.proofs.Common.{rules}
use Rattle.rasta_cert.proofs.certificate.Certificate.server.Goals as goal

pub returns-clause-script : goal.returns-clause-script
returns-clause-script c = search rules
