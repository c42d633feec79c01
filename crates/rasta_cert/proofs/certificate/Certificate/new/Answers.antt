use Rattle.std.proofs.Common.{rules}
use Rattle.rasta_cert.proofs.certificate.Certificate.new.Goals as goal

pub invariant_of-result : goal.invariant_of-result
invariant_of-result c = search rules

pub returns-then-len : goal.returns-then-len
returns-then-len c = search rules
