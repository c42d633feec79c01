use Rattle.std.proofs.Common.{rules}
use Rattle.std.proofs.lemmas.Fmt.{length-decimal-le}
use Rattle.rasta_line.proofs.line.put_long_number.Goals as goal

pub write_digits-requires : goal.write_digits-requires
write_digits-requires c = search (rules, length-decimal-le 20)

pub returns-clause-short : goal.returns-clause-short
returns-clause-short c = search (rules, length-decimal-le 20)
