use Rattle.rasta_pdu.proofs.Spellings.{redundancy_bytes-injective, length-redundancy_bytes}
use Rattle.rasta_pdu.proofs.laws.spellings_differ.Goals as goal

pub returns-clause-differ : goal.returns-clause-differ
returns-clause-differ c p side r s valid a b e = redundancy_bytes-injective p side r s valid a b e

pub returns-clause-length : goal.returns-clause-length
returns-clause-length c p side r valid is = length-redundancy_bytes p side r valid is
