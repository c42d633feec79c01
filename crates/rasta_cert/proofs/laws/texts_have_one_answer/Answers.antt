use Rattle.rasta_cert.proofs.RefusalLemmas.{one_refusal}
use Rattle.rasta_cert.proofs.laws.texts_have_one_answer.Goals as goal

pub returns-clause-refusal : goal.returns-clause-refusal
returns-clause-refusal c = one_refusal
