use Rattle.rasta_cert.proofs.ScriptLemmas.{certificate_text_injective}
use Rattle.rasta_cert.proofs.laws.texts_differ.Goals as goal

pub returns : goal.returns
returns c = certificate_text_injective
