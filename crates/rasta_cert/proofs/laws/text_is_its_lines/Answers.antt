use Rattle.rasta_cert.proofs.ScriptLemmas.{certificate_text-lines}
use Rattle.rasta_cert.proofs.laws.text_is_its_lines.Goals as goal

pub returns : goal.returns
returns c = certificate_text-lines
