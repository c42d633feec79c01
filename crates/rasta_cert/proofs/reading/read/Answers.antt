use Rattle.rasta_cert.proofs.ReadingLemmas.{is_read}
use Rattle.rasta_cert.proofs.reading.read.Goals as goal

pub returns-clause-read_back : goal.returns-clause-read_back
returns-clause-read_back c = is_read c.args.text.now c.read_scripts.result c.read_scripts.ensures.ok c.read_scripts.ensures.err
