use Rattle.rasta_pcap.proofs.Captures.{numbers-reading_of}
use Rattle.rasta_pcap.proofs.laws.records_are_numbered.Goals as goal

pub returns : goal.returns
returns c limit file = numbers-reading_of limit file
