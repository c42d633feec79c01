use Rattle.rasta_pcap.proofs.Walks.{walk-is_reading}
use Rattle.rasta_pcap.proofs.laws.walk_is_reading.Goals as goal

pub returns : goal.returns
returns c most file = walk-is_reading most file
