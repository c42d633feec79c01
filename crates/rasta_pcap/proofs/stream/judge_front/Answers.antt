use Rattle.std.proofs.Common.{rules}
use Rattle.rasta_pcap.proofs.stream.judge_front.Goals as goal

pub returns : goal.returns
returns c = search rules

pub returns-then-front-lt-RECORD_HEADER : goal.returns-then-front-lt-RECORD_HEADER
returns-then-front-lt-RECORD_HEADER c = search rules
