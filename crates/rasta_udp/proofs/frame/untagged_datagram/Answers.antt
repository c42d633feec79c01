use Rattle.std.proofs.Common.{rules}
use Rattle.rasta_udp.specs.Frame.{found_by}
use Rattle.rasta_udp.proofs.frame.untagged_datagram.Goals as goal

pub returns-then-length-lt-UDP_HEADER : goal.returns-then-length-lt-UDP_HEADER
unfolding found_by
returns-then-length-lt-UDP_HEADER c = search rules

pub returns : goal.returns
unfolding found_by
returns c = search rules
