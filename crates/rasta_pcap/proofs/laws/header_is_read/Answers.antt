use Rattle.rasta_pcap.proofs.Headers.{opening-header, opening-is_header, IsHeader-one_order}
use Rattle.rasta_pcap.proofs.laws.header_is_read.Goals as goal

pub returns-clause-opened : goal.returns-clause-opened
returns-clause-opened c file order h = opening-header order file h

pub returns-clause-only : goal.returns-clause-only
returns-clause-only c file cursor h = opening-is_header file cursor h

pub returns-clause-one_order : goal.returns-clause-one_order
returns-clause-one_order c a b header x y = IsHeader-one_order a b header x y
