use Rattle.rasta_pcap.proofs.Captures.{opening-by_reading_of, reading_of-header_fault}
use Rattle.rasta_pcap.proofs.laws.header_refusal_is_read.Goals as goal

pub returns-clause-read : goal.returns-clause-read
returns-clause-read c limit file fault h place = opening-by_reading_of limit file fault h place

pub returns-clause-only : goal.returns-clause-only
returns-clause-only c limit file fault h = reading_of-header_fault limit file fault h
