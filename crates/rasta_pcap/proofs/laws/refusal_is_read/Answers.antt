use Rattle.rasta_pcap.proofs.Captures.{IsRefused-reading_of, reading_of-IsRefused, IsRefused-place, IsCapture-IsRefused}
use Rattle.rasta_pcap.proofs.laws.refusal_is_read.Goals as goal

pub returns-clause-read : goal.returns-clause-read
returns-clause-read c limit file fault h place = IsRefused-reading_of limit file fault h place

pub returns-clause-only : goal.returns-clause-only
returns-clause-only c limit file records fault bound h = reading_of-IsRefused limit file records fault bound h

pub returns-clause-place : goal.returns-clause-place
returns-clause-place c limit file records fault h = IsRefused-place limit file records fault h

pub returns-clause-before : goal.returns-clause-before
returns-clause-before c limit file records fault h = IsCapture-IsRefused limit file records fault h
