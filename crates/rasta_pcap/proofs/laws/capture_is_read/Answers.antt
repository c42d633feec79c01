use Rattle.rasta_pcap.proofs.Captures.{IsCapture-reading_of, reading_of-IsCapture, IsCapture-append}
use Rattle.rasta_pcap.proofs.laws.capture_is_read.Goals as goal

pub returns-clause-read : goal.returns-clause-read
returns-clause-read c limit file h = IsCapture-reading_of limit file h

pub returns-clause-only : goal.returns-clause-only
returns-clause-only c limit file records bound h = reading_of-IsCapture limit file records bound h

pub returns-clause-after : goal.returns-clause-after
returns-clause-after c limit file more records h full = IsCapture-append limit file more records h full
