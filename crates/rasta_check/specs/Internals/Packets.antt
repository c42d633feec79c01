-- Lists as the code adds to them.
use Rattle.std.specs.Prelude.{ℕ, List, [], ◌∷◌, ◌++◌, Option, Some, None, Result, Ok, Bool, true, false}
use Rattle.rasta_pcap.specs.declared.fault.Fault.{Fault}
use Rattle.rasta_pcap.specs.Capture.{Reading}
use Rattle.rasta_pdu.specs.declared.pdu.Pdu.{Pdu}
use Rattle.rasta_check.specs.Capture.SentLists.{FirstCopy}
use Rattle.rasta_check.specs.Capture.Lists.{copy_of}
use Rattle.rasta_check.specs.Capture.Crossing.{Crossing}
use Rattle.rasta_check.specs.Capture.Reading.{after_reading}

-- a sent list with a new PDU at this place, or as it was
abbrev pub with_new : List FirstCopy → ℕ → Option Pdu → List FirstCopy
with_new sent place None = sent
with_new sent place (Some pdu) = sent ++ copy_of (place, pdu) ∷ []

-- what crosses after a record: the rest, or nothing where there was no record
abbrev pub after_next : Bool → Crossing → Reading → Result Crossing Fault
after_next true k rest = after_reading k rest
after_next false k rest = Ok k
