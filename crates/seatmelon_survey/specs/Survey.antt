-- What a survey counted.
use Rattle.std.specs.Prelude.{ℕ, List, Option}
use Rattle.rasta_pcap.specs.declared.fault.Fault.{Fault}
use Rattle.seatmelon_capture.specs.declared.header.FileHeader.{FileHeader}
use Rattle.seatmelon_connections.specs.declared.connection.Connection.{Connection}
use Rattle.seatmelon_pcapng.specs.declared.format.Format.{Format}
use Rattle.seatmelon_survey.specs.CutNotes.{CutNotes}
use Rattle.seatmelon_survey.specs.declared.findings.Survey.{Survey}

-- how many records were read
abbrev pub records_in : Survey → ℕ
records_in s = s.records

-- the fault of the record behind them, if there is one
abbrev pub fault_in : Survey → Option Fault
fault_in s = s.fault

-- the connections, in the order of their first records
abbrev pub connections_in : Survey → List Connection
connections_in s = s.connections

-- the datagrams that weren't captured whole
abbrev pub cuts_of : Survey → CutNotes
cuts_of s = s.cuts

-- the header of the capture, if that was kept
abbrev pub header_of : Survey → Option FileHeader
header_of s = s.header

-- in which format its file was read, a classic one if that wasn't kept
abbrev pub format_of_survey : Survey → Format
format_of_survey s = s.format
