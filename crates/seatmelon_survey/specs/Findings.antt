-- What was found in a capture.
use Rattle.std.specs.Prelude.{ℕ, List, Option}
use Rattle.rasta_pcap.specs.declared.fault.Fault.{Fault}
use Rattle.seatmelon_capture.specs.declared.header.FileHeader.{FileHeader}
use Rattle.seatmelon_connections.specs.declared.connection.Connection.{Connection}
use Rattle.seatmelon_pcapng.specs.declared.format.Format.{Format}
use Rattle.seatmelon_survey.specs.CutNotes.{CutNotes}

-- the connections, in the order of their first records; how many records were read, how many of them are packets with
-- the form of RaSTA, and how many of these belong to further connections, which were left out; the datagrams that
-- weren't captured whole; the fault of the record behind those that were read, if there is one; the header of the
-- capture, if that was kept; and the format of its file
pub record Findings : Type 0 where
  pub connections : List Connection
  pub records : ℕ
  pub packets : ℕ
  pub left_out : ℕ
  pub cuts : CutNotes
  pub fault : Option Fault
  pub header : Option FileHeader
  pub format : Format
