-- What the checker answers: the report on two sent lists, or the first fault of a script.
use Rattle.std.specs.Prelude.{ℕ, List, length, Result, Ok, Err}
use Rattle.rasta_pcap.specs.declared.fault.Fault.{Fault}
use Rattle.rasta_pcap.specs.declared.fault.Side.TheVariants.{Client, Server}
use Rattle.rasta_pdu.specs.Params.{Parameters}
use Rattle.rasta_cert.specs.Certificate.{Scripts}
use Rattle.rasta_end.specs.State.{EndState}
use Rattle.rasta_check.specs.declared.report.Report.{Report}
use Rattle.rasta_check.specs.Capture.SentLists.{FirstCopy, crossing_list}
use Rattle.rasta_check.specs.Verdict.Listed.{ListedMessage, listed}
use Rattle.rasta_check.specs.Script.Fitting.{Fits, FirstFault}
use Rattle.rasta_check.specs.Capture.Faults.{IsFaultlessCapture, IsRefusedCapture}

-- how many packets crossed, and what each side took of its peer
pub record Explained : Type 0 where
  pub packets : ℕ
  pub client_taken : List ListedMessage
  pub server_taken : List ListedMessage

-- the report on the sent lists of the client and of the server
abbrev pub report_of : Parameters → ℕ → List FirstCopy → List FirstCopy → Explained
report_of p packets c s =
    record { packets = packets; client_taken = listed p Server s c; server_taken = listed p Client c s }

-- both scripts fit
abbrev pub BothFit : Parameters → ℕ → List FirstCopy → List FirstCopy → Scripts → Type 0
BothFit p packets c s scripts =
    ((a : EndState) × Fits p Client packets c s scripts.client a)
    × ((b : EndState) × Fits p Server packets s c scripts.server b)

-- the verdict on two scripts: the report, where both fit; else the first fault of the client's, and where that fits of
-- the server's
pub data IsScriptVerdict (p : Parameters) (packets : ℕ) (c s : List FirstCopy)
    (scripts : Scripts) : Result Explained Fault → Type 0 where
  both_fit : BothFit p packets c s scripts → IsScriptVerdict p packets c s scripts (Ok (report_of p packets c s))
  client_refused : (fault : Fault) → FirstFault p Client packets c s scripts.client fault
      → IsScriptVerdict p packets c s scripts (Err fault)
  server_refused : (a : EndState) (fault : Fault) → Fits p Client packets c s scripts.client a
      → FirstFault p Server packets s c scripts.server fault
      → IsScriptVerdict p packets c s scripts (Err fault)

-- what a report says
abbrev pub explained : Report → Explained
explained r = record { packets = r.packets; client_taken = r.client_taken; server_taken = r.server_taken }

-- ---- over a file

-- the verdict on a capture and a certificate: the first fault of the capture, else the verdict on the lists that its
-- sides sent
pub data IsFileVerdict (p : Parameters) (file : List ℕ) (scripts : Scripts) : Result Explained Fault → Type 0 where
  refused : (fault : Fault) → IsRefusedCapture p file fault → IsFileVerdict p file scripts (Err fault)
  judged : (client server : List FirstCopy) (capture : IsFaultlessCapture p file client server)
      (verdict : Result Explained Fault)
      → IsScriptVerdict p (length (crossing_list p capture.records)) client server scripts verdict
      → IsFileVerdict p file scripts verdict

-- a certificate explains a capture: the capture has no fault, and both scripts fit what its sides sent
pub record Explains (p : Parameters) (file : List ℕ) (scripts : Scripts) : Type 0 where
  pub client : List FirstCopy
  pub server : List FirstCopy
  pub capture : IsFaultlessCapture p file client server
  pub fits : BothFit p (length (crossing_list p capture.records)) client server scripts
