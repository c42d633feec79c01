-- The audits of many connections in one file.
use Rattle.std.specs.Prelude.{◌≡◌, ⊤, ℕ, List, length}
use Rattle.std.specs.List.{AllZip}
use Rattle.rasta_pcap.specs.Capture.{max_records, reading_of}
use Rattle.rasta_pcap.specs.Captured.{captured_in}
use Rattle.rasta_pdu.specs.Params.{Parameters}
use Rattle.rasta_line.specs.Texts.{refused_line}
use Rattle.rasta_verdict.specs.Decided.{Decides}
use Rattle.rasta_verdict.specs.Proposed.{IsAudit}
use Rattle.seatmelon_audit.specs.Answers.{IsAnswer}
use Rattle.seatmelon_audit.specs.Facts.{IsFacts}
use Rattle.seatmelon_audit.specs.Files.{StandsThrough}
use Rattle.seatmelon_audit.specs.Records.{others_in}
use Rattle.seatmelon_audit.specs.declared.answer.Answer.{Answer}
use Rattle.seatmelon_audit.specs.declared.answer.Answer.TheVariants as answers
use Rattle.seatmelon_audit.specs.declared.answer.Audit.{Audit}
use Rattle.seatmelon_audit.specs.declared.answer.Connection.{Connection}
use Rattle.seatmelon_audit.specs.declared.line.Line.{Line}

-- this becomes of the connection with these parameters in a file, and this is told of its packets
pub record IsConnection (p : Parameters) (file : List ℕ) (c : Connection) : Type 0 where
  pub answer : IsAnswer p file c.answer
  pub facts : IsFacts p file c.answer c.facts

-- this becomes of each connection, in their order; how many records the file has, how many of them are of none of the
-- connections, and the fault that ends them
pub record AreAudits (recorded : List Parameters) (file : List ℕ) (a : Audit) : Type 0 where
  pub connections : AllZip (λ p c. IsConnection p file c) recorded a.connections.items
  pub records : a.records ≡ length (captured_in file)
  pub others : a.others ≡ length (others_in recorded (captured_in file))
  pub fault : a.fault ≡ (reading_of max_records file).fault

-- what `audit` would write and answer for a connection alone: a text and a status of the capture, which decide of it
abbrev pub IsAuditedAs : Parameters → List ℕ → Answer → Type 0
IsAuditedAs p file answers.NoPackets = (text : List ℕ) × (status : ℕ) × IsAudit p file text status
IsAuditedAs p file (answers.Refused refusal before shown) = IsAudit p file (refused_line refusal.fault) 1
    × Decides p file (refused_line refusal.fault) 1
IsAuditedAs p file (answers.Explained e) = (text : List ℕ) × IsAudit p file text 0
IsAuditedAs p file answers.OutOfMemory = ⊤

-- ---- on the way

-- this becomes of a connection in each file that was read to its end, and this is told of it
abbrev pub IsConnectionOf : Line → Connection → Type 0
IsConnectionOf l c = (file : List ℕ) → StandsThrough file l → IsConnection l.params file c
