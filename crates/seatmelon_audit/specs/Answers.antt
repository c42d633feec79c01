-- What becomes of a connection.
use Rattle.std.specs.Prelude.{◌≡◌, ◌≢◌, ◌↔◌, ⊤, ℕ, ◌-◌, ◌<◌, ◌++◌, take, List, [], length, map, slice_get, nat_eq}
use Rattle.std.specs.Prelude.{if◌then◌else◌, Option, None, Some, option_map, Ok, Err}
use Rattle.rasta_pcap.specs.declared.fault.Fault.{Fault}
use Rattle.rasta_pcap.specs.Captured.{captured_in}
use Rattle.rasta_pcap.specs.Fault.{fault_at, no_memory, not_found}
use Rattle.rasta_udp.specs.Frame.{Packet}
use Rattle.rasta_pdu.specs.Params.{Parameters}
use Rattle.rasta_build.specs.Completeness.{CanCross}
use Rattle.rasta_cert.specs.Certificate.{IsCertificate, Scripts}
use Rattle.rasta_check.specs.Capture.Crossing.{Crossing}
use Rattle.rasta_check.specs.Capture.Reading.{crossing_of}
use Rattle.rasta_check.specs.Verdict.Report.{IsScriptVerdict}
use Rattle.rasta_check.specs.Verdict.Report as reports
use Rattle.rasta_verdict.specs.Given.{IsUnscripted}
use Rattle.seatmelon_audit.specs.Files.{StandsThrough}
use Rattle.seatmelon_audit.specs.Messages.{IsConveyed}
use Rattle.seatmelon_audit.specs.Records.{crossed_before, holding, stamp_of, subject_at, subject_of}
use Rattle.seatmelon_audit.specs.Shown.{IsShownOf, packets_held}
use Rattle.seatmelon_audit.specs.declared.answer.Answer.{Answer}
use Rattle.seatmelon_audit.specs.declared.answer.Answer.TheVariants as answers
use Rattle.seatmelon_audit.specs.declared.answer.Before.{Before}
use Rattle.seatmelon_audit.specs.declared.answer.Before.TheVariants as befores
use Rattle.seatmelon_audit.specs.declared.answer.Explained.{Explained}
use Rattle.seatmelon_audit.specs.declared.line.Line.{Line}
use Rattle.seatmelon_audit.specs.declared.line.Refusal.{Refusal}
use Rattle.seatmelon_audit.specs.declared.line.Stamp.{Stamp}
use Rattle.seatmelon_audit.specs.declared.line.Subject.{Subject}

-- how many packets crossed, and what was conveyed both ways: `server_taken` lists messages of the client, and
-- `client_taken` those of the server
pub record AreCounts (k : Crossing) (report : reports.Explained) (e : Explained) : Type 0 where
  pub packets : e.packets ≡ length k.packets
  pub client : IsConveyed k.client report.server_taken e.client
  pub server : IsConveyed k.server report.client_taken e.server

-- the scripts of a certificate explain what crossed, and this is counted of it
pub record IsExplained (k : Crossing) (e : Explained) : Type 0 where
  pub scripts : Scripts
  pub report : reports.Explained
  pub certificate : IsCertificate scripts
  pub verdict : IsScriptVerdict k.params (length k.packets) k.client k.server scripts (Ok report)
  pub counts : AreCounts k report e

-- The verdict on what crossed, for which a certificate is proposed, refuses it at a place, counted from 1: none is
-- found. No run of two ends within the limits sends packets that begin with those up to there, and some run sends
-- exactly those before it.
pub record IsUnexplained (k : Crossing) (fault : Fault) : Type 0 where
  pub place : ℕ
  pub found_none : fault ≡ fault_at not_found place
  pub verdict : IsUnscripted k None fault
  pub none : (rest : List Packet) → CanCross k.params (take place k.packets ++ rest) → ⊥
  pub exact : (n : ℕ) → CanCross k.params (take n k.packets) ↔ n < place

-- what is known of what crossed before a refusal: nothing did; it is explained; or no run is found for it, by this fault
abbrev pub IsBefore : Crossing → Before → Type 0
IsBefore k befores.Nothing = k.packets ≡ []
IsBefore k (befores.Explained e) = (0 < length k.packets) × IsExplained k e
IsBefore k (befores.Unexplained packets fault) = (packets ≡ length k.packets) × IsUnexplained k fault

-- the record that holds the packet at a place, counted from 1; none if there is no packet
abbrev pub subject_holding : List Stamp → ℕ → Option Subject
subject_holding packets place = if nat_eq place 0 then None
    else option_map (λ (s : Stamp). subject_at s.«record» (Some s.time)) (slice_get packets (place - 1))

-- the records that hold the packets of a connection
abbrev pub packets_in : Parameters → List ℕ → List Stamp
packets_in p file = map stamp_of (holding p (captured_in file))

-- the capture is refused, and this is known of what crossed before; or what crossed by it is refused
pub data IsRefusal (p : Parameters) (file : List ℕ) (refusal : Refusal) (before : Before) : Type 0 where
  capture_refused : (k : Crossing) → crossing_of p file ≡ Err refusal.fault
      → refusal.subject ≡ subject_of (captured_in file) refusal.fault.place
      → crossed_before p (captured_in file) refusal.fault ≡ Ok k → IsBefore k before
      → IsRefusal p file refusal before
  unexplained : (k : Crossing) → crossing_of p file ≡ Ok k → IsUnexplained k refusal.fault
      → refusal.subject ≡ subject_holding (packets_in p file) refusal.fault.place → before ≡ befores.Nothing
      → IsRefusal p file refusal before

-- this becomes of the connection with these parameters in a file
abbrev pub IsAnswer : Parameters → List ℕ → Answer → Type 0
IsAnswer p file answers.NoPackets = (k : Crossing) × (crossing_of p file ≡ Ok k) × (k.packets ≡ [])
IsAnswer p file (answers.Refused refusal before shown) = IsRefusal p file refusal before
    × IsShownOf p (packets_held p (captured_in file)) refusal.fault shown
IsAnswer p file (answers.Explained e) = (k : Crossing) × (crossing_of p file ≡ Ok k) × IsExplained k e
IsAnswer p file answers.OutOfMemory = ⊤

-- ---- on the way

-- this refusal with this before it, and what is told beside it of what these packets show
abbrev pub IsTold : Refusal → Before → Parameters → List Packet → Answer → Type 0
IsTold refusal before p packets answers.NoPackets = ⊥
IsTold refusal before p packets (answers.Refused told known shown) = (told ≡ refusal) × (known ≡ before)
    × IsShownOf p packets refusal.fault shown
IsTold refusal before p packets (answers.Explained e) = ⊥
IsTold refusal before p packets answers.OutOfMemory = ⊤

-- the same, of which this crossed before
abbrev pub IsToldOn : Refusal → Crossing → Parameters → List Packet → Answer → Type 0
IsToldOn refusal k p packets answers.NoPackets = ⊥
IsToldOn refusal k p packets (answers.Refused told before shown) = (told ≡ refusal) × IsBefore k before
    × IsShownOf p packets refusal.fault shown
IsToldOn refusal k p packets (answers.Explained e) = ⊥
IsToldOn refusal k p packets answers.OutOfMemory = ⊤

-- a refusal of what crossed by this fault, which names the packet at its place
abbrev pub RefusesBy : Fault → Crossing → List Stamp → Answer → Type 0
RefusesBy fault k packets answers.NoPackets = ⊥
RefusesBy fault k packets (answers.Refused refusal before shown) = (fault ≢ no_memory) × (refusal.fault ≡ fault)
    × (refusal.subject ≡ subject_holding packets fault.place) × (before ≡ befores.Nothing)
    × IsShownOf k.params k.packets fault shown
RefusesBy fault k packets (answers.Explained e) = ⊥
RefusesBy fault k packets answers.OutOfMemory = ⊤

-- this becomes of what crossed, by packets that these records hold
abbrev pub IsAnswerOn : Crossing → List Stamp → Answer → Type 0
IsAnswerOn k packets answers.NoPackets = k.packets ≡ []
IsAnswerOn k packets (answers.Refused refusal before shown) = IsUnexplained k refusal.fault
    × (refusal.subject ≡ subject_holding packets refusal.fault.place) × (before ≡ befores.Nothing)
    × IsShownOf k.params k.packets refusal.fault shown
IsAnswerOn k packets (answers.Explained e) = IsExplained k e
IsAnswerOn k packets answers.OutOfMemory = ⊤

-- this becomes of a connection in each file that was read to its end
abbrev pub IsAnswerOf : Line → Answer → Type 0
IsAnswerOf l answer = (file : List ℕ) → StandsThrough file l → IsAnswer l.params file answer
