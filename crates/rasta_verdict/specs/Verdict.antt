-- The text of a verdict on a capture and a certificate.
use Rattle.std.specs.Prelude.{◌≡◌, ℕ, List, [], ◌∷◌, ◌++◌, length, codes, Option, Ok, Err}
use Rattle.std.specs.List.{flat_map}
use Rattle.std.specs.Fmt.{decimal}
use Rattle.rasta_pcap.specs.declared.fault.Fault.{Fault}
use Rattle.rasta_pcap.specs.declared.fault.Side.{Side}
use Rattle.rasta_pcap.specs.declared.fault.Side.TheVariants.{Client, Server}
use Rattle.rasta_pdu.specs.Params.{Parameters}
use Rattle.rasta_cert.specs.Certificate.{IsCertificate, Scripts, certificate_text}
use Rattle.rasta_cert.specs.Refusals.{IsRefusedText}
use Rattle.rasta_check.specs.Capture.Crossing.{Crossing}
use Rattle.rasta_check.specs.Capture.Reading.{crossing_of}
use Rattle.rasta_check.specs.Verdict.Listed.{ListedMessage}
use Rattle.rasta_check.specs.Verdict.Report.{Explained, IsScriptVerdict}
use Rattle.rasta_line.specs.Texts.{line_of, message_text, refused_line, side_text}
use Rattle.rasta_verdict.specs.RunText.{run_text}
use Rattle.rasta_line.specs.Runs.{ReadsAndWrites}

-- ---- texts

-- `MESSAGE DATA_INDEX PROOF_INDEX BYTES`
unfoldable pub taken_line : ListedMessage → List ℕ
taken_line t = line_of (decimal t.number ∷ decimal t.data_place ∷ decimal t.proof_place ∷ message_text t.message ∷ [])

-- how many messages a side surely took: `taken by SIDE COUNT`
unfoldable pub taken_count_line : Side → ℕ → List ℕ
taken_count_line side count = line_of (codes "taken" ∷ codes "by" ∷ side_text side ∷ decimal count ∷ [])

-- a line for each of these messages
unfoldable pub taken_lines : List ListedMessage → List ℕ
taken_lines taken = flat_map taken_line taken

-- how many messages a side surely took, and which
unfoldable pub taken_text : Side → List ListedMessage → List ℕ
taken_text side taken = taken_count_line side (length taken) ++ taken_lines taken

-- `explained COUNT`, of all packets
unfoldable pub explained_line : ℕ → List ℕ
explained_line packets = line_of (codes "explained" ∷ decimal packets ∷ [])

-- what crossed, explained by two scripts, with the report on it: the packets' count, the run, and what each side took
unfoldable pub explained_text : Crossing → Scripts → Explained → List ℕ
explained_text k scripts report = explained_line report.packets
    ++ (run_text k scripts ++ (taken_text Client report.client_taken ++ taken_text Server report.server_taken))

-- ---- the verdict

-- The verdict on a capture and the text of a certificate, with its own text and the status of the program. The capture
-- is judged first, then the certificate's text, then the scripts, and 0 says that the capture is explained.
pub data IsVerdict (p : Parameters) (certificate file : List ℕ) : List ℕ → ℕ → Type 0 where
  capture_refused : (fault : Fault) → crossing_of p file ≡ Err fault
      → IsVerdict p certificate file (refused_line fault) 1
  certificate_refused : (k : Crossing) (fault : Fault) → crossing_of p file ≡ Ok k
      → IsRefusedText certificate fault
      → IsVerdict p certificate file (refused_line fault) 1
  script_refused : (k : Crossing) (scripts : Scripts) (fault : Fault) → crossing_of p file ≡ Ok k
      → certificate ≡ certificate_text scripts → IsCertificate scripts
      → IsScriptVerdict k.params (length k.packets) k.client k.server scripts (Err fault)
      → IsVerdict p certificate file (refused_line fault) 1
  explained : (k : Crossing) (scripts : Scripts) (report : Explained) → crossing_of p file ≡ Ok k
      → certificate ≡ certificate_text scripts → IsCertificate scripts
      → IsScriptVerdict k.params (length k.packets) k.client k.server scripts (Ok report)
      → IsVerdict p certificate file (explained_text k scripts report) 0

-- ---- what a run read and wrote, where a relation says which inputs have which text and status

-- what was written and answered is a text and a status of every input that begins with what was read
abbrev pub WritesVerdict : (List ℕ → List ℕ → ℕ → Type 0) → ℕ → Option (List ℕ) → Option (List ℕ) → Option (List ℕ)
    → Option (List ℕ) → Type 0
WritesVerdict IsText answer = ReadsAndWrites (λ file output. IsText file output answer)

-- what was written begins each text of every such input
abbrev pub BeginsVerdict : (List ℕ → List ℕ → ℕ → Type 0) → Option (List ℕ) → Option (List ℕ) → Option (List ℕ)
    → Option (List ℕ) → Type 0
BeginsVerdict IsText =
    ReadsAndWrites (λ file output. (text : List ℕ) (status : ℕ) → IsText file text status
    → (rest : List ℕ) × (text ≡ output ++ rest))
