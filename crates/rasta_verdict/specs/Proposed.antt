-- The texts of a capture for which a certificate is looked for.
use Rattle.std.specs.Prelude.{◌≡◌, ℕ, List, ◌++◌, length, Option, Ok, Err}
use Rattle.rasta_pcap.specs.declared.fault.Fault.{Fault}
use Rattle.rasta_pcap.specs.Fault.{fault_at, not_found}
use Rattle.rasta_pdu.specs.Params.{Parameters}
use Rattle.rasta_cert.specs.Certificate.{IsCertificate, Scripts, certificate_text}
use Rattle.rasta_check.specs.Capture.Crossing.{Crossing}
use Rattle.rasta_check.specs.Capture.Reading.{crossing_of}
use Rattle.rasta_check.specs.Verdict.Report.{Explained, IsScriptVerdict}
use Rattle.rasta_line.specs.Texts.{refused_line}
use Rattle.rasta_line.specs.Runs.{ReadsAndWrites}
use Rattle.rasta_verdict.specs.Verdict.{explained_text}

-- how an explanation is written: what crossed, the scripts that explain it, and the report on both
abbrev pub Telling : Type 0
Telling = Crossing → Scripts → Explained → List ℕ

-- What may become of a capture, with its text and the status of the program: it is refused; no certificate is found for
-- it, at some place; or some certificate explains it, which alone has the status 0. Which certificate is left open.
-- Whether it explains the capture is not.
pub data IsOutcome (tell : Telling) (p : Parameters) (file : List ℕ) : List ℕ → ℕ → Type 0 where
  capture_refused : (fault : Fault) → crossing_of p file ≡ Err fault
      → IsOutcome tell p file (refused_line fault) 1
  none_found : (k : Crossing) (place : ℕ) → crossing_of p file ≡ Ok k
      → IsOutcome tell p file (refused_line (fault_at not_found place)) 1
  explained : (k : Crossing) (scripts : Scripts) (report : Explained) → crossing_of p file ≡ Ok k
      → IsCertificate scripts
      → IsScriptVerdict k.params (length k.packets) k.client k.server scripts (Ok report)
      → IsOutcome tell p file (tell k scripts report) 0

-- an audit tells an explanation as its run, and what each side took
abbrev pub IsAudit : Parameters → List ℕ → List ℕ → ℕ → Type 0
IsAudit p file text status = IsOutcome explained_text p file text status

-- a build tells it as the certificate alone
abbrev pub built_text : Telling
built_text k scripts report = certificate_text scripts

abbrev pub IsBuild : Parameters → List ℕ → List ℕ → ℕ → Type 0
IsBuild p file text status = IsOutcome built_text p file text status

-- what was written begins some text of every input that begins with what was read
abbrev pub BeginsOutcome : (List ℕ → List ℕ → ℕ → Type 0) → Option (List ℕ) → Option (List ℕ) → Option (List ℕ)
    → Option (List ℕ) → Type 0
BeginsOutcome IsText =
    ReadsAndWrites (λ file output. (text rest : List ℕ) × (status : ℕ) × IsText file text status
    × (text ≡ output ++ rest))
