-- What the program does with a form, over its files and its output.
use Rattle.std.specs.Prelude.{◌≡◌, ◌⊎◌, ℕ, List, [], Option, Ok, Err}
use Rattle.std.specs.Io.KnownBytes.{Consumes, IsAtEnd}
use Rattle.rasta_pcap.specs.declared.fault.Fault.{Fault}
use Rattle.rasta_pcap.specs.Fault.{no_memory, read_failed, write_failed}
use Rattle.rasta_pcap.specs.Devices.{HasFailed}
use Rattle.rasta_pdu.specs.Params.{Parameters}
use Rattle.rasta_params.specs.Keys.{ReadsParameters}
use Rattle.rasta_show.specs.Show.{show_status, show_text}
use Rattle.rasta_line.specs.Runs.{IsRunFault, WritesBeginning}
use Rattle.rasta_commands.specs.declared.forms.Form.{Form}
use Rattle.rasta_commands.specs.declared.forms.Form.TheVariants.{Show, Build, Check, Audit}
use Rattle.rasta_verdict.specs.Verdict.{BeginsVerdict, IsVerdict, WritesVerdict}
use Rattle.rasta_verdict.specs.Proposed.{BeginsOutcome, IsAudit, IsBuild}
use Rattle.rasta_verdict.specs.Claims.{ClaimsHeadline}
use Rattle.rasta_verdict.specs.Decided.{Decides}

-- the bytes that are left of the parameter file, of the certificate and of the capture, what the output holds, and how
-- often each of the four devices has failed
pub record Devices : Type 0 where
  pub parameters : Option (List ℕ)
  pub certificate : Option (List ℕ)
  pub capture : Option (List ℕ)
  pub output : Option (List ℕ)
  pub parameter_failures : ℕ
  pub certificate_failures : ℕ
  pub capture_failures : ℕ
  pub output_failures : ℕ

-- ---- which files

abbrev pub capture_path : Form → List ℕ
capture_path (Show capture parameters) = capture.now
capture_path (Build capture parameters) = capture.now
capture_path (Check capture parameters certificate) = capture.now
capture_path (Audit capture parameters) = capture.now

abbrev pub parameters_path : Form → List ℕ
parameters_path (Show capture parameters) = parameters.now
parameters_path (Build capture parameters) = parameters.now
parameters_path (Check capture parameters certificate) = parameters.now
parameters_path (Audit capture parameters) = parameters.now

-- no path where the form names no certificate
abbrev pub certificate_path : Form → List ℕ
certificate_path (Check capture parameters certificate) = certificate.now
certificate_path _ = []

-- ---- what is told

-- `show` tells the text of a file, with its status
abbrev pub IsShown : Parameters → List ℕ → List ℕ → ℕ → Type 0
IsShown p file text status = (text ≡ show_text p file) × (status ≡ show_status p file)

-- what a form tells of a file, by the parameters and the text of a certificate, which `check` alone looks at
abbrev pub Tells : Form → Parameters → List ℕ → List ℕ → List ℕ → ℕ → Type 0
Tells (Show a b) p certificate = IsShown p
Tells (Build a b) p certificate = IsBuild p
Tells (Check a b c) p certificate = IsVerdict p certificate
Tells (Audit a b) p certificate = IsAudit p

-- what was written begins what a form tells: `show` and `check` have one text, and the others may have several
abbrev pub BeginsTelling : Form → Parameters → List ℕ → Option (List ℕ) → Option (List ℕ) → Option (List ℕ)
    → Option (List ℕ) → Type 0
BeginsTelling (Show a b) p certificate = WritesBeginning (show_text p)
BeginsTelling (Build a b) p certificate = BeginsOutcome (IsBuild p)
BeginsTelling (Check a b c) p certificate = BeginsVerdict (IsVerdict p certificate)
BeginsTelling (Audit a b) p certificate = BeginsOutcome (IsAudit p)

-- where the status is 0, what `check` and `audit` wrote tells a run, and the headline holds of it; the others make no
-- claim
abbrev pub HoldsHeadline : Form → Parameters → ℕ → Option (List ℕ) → Option (List ℕ) → Option (List ℕ) → Option (List ℕ)
    → Type 0
HoldsHeadline (Check a b c) p = WritesVerdict (ClaimsHeadline p)
HoldsHeadline (Audit a b) p = WritesVerdict (ClaimsHeadline p)
HoldsHeadline _ p = λ status old_input new_input old_output new_output. Unit {0}

-- `build` and `audit` decide; the others make no claim
abbrev pub HoldsDecision : Form → Parameters → ℕ → Option (List ℕ) → Option (List ℕ) → Option (List ℕ) → Option (List ℕ)
    → Type 0
HoldsDecision (Build a b) p = WritesVerdict (Decides p)
HoldsDecision (Audit a b) p = WritesVerdict (Decides p)
HoldsDecision _ p = λ status old_input new_input old_output new_output. Unit {0}

-- `build`, `check` and `audit` wrote nothing where they give up for another cause than a failed write; `show` may have
-- written a beginning of its text
abbrev pub StaysSilent : Form → Fault → Option (List ℕ) → Option (List ℕ) → Type 0
StaysSilent (Show a b) fault old new = Unit {0}
StaysSilent _ fault old new = (fault ≡ write_failed) ⊎ (new ≡ old)

-- ---- what is read

-- the whole input was read, and had these bytes
abbrev pub ReadsWhole : Option (List ℕ) → Option (List ℕ) → List ℕ → Type 0
ReadsWhole old new bytes = Consumes old new bytes × IsAtEnd new

-- the certificate was read, where the form names one, and else no byte of it
abbrev pub ReadsCertificate : Form → Option (List ℕ) → Option (List ℕ) → List ℕ → Type 0
ReadsCertificate (Check a b c) old new bytes = ReadsWhole old new bytes
ReadsCertificate _ old new bytes = (new ≡ old) × (bytes ≡ [])

-- out of memory, or a reader that failed
abbrev pub IsReadFault : Fault → ℕ → ℕ → Type 0
IsReadFault f old new = (f ≡ no_memory) ⊎ ((f ≡ read_failed) × HasFailed old new)

-- the whole parameter file was read, and its text is that of these parameters
pub record ReadsParameterFile (old new : Option (List ℕ)) (p : Parameters) : Type 0 where
  pub text : List ℕ
  pub whole : ReadsWhole old new text
  pub parameters : ReadsParameters text (Ok p)

-- ---- what is done

-- the parameters were read, and the certificate where there is one, and what the form tells by them was written
pub record CarriesOut (form : Form) (old new : Devices) (status : ℕ) : Type 0 where
  pub params : Parameters
  pub read : ReadsParameterFile old.parameters new.parameters params
  pub certificate : List ℕ
  pub read_certificate : ReadsCertificate form old.certificate new.certificate certificate
  pub written : WritesVerdict (Tells form params certificate) status old.capture new.capture old.output new.output

-- why a form isn't carried out. The parameters are read and judged first, then the certificate is read, and what comes
-- later is not touched by then.
pub data GivesUp (form : Form) (old new : Devices) (fault : Fault) : Type 0 where
  parameters_unread : IsReadFault fault old.parameter_failures new.parameter_failures
      → new.certificate ≡ old.certificate → new.capture ≡ old.capture → new.output ≡ old.output
      → GivesUp form old new fault
  parameters_refused : (text : List ℕ) → ReadsWhole old.parameters new.parameters text
      → ReadsParameters text (Err fault)
      → new.certificate ≡ old.certificate → new.capture ≡ old.capture → new.output ≡ old.output
      → GivesUp form old new fault
  certificate_unread : (p : Parameters) → ReadsParameterFile old.parameters new.parameters p
      → IsReadFault fault old.certificate_failures new.certificate_failures
      → new.capture ≡ old.capture → new.output ≡ old.output → GivesUp form old new fault
  run_failed : (p : Parameters) → ReadsParameterFile old.parameters new.parameters p
      → (certificate : List ℕ) → ReadsCertificate form old.certificate new.certificate certificate
      → IsRunFault fault old.capture_failures new.capture_failures old.output_failures new.output_failures
      → BeginsTelling form p certificate old.capture new.capture old.output new.output → GivesUp form old new fault
