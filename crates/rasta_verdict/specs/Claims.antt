-- What a text that explains a capture claims.
use Rattle.std.specs.Prelude.{◌≡◌, ℕ, List, Ok}
use Rattle.rasta_pdu.specs.Params.{Parameters}
use Rattle.rasta_cert.specs.Certificate.{Scripts}
use Rattle.rasta_check.specs.Capture.Crossing.{Crossing}
use Rattle.rasta_check.specs.Capture.Reading.{crossing_of}
use Rattle.rasta_check.specs.Verdict.Headline.{Headline}
use Rattle.rasta_check.specs.Verdict.Report.{Explained}
use Rattle.rasta_verdict.specs.RunText.{run_text}
use Rattle.rasta_verdict.specs.ToldRun.{IsToldRun}
use Rattle.rasta_verdict.specs.Verdict.{explained_text}

-- the text tells a run of two ends that sends exactly what crossed in the capture, line by line, and a report for which
-- the headline holds: in every run that sends these packets, each end handed up what is listed as taken by it
pub record IsHeadlined (p : Parameters) (file text : List ℕ) : Type 0 where
  pub crossing : Crossing
  pub scripts : Scripts
  pub report : Explained
  pub crossed : crossing_of p file ≡ Ok crossing
  pub told : text ≡ explained_text crossing scripts report
  pub run : IsToldRun p crossing.packets (run_text crossing scripts)
  pub headline : Headline p crossing.packets report

-- so does every text with the status 0
abbrev pub ClaimsHeadline : Parameters → List ℕ → List ℕ → ℕ → Type 0
ClaimsHeadline p file text status = status ≡ 0 → IsHeadlined p file text
