-- A verdict as the code holds it.
use Rattle.std.specs.Prelude.{◌≡◌, ◌⊎◌, ℕ, List, length, Result, Ok, Err}
use Rattle.rasta_pcap.specs.declared.fault.Fault.{Fault}
use Rattle.rasta_pcap.specs.Fault.{no_memory}
use Rattle.rasta_cert.specs.Certificate.{Scripts}
use Rattle.rasta_check.specs.declared.report.Report.{Report}
use Rattle.rasta_check.specs.Verdict.Headline.{Headline}
use Rattle.rasta_check.specs.Capture.Crossing.{Crossing}
use Rattle.rasta_check.specs.Verdict.Report.{BothFit, IsScriptVerdict, explained}
use Rattle.rasta_line.specs.Texts.{refused_line}
use Rattle.rasta_verdict.specs.Proposed.{Telling}
use Rattle.rasta_verdict.specs.RunText.{run_text}
use Rattle.rasta_verdict.specs.Told.{IsTold}
use Rattle.rasta_verdict.specs.ToldRun.{IsToldRun}
use Rattle.rasta_verdict.specs.Verdict.{explained_text}
use Rattle.rasta_verdict.specs.declared.verdict.Explanation.{Explanation}
use Rattle.rasta_verdict.specs.declared.verdict.Verdict.{Verdict}
use Rattle.rasta_verdict.specs.declared.verdict.Verdict.TheVariants.{Unscripted, Refused, Explained}

abbrev pub text_of_explanation : Explanation → List ℕ
text_of_explanation e = explained_text e.store.now e.certificate (explained e.report)

abbrev pub text_of_verdict : Verdict → List ℕ
text_of_verdict (Unscripted fault) = refused_line fault
text_of_verdict (Refused fault scripts) = refused_line fault
text_of_verdict (Explained e) = text_of_explanation e

abbrev pub status_of_verdict : Verdict → ℕ
status_of_verdict (Unscripted fault) = 1
status_of_verdict (Refused fault scripts) = 1
status_of_verdict (Explained e) = 0

-- the run of an explanation can be written in one pass
abbrev pub HasToldRun : Verdict → Type 0
HasToldRun (Unscripted fault) = Unit {0}
HasToldRun (Refused fault scripts) = Unit {0}
HasToldRun (Explained e) = IsTold e.store.now e.certificate

-- the checker refuses these scripts by this fault, and they don't both fit
abbrev pub IsRefusedBy : Crossing → Scripts → Fault → Type 0
IsRefusedBy k scripts fault = IsScriptVerdict k.params (length k.packets) k.client k.server scripts (Err fault)
    × (BothFit k.params (length k.packets) k.client k.server scripts → ⊥)

-- what the checker says of what crossed and these scripts
abbrev pub IsChecked : Crossing → Scripts → Result Report Fault → Type 0
IsChecked k scripts (Ok report) = IsTold k scripts
    × IsScriptVerdict k.params (length k.packets) k.client k.server scripts (Ok (explained report))
    × Headline k.params k.packets (explained report)
    × IsToldRun k.params k.packets (run_text k scripts)
IsChecked k scripts (Err fault) = IsRefusedBy k scripts fault ⊎ (fault ≡ no_memory)

-- the verdict on what crossed and these scripts
abbrev pub IsVerdictByScripts : Crossing → Scripts → Verdict → Type 0
IsVerdictByScripts k scripts (Unscripted fault) = ⊥
IsVerdictByScripts k scripts (Refused fault certificate) = (certificate ≡ scripts) × IsRefusedBy k scripts fault
IsVerdictByScripts k scripts (Explained e) = (e.store.now ≡ k) × (e.certificate ≡ scripts)
    × IsScriptVerdict k.params (length k.packets) k.client k.server scripts (Ok (explained e.report))
    × Headline k.params k.packets (explained e.report)
    × IsToldRun k.params k.packets (run_text k scripts)

-- the text of a verdict whose explanation is told so
abbrev pub told_verdict : Telling → Verdict → List ℕ
told_verdict tell (Unscripted fault) = refused_line fault
told_verdict tell (Refused fault scripts) = refused_line fault
told_verdict tell (Explained e) = tell e.store.now e.certificate (explained e.report)
