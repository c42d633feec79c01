-- The verdict on what crossed and a certificate that is given, or one that is proposed where none is.
use Rattle.std.specs.Prelude.{◌≡◌, ℕ, List, length, Option, None, Some, Ok, Err}
use Rattle.rasta_pcap.specs.declared.fault.Fault.{Fault}
use Rattle.rasta_cert.specs.Certificate.{Scripts, IsCertificate, certificate_text}
use Rattle.rasta_cert.specs.Refusals.{IsRefusedText}
use Rattle.rasta_build.specs.Completeness.{IsAnswer, IsComplete}
use Rattle.rasta_check.specs.Capture.Crossing.{Crossing}
use Rattle.rasta_check.specs.Verdict.Report.{IsScriptVerdict, explained}
use Rattle.rasta_check.specs.Verdict.Report as reports
use Rattle.rasta_verdict.specs.declared.verdict.Verdict.{Verdict}
use Rattle.rasta_verdict.specs.declared.verdict.Verdict.TheVariants.{Unscripted, Refused, Explained}

-- these are the scripts that a text spells, or that the builder proposes where there is none
abbrev pub AreScripts : Crossing → Option (List ℕ) → Scripts → Type 0
AreScripts k (Some text) scripts = (text ≡ certificate_text scripts) × IsCertificate scripts
AreScripts k None scripts = IsAnswer k.params k.client k.server (Ok scripts)

-- the text is no certificate's, or the builder finds none
abbrev pub IsUnscripted : Crossing → Option (List ℕ) → Fault → Type 0
IsUnscripted k (Some text) fault = IsRefusedText text fault
IsUnscripted k None fault = IsAnswer k.params k.client k.server (Err fault)
    × IsComplete k.params k.client k.server (Err fault)

-- the verdict on what crossed and the text of a certificate, if one is given
abbrev pub IsVerdictOn : Crossing → Option (List ℕ) → Verdict → Type 0
IsVerdictOn k text (Unscripted fault) = IsUnscripted k text fault
IsVerdictOn k text (Refused fault scripts) = AreScripts k text scripts
    × IsScriptVerdict k.params (length k.packets) k.client k.server scripts (Err fault)
IsVerdictOn k text (Explained e) = (e.store.now ≡ k) × AreScripts k text e.certificate
    × IsScriptVerdict k.params (length k.packets) k.client k.server e.certificate (Ok (explained e.report))

-- the checker answers this report on scripts that a text spells, or that are proposed where there is none
abbrev pub IsExplainedBy : Crossing → Option (List ℕ) → reports.Explained → Type 0
IsExplainedBy k text report = (scripts : Scripts) × AreScripts k text scripts
    × IsScriptVerdict k.params (length k.packets) k.client k.server scripts (Ok report)

-- it answers some report on such scripts
abbrev pub IsExplained : Crossing → Option (List ℕ) → Type 0
IsExplained k text = (report : reports.Explained) × IsExplainedBy k text report

-- the text or its scripts are refused by this fault, or none is found
pub data IsRefusedBy (k : Crossing) (text : Option (List ℕ)) (fault : Fault) : Type 0 where
  unscripted : IsUnscripted k text fault → IsRefusedBy k text fault
  refused : (scripts : Scripts) → AreScripts k text scripts
      → IsScriptVerdict k.params (length k.packets) k.client k.server scripts (Err fault)
      → IsRefusedBy k text fault
