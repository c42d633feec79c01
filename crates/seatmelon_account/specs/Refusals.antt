-- What is told of a refusal.
use Rattle.std.specs.Prelude.{◌≡◌, ℕ, ◌-◌, List, length, Option, None, Some, Err}
use Rattle.rasta_pcap.specs.declared.fault.Fault.{Fault}
use Rattle.rasta_pdu.specs.Params.{Parameters}
use Rattle.rasta_cert.specs.Certificate.{Scripts}
use Rattle.rasta_cert.specs.Refusals.{IsRefusedText}
use Rattle.rasta_check.specs.Capture.Crossing.{Crossing}
use Rattle.rasta_check.specs.Verdict.Report.{IsScriptVerdict}
use Rattle.rasta_verdict.specs.Given.{AreScripts, IsUnscripted}
use Rattle.seatmelon_reading.specs.declared.capture_refusal.CaptureRefusal.{CaptureRefusal}
use Rattle.seatmelon_account.specs.Crossed as crossed
use Rattle.seatmelon_account.specs.Entries.{IsEntry}
use Rattle.seatmelon_account.specs.Rules.{TellsRule}
use Rattle.seatmelon_account.specs.Troubles.{TellsPacket}
use Rattle.seatmelon_account.specs.declared.refusal.Subject.{Subject}
use Rattle.seatmelon_account.specs.declared.refusal.Subject.TheVariants as subjects

-- the record that the fault names is told, with its time, its packet behind what crossed, and the safety codes from
-- there on; or the header, where that is refused
abbrev pub TellsRecord : Parameters → Crossing → CaptureRefusal → Subject → Type 0
TellsRecord p k r subjects.Header = r.fault.place ≡ 0
TellsRecord p k r (subjects.Record number time packet codes) = (number ≡ r.fault.place) × (time ≡ r.time)
    × TellsPacket p k r packet × (codes ≡ r.codes)
TellsRecord p k r (subjects.Line number) = ⊥
TellsRecord p k r (subjects.Unexplained packet rule lacks_opening is_exchanged) = ⊥
TellsRecord p k r (subjects.Entry entry) = ⊥

-- the checker refuses these scripts by this fault
abbrev pub IsRefusal : Crossing → Scripts → Fault → Type 0
IsRefusal k scripts fault = IsScriptVerdict k.params (length k.packets) k.client k.server scripts (Err fault)

-- the line of the text is told where that is no certificate's; where no scripts are found, the packet that can't be
-- explained, with what a walk over what crossed meets; and the entry, where the checker refuses scripts
abbrev pub TellsPlace : Crossing → Option (List ℕ) → Fault → Subject → Type 0
TellsPlace k text fault subjects.Header = ⊥
TellsPlace k text fault (subjects.Record number time packet codes) = ⊥
TellsPlace k text fault (subjects.Line number) = (given : List ℕ) × (text ≡ Some given) × IsRefusedText given fault
    × (number ≡ fault.place)
TellsPlace k text fault (subjects.Unexplained packet rule lacks_opening is_exchanged) = (text ≡ None)
    × IsUnscripted k None fault × crossed.IsCrossedAt k (fault.place - 1) packet × TellsRule k rule
    × (lacks_opening ≡ crossed.lacks_opening k) × (is_exchanged ≡ crossed.is_exchanged packet)
TellsPlace k text fault (subjects.Entry entry) = (scripts : Scripts) × AreScripts k text scripts
    × IsRefusal k scripts fault × IsEntry scripts fault entry
