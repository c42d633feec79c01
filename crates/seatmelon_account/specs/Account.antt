-- What an account tells of what was read.
use Rattle.std.specs.Prelude.{◌≡◌, ◌↔◌, ◌<◌, ◌&&◌, ℕ, Bool, List, length, take, filter, nat_lt, Option, None, Some, IfSome}
use Rattle.std.specs.Prelude.{IsSome, is_some, option_map, unwrap_or}
use Rattle.sha2.specs.Sha256.{sha256}
use Rattle.rasta_pcap.specs.declared.fault.Side.TheVariants.{Client, Server}
use Rattle.rasta_pdu.specs.Params.{Parameters}
use Rattle.rasta_check.specs.Capture.Crossing.{Crossing}
use Rattle.rasta_check.specs.Verdict.Report as reports
use Rattle.rasta_verdict.specs.Given.{IsExplainedBy, IsRefusedBy}
use Rattle.seatmelon_middle.specs.Packets.{opens_first}
use Rattle.seatmelon_reading.specs.declared.capture_refusal.CaptureRefusal.{CaptureRefusal}
use Rattle.seatmelon_reading.specs.declared.reading.Reading.{Reading}
use Rattle.seatmelon_reading.specs.Silences.{is_untimed}
use Rattle.seatmelon_reading.specs.Window as windows
use Rattle.seatmelon_reading.specs.Window.{IsBounded}
use Rattle.seatmelon_account.specs.Hypotheses.{IsHypothesis}
use Rattle.seatmelon_account.specs.Lives.{AreSilences, lives_of}
use Rattle.seatmelon_account.specs.Messages.{IsDirection}
use Rattle.seatmelon_account.specs.Middle.{IsFromMiddle, packets_in, tells_middle}
use Rattle.seatmelon_account.specs.Offers.{AreOffers}
use Rattle.seatmelon_account.specs.Refusals.{TellsPlace, TellsRecord}
use Rattle.seatmelon_account.specs.Starts.{start_in}
use Rattle.seatmelon_account.specs.declared.account.Account.{Account}
use Rattle.seatmelon_account.specs.declared.account.File.{File}
use Rattle.seatmelon_account.specs.declared.account.Inputs.{Inputs}
use Rattle.seatmelon_account.specs.declared.account.Texts.{Texts}
use Rattle.seatmelon_account.specs.declared.account.Verdict.{Verdict}
use Rattle.seatmelon_account.specs.declared.explained.Explained.{Explained}
use Rattle.seatmelon_account.specs.declared.refusal.Refusal.{Refusal}
use Rattle.seatmelon_account.specs.declared.account.Verdict.TheVariants as verdicts

-- the fault that is told is that of the capture, with its record, or that of the verdict on what crossed, if anything
-- did, with what it speaks of
abbrev pub IsToldRefusal : Parameters → Crossing → Option CaptureRefusal → Option (List ℕ) → Refusal → Type 0
IsToldRefusal p k (Some refusal) text told = (told.fault ≡ refusal.fault) × TellsRecord p k refusal told.subject
IsToldRefusal p k None text told = (0 < length k.packets) × IsRefusedBy k text told.fault
    × TellsPlace k text told.fault told.subject

-- what explains the packets that crossed, where so many packets of the recorded channels stand before the window
pub record IsToldExplained (p : Parameters) (k : Crossing) (before : ℕ) (text : Option (List ℕ))
    (e : Explained) : Type 0 where
  pub crossed : 0 < length k.packets
  pub report : reports.Explained
  pub answered : IsExplainedBy k text report
  pub packets : e.packets ≡ report.packets
  pub has_code : e.has_code ≡ nat_lt 0 p.code_length
  pub start : e.start ≡ start_in p before
  pub client : IsDirection Client k.client report.server_taken e.client
  pub server : IsDirection Server k.server report.client_taken e.server

-- the verdict, and what is told of it: no packets exactly where none crossed and the capture has no fault
abbrev pub IsToldOf : Parameters → Crossing → ℕ → Option CaptureRefusal → Option (List ℕ) → Verdict → Type 0
IsToldOf p k before refusal text verdicts.NoPackets = (refusal ≡ None) × (length k.packets ≡ 0)
IsToldOf p k before refusal text (verdicts.Refused told) = IsToldRefusal p k refusal text told
IsToldOf p k before refusal text (verdicts.Explained e) = (refusal ≡ None) × IsToldExplained p k before text e

-- the text of the certificate, where one was given
abbrev pub certificate_in : Texts → Option (List ℕ)
certificate_in texts = option_map (λ text. text.now) texts.certificate

abbrev pub text_in : Inputs → Option (List ℕ)
text_in i = certificate_in i.texts

abbrev pub sum_of : File → List ℕ
sum_of file = file.sum

-- how many PDUs may be supposed
abbrev pub most_in : Inputs → ℕ
most_in i = unwrap_or i.suppose 0

-- the capture is refused, and packets crossed before the refused one
abbrev pub is_refused_behind_some : Reading → Bool
is_refused_behind_some r = is_some r.refusal && nat_lt 0 (length r.store.packets)

-- this is told of what was read
pub record IsAccount (i : Inputs) (r : Reading) (a : Account) : Type 0 where
  pub inputs : a.inputs.now ≡ i
  pub reading : a.reading.now ≡ r
  pub parameters : (a.parameters.name.now ≡ i.names.parameters.now)
      × (a.parameters.sum ≡ sha256 i.texts.parameters.now)
  pub certificate : option_map sum_of a.certificate ≡ option_map sha256 (text_in i)
  pub bounded : IsSome a.window ↔ IsBounded i.params.now
  pub window : IfSome a.window (windows.IsToldOf i.params.now r.notes.records)
  pub channels : a.channels.now ≡ take (length i.params.now.channels) r.notes.channels
  pub untimed : a.untimed ≡ length (filter is_untimed r.notes.packets.items)
  pub silences : AreSilences r a.silences
  pub opens : a.opens ≡ opens_first r.store.params (packets_in r)
  pub course : a.course ≡ (lives_of r).course
  pub offers : AreOffers i.params.now.n_sendmax r.store a.offers
  pub verdict : IsToldOf i.params.now r.store r.notes.before r.refusal (text_in i) a.verdict
  pub before_fault : IfSome a.before_fault (IsToldOf i.params.now r.store r.notes.before None None)
  pub told_before : is_some a.before_fault ≡ is_refused_behind_some r
  pub middle : IfSome a.middle (IsFromMiddle r)
  pub told_middle : is_some a.middle ≡ tells_middle r a.verdict
  pub hypothesis : IfSome a.hypothesis (IsHypothesis i.params.now r.notes (most_in i))
