-- What is told of a verdict on what crossed.
use Rattle.std.proofs.Common.{◌≡◌, ◌∙◌, ℕ, ◌+◌, ◌<◌, ◌≤◌, List, length, min, Option, None, Some, Result, Ok, ap, arith, refl, subst}
use Rattle.std.specs.Prelude.{IfSome, slice_get, option_map}
use Rattle.std.specs.Option.{option_and_then}
use Rattle.std.proofs.lemmas.Option.{slice_get_within}
use Rattle.rasta_pcap.specs.Fault.{fault_at, not_found}
use Rattle.rasta_pcap.specs.declared.fault.Fault.{Fault}
use Rattle.rasta_pcap.specs.declared.fault.Side.{Side}
use Rattle.rasta_pcap.specs.declared.fault.Side.TheVariants.{Client, Server}
use Rattle.rasta_udp.specs.Frame.{Packet}
use Rattle.rasta_pdu.specs.Params.{Parameters}
use Rattle.rasta_cert.specs.Certificate.{Scripts}
use Rattle.rasta_check.specs.Capture.SentLists.{FirstCopy, Sent}
use Rattle.rasta_check.specs.Capture.Crossing.{Crossing, IsCrossing, sent_by}
use Rattle.rasta_check.specs.Capture.Lists.{position_of_place}
use Rattle.rasta_check.specs.Model.Theorem.{most_packets}
use Rattle.rasta_check.proofs.Capture.Positions.{place_named}
use Rattle.rasta_build.specs.Choices.{IsUnexplained}
use Rattle.rasta_build.specs.Stopping.{IsMet, list_of}
use Rattle.rasta_build.specs.declared.obstacles.Obstacle.{Obstacle}
use Rattle.rasta_check.specs.Verdict.Report as reports
use Rattle.rasta_check.specs.Verdict.Report.{IsScriptVerdict, both_fit, client_refused, server_refused}
use Rattle.rasta_verdict.specs.declared.verdict.Explanation.{Explanation}
use Rattle.rasta_verdict.specs.declared.verdict.Verdict.{Verdict}
use Rattle.rasta_verdict.specs.declared.verdict.Verdict.TheVariants as verdicts
use Rattle.rasta_verdict.specs.Given.{AreScripts, IsRefusedBy, IsVerdictOn, refused}
use Rattle.seatmelon_account.specs.Crossed.{pdu_at}
use Rattle.seatmelon_account.specs.Messages.{AreFirst, messages_sent}
use Rattle.seatmelon_account.specs.Rules.{IsBroken, TellsRule}
use Rattle.seatmelon_account.specs.declared.rules.BrokenRule.{BrokenRule}
use Rattle.seatmelon_account.proofs.SentMessages.{listed_first}

-- a report lists the first messages of each end
lists_first : (p : Parameters) (packets : ℕ) (c s : List FirstCopy) (scripts : Scripts) (report : reports.Explained) (answer : Result reports.Explained Fault)
    → answer ≡ Ok report → IsScriptVerdict p packets c s scripts answer
    → AreFirst (messages_sent c) report.server_taken × AreFirst (messages_sent s) report.client_taken
lists_first p packets c s scripts report _ e (both_fit fits) =
    let same : reports.report_of p packets c s ≡ report = cc in
    subst (λ (r : reports.Explained). AreFirst (messages_sent c) r.server_taken × AreFirst (messages_sent s) r.client_taken) same
    (listed_first p Client c s, listed_first p Server s c)
lists_first p packets c s scripts report _ e (client_refused fault fits) = absurd (cc)
lists_first p packets c s scripts report _ e (server_refused a fault fits first) = absurd (cc)

pub client_first : (k : Crossing) (text : Option (List ℕ)) (e : Explanation) → IsVerdictOn k text (verdicts.Explained e)
    → AreFirst (messages_sent k.client) e.report.server_taken
client_first k text e v = (lists_first _ _ _ _ _ (reports.explained e.report) _ refl v.2).0

pub server_first : (k : Crossing) (text : Option (List ℕ)) (e : Explanation) → IsVerdictOn k text (verdicts.Explained e)
    → AreFirst (messages_sent k.server) e.report.client_taken
server_first k text e v = (lists_first _ _ _ _ _ (reports.explained e.report) _ refl v.2).1

-- a fault by which scripts are refused
pub refused_by : (k : Crossing) (text : Option (List ℕ)) (fault told : Fault) (scripts : Scripts) (v : Verdict) → v ≡ verdicts.Refused fault scripts → told ≡ fault
    → IsVerdictOn k text v → IsRefusedBy k text told
refused_by k text fault told scripts v e same on =
    let is : IsVerdictOn k text (verdicts.Refused fault scripts) = subst (IsVerdictOn k text) e on in
    rw same (refused scripts is.0 is.1)

-- these scripts were given, or proposed
pub scripts_of : (k : Crossing) (text : Option (List ℕ)) (fault : Fault) (scripts : Scripts) (v : Verdict) → v ≡ verdicts.Refused fault scripts
    → IsVerdictOn k text v → AreScripts k text scripts
scripts_of k text fault scripts v e on = (subst (IsVerdictOn k text) e on).0

-- ---- what a walk meets

-- a copy in the sent list of an end is found at its place
found_at : (p : Parameters) (packets : List Packet) (side : Side) (sent : List FirstCopy) (i : ℕ) (copy : FirstCopy) → Sent p packets side sent
    → slice_get sent i ≡ Some copy → pdu_at sent copy.place ≡ Some copy.pdu
found_at p packets side sent i copy is there =
    let at : position_of_place sent copy.place ≡ Some i = place_named sent (record { places = is.list.in_order; numbers = is.numbers }) i copy there in
    ap (λ (o : Option ℕ). option_map (λ (c : FirstCopy). c.pdu) (option_and_then (slice_get sent) o)) at ∙ ap (option_map (λ (c : FirstCopy). c.pdu)) there

-- it crossed
within : (p : Parameters) (packets : List Packet) (side : Side) (sent : List FirstCopy) (i : ℕ) (copy : FirstCopy) → Sent p packets side sent
    → slice_get sent i ≡ Some copy → copy.place < length packets
within p packets side sent i copy is there = slice_get_within packets copy.place _ (is.list.carried i copy there).there

there : (p : Parameters) (packets : List Packet) (side : Side) (sent : List FirstCopy) (place : ℕ) → Sent p packets side sent → length packets ≤ most_packets
    → IsUnexplained sent (fault_at not_found (min (place + 1) 4294967295)) → pdu_at sent place ≡ None → ⊥
there p packets side sent place is few (i, copy, at, same) none =
    let crossed = within p packets side sent i copy is at in
    let places : min (place + 1) 4294967295 ≡ min (copy.place + 1) 4294967295 = ap (λ (f : Fault). f.place) same in
    let is_place : place ≡ copy.place = grind (arith, crossed, few, places) in
    let found = found_at p packets side sent i copy is at in
    absurd (cc)

-- the PDU that a walk meets is there
pub met_there : (k : Crossing) (met : Obstacle) → IsCrossing k → IsMet k.params k.client k.server (Some met) → pdu_at (sent_by k met.side) met.place ≡ None → ⊥
met_there k met is (stops, in_list) none = by met.side in_list none where
  by : (side : Side) → IsUnexplained (list_of side k.client k.server) (fault_at not_found (min (met.place + 1) 4294967295)) → pdu_at (sent_by k side) met.place ≡ None → ⊥
  by Client in_list none = there k.params k.packets Client k.client met.place is.sent.client_sent is.sent.few_packets in_list none
  by Server in_list none = there k.params k.packets Server k.server met.place is.sent.server_sent is.sent.few_packets in_list none

pub rule_told : (k : Crossing) (met : Obstacle) (told : Option BrokenRule) → IsCrossing k → IsMet k.params k.client k.server (Some met)
    → IfSome told (IsBroken k met) → (told ≡ None → pdu_at (sent_by k met.side) met.place ≡ None) → TellsRule k told
rule_told k met None is meets broken none = absurd (met_there k met is meets (none refl))
rule_told k met (Some rule) is meets broken none = (met, meets, broken)
