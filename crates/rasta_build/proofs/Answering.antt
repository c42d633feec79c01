-- What a pass that is gone through step by step answers.
use Rattle.std.proofs.Common.{◌≡◌, ℕ, zero, suc, ◌+◌, ◌-◌, ◌<◌, ◌^◌, ◌⊎◌, Bool, true, false, List, length, Option, Some, None, Result, Ok, Err, slice_get, refl, ap, sym, ◌∙◌, arith, inl, inr, subst}
use Rattle.rasta_build.proofs.Prelude.{nat_lt, if◌then◌else◌, option_map, fault_at, no_memory, not_found, Fault, Side, Client, Server, Parameters, Scripts, IsCertificate}
use Rattle.rasta_build.proofs.Prelude.{FirstCopy, BothFit, to_record, base_small, IfErr, Built, SidedCopy, first_of, Pass, one_more, pass_on, passes, copy_goes}
use Rattle.rasta_build.proofs.Prelude.{client_goes, server_goes, all_copies, proposal, proposed_by, explain, Unexplained}
use Rattle.rasta_pdu.specs.declared.pdu.Pdu.{Pdu}
use Rattle.rasta_check.proofs.Script.ScriptsOfRuns.{taken_within}
use Rattle.rasta_check.specs.Capture.Lists.{copy_of}
use Rattle.rasta_pcap.specs.Fault.{too_many_entries}
use Rattle.rasta_check.specs.Capture.Crossing.{AreSentLists}
use Rattle.std.specs.Result.{IfOk, IsErr, IsErrAnd}
use Rattle.rasta_build.specs.Choices.{sided_copy, fault_of_stuck, IsUnexplained, IsProposalFault}
use Rattle.rasta_build.specs.Completeness.{IsProposal, IsAnswer}
use Rattle.rasta_build.specs.Stopping.{fault_of_stop, list_of, IsHaltAt, IsPassStop, IsNextStop, IsStopped, IsMet}
use Rattle.rasta_build.specs.declared.obstacles.Obstacle.{Obstacle}
use Rattle.rasta_build.specs.declared.obstacles.Stop.{Stop}
use Rattle.rasta_build.specs.declared.obstacles.Stop.TheVariants.{OutOfMemory, Blocked}
use Rattle.rasta_build.specs.declared.stuck.Stuck.{Stuck}
use Rattle.rasta_build.proofs.SentLists.{sent_rises, sent_numbers, sent_within}
use Rattle.rasta_build.proofs.Soundness.{passes_read}
use Rattle.rasta_build.proofs.Proposals.{proposal_fits}

-- ---- a step

pub passes_more : (p : Parameters) (c s : List FirstCopy) (k : ℕ) (t t' : Pass) → passes p c s k ≡ Ok t → one_more c s t ≡ Ok t' → passes p c s (k + 1) ≡ Ok t'
passes_more p c s k t t' h g = grind arith

stays : (p : Parameters) (c s : List FirstCopy) (k m n place : ℕ) → n ≡ m + k → passes p c s k ≡ Err place → passes p c s n ≡ Err place
stays p c s k zero n place e h = (let z : n ≡ k = omega (arith, e) in rw z h)
stays p c s k (suc m) n place e h =
    let z : n ≡ suc (m + k) = omega (arith, e) in
    rw z (ap (λ (r : Result Pass ℕ). pass_on r (one_more c s)) (stays p c s k m (m + k) place refl h))

-- a copy with its side
abbrev pub sided : Side → FirstCopy → SidedCopy
sided side copy = record { side = side; copy = copy }

-- the copy that crossed first is of its side's list
first_client : (a b : Option FirstCopy) (copy : FirstCopy) → first_of a b ≡ Some (sided Client copy) → a ≡ Some copy
first_client a b copy h = grind arith

first_server : (a b : Option FirstCopy) (copy : FirstCopy) → first_of a b ≡ Some (sided Server copy) → b ≡ Some copy
first_server a b copy h = grind arith

-- the copy that is found first is the first of both lists
pub next_is : (c s : List FirstCopy) (made answered : ℕ) (x y : Option (ℕ × Pdu)) (o : Option (Side × (ℕ × Pdu))) (side : Side) (sent : ℕ × Pdu)
    → option_map copy_of x ≡ slice_get c made → option_map copy_of y ≡ slice_get s answered → option_map sided_copy o ≡ first_of (option_map copy_of x) (option_map copy_of y)
    → o ≡ Some (side, sent) → first_of (slice_get c made) (slice_get s answered) ≡ Some (sided side (copy_of sent))
next_is c s made answered x y o side sent h g k l = grind arith

client_place : (t : Pass) (q place : ℕ) (o : Option Built) → client_goes t q o ≡ Err place → place ≡ q
client_place t q place o h = grind arith

server_place : (t : Pass) (q place : ℕ) (o : Option Built) → server_goes t q o ≡ Err place → place ≡ q
server_place t q place o h = grind arith

-- a script that can't go on stops a step at its copy, where the step fails for want of an explanation
step_stops : (u : Stuck) (stop : Stop) (side : Side) (place : ℕ) (pass : Result Pass ℕ) → IsHaltAt u side place stop → (u ≡ Unexplained → pass ≡ Err place) → IsPassStop side pass stop
step_stops u stop side place pass h g = grind arith

pub client_stops : (u : Stuck) (stop : Stop) (place : ℕ) (t : Pass) (o : Option Built) → IsHaltAt u Client place stop → (u ≡ Unexplained → o ≡ None) → IsPassStop Client (client_goes t place o) stop
client_stops u stop place t o h k = step_stops u stop Client place (client_goes t place o) h (λ e. ap (client_goes t place) (k e))

pub server_stops : (u : Stuck) (stop : Stop) (place : ℕ) (t : Pass) (o : Option Built) → IsHaltAt u Server place stop → (u ≡ Unexplained → o ≡ None) → IsPassStop Server (server_goes t place o) stop
server_stops u stop place t o h k = step_stops u stop Server place (server_goes t place o) h (λ e. ap (server_goes t place) (k e))

-- the step of the copy that crossed first is the next step
next_client : (c s : List FirstCopy) (t : Pass) (copy : FirstCopy) (stop : Stop) → first_of (slice_get c t.made) (slice_get s t.answered) ≡ Some (sided Client copy)
    → IsPassStop Client (client_goes t copy.place (explain s copy.place copy.pdu.safety t.own)) stop → IsNextStop c s t stop
next_client c s t copy OutOfMemory e h = tt
next_client c s t copy (Blocked met) e h = (
  ap (copy_goes c s t) e ∙ h.1,
  subst (λ (z : Side). IsUnexplained (list_of z c s) (fault_of_stuck Unexplained met.place)) (sym h.0)
      (t.made, copy, first_client (slice_get c t.made) (slice_get s t.answered) copy e, ap (fault_of_stuck Unexplained) (client_place t copy.place met.place _ h.1)),
)

pub client_next : {A : Type 0} (c s : List FirstCopy) (t : Pass) (copy : FirstCopy) (r : Result A Stop) → first_of (slice_get c t.made) (slice_get s t.answered) ≡ Some (sided Client copy)
    → IfErr r (IsPassStop Client (client_goes t copy.place (explain s copy.place copy.pdu.safety t.own))) → IfErr r (IsNextStop c s t)
client_next c s t copy (Ok x) e h = tt
client_next c s t copy (Err stop) e h = next_client c s t copy stop e h

next_server : (c s : List FirstCopy) (t : Pass) (copy : FirstCopy) (stop : Stop) → first_of (slice_get c t.made) (slice_get s t.answered) ≡ Some (sided Server copy)
    → IsPassStop Server (server_goes t copy.place (explain c copy.place copy.pdu.safety t.other)) stop → IsNextStop c s t stop
next_server c s t copy OutOfMemory e h = tt
next_server c s t copy (Blocked met) e h = (
  ap (copy_goes c s t) e ∙ h.1,
  subst (λ (z : Side). IsUnexplained (list_of z c s) (fault_of_stuck Unexplained met.place)) (sym h.0)
      (t.answered, copy, first_server (slice_get c t.made) (slice_get s t.answered) copy e, ap (fault_of_stuck Unexplained) (server_place t copy.place met.place _ h.1)),
)

pub server_next : {A : Type 0} (c s : List FirstCopy) (t : Pass) (copy : FirstCopy) (r : Result A Stop) → first_of (slice_get c t.made) (slice_get s t.answered) ≡ Some (sided Server copy)
    → IfErr r (IsPassStop Server (server_goes t copy.place (explain c copy.place copy.pdu.safety t.other))) → IfErr r (IsNextStop c s t)
server_next c s t copy (Ok x) e h = tt
server_next c s t copy (Err stop) e h = next_server c s t copy stop e h

-- a step that stops, stops the whole pass
pub pass_stops : (p : Parameters) (c s : List FirstCopy) (k : ℕ) (t : Pass) (stop : Stop) → k < all_copies c s → passes p c s k ≡ Ok t → IsNextStop c s t stop → IsStopped p c s stop
pass_stops p c s k t OutOfMemory l h n = tt
pass_stops p c s k t (Blocked met) l h n =
    let here : passes p c s (suc k) ≡ Err met.place = ap (λ (r : Result Pass ℕ). pass_on r (one_more c s)) h ∙ n.0 in
    (stays p c s (suc k) (all_copies c s - suc k) (all_copies c s) met.place (omega (arith, l)) here, n.1)

-- the whole pass
pub pass_ends : (p : Parameters) (c s : List FirstCopy) (k : ℕ) (t : Pass) → k ≡ all_copies c s → passes p c s k ≡ Ok t → passes p c s (all_copies c s) ≡ Ok t
pass_ends p c s k t e h = ap (λ (j : ℕ). passes p c s j) (sym e) ∙ h

-- its certificate is the answer
pub pass_answers : (p : Parameters) (c s : List FirstCopy) (t : Pass) (answer : Result Scripts Fault) → passes p c s (all_copies c s) ≡ Ok t → answer ≡ proposed_by (Ok t) → IsAnswer p c s answer
pass_answers p c s t answer h a = inr (a ∙ sym (ap proposed_by h))

-- or the fault of what stops it
pub stop_answers : (p : Parameters) (c s : List FirstCopy) (stop : Stop) → IsStopped p c s stop → IsAnswer p c s (Err (fault_of_stop stop))
stop_answers p c s stop h = grind arith

-- an error that is handed on
pub err_is : {A E : Type 0} (r : Result A E) (y : E) → IsErr r → IsErrAnd r (λ (z : E). z ≡ y) → r ≡ Err y
err_is r y h g = grind arith

-- ---- what an answer says

abbrev Unexplains : List FirstCopy → List FirstCopy → ℕ → Type 0
Unexplains c s place = IsUnexplained c (fault_of_stuck Unexplained place) ⊎ IsUnexplained s (fault_of_stuck Unexplained place)

one_unexplained : (c s : List FirstCopy) (t : Pass) (place : ℕ) (a b : Option FirstCopy) → slice_get c t.made ≡ a → slice_get s t.answered ≡ b → copy_goes c s t (first_of a b) ≡ Err place → Unexplains c s place
one_unexplained c s t place None None x y h = absurd (cc)
one_unexplained c s t place (Some d) None x y h = inl (t.made, d, x, ap (fault_of_stuck Unexplained) (client_place t d.place place _ h))
one_unexplained c s t place None (Some d) x y h = inr (t.answered, d, y, ap (fault_of_stuck Unexplained) (server_place t d.place place _ h))
one_unexplained c s t place (Some d) (Some f) x y h = by (nat_lt d.place f.place) h
  where
    by : (l : Bool) → copy_goes c s t (Some (if l then record { side = Client; copy = d } else record { side = Server; copy = f })) ≡ Err place → Unexplains c s place
    by true h = inl (t.made, d, x, ap (fault_of_stuck Unexplained) (client_place t d.place place _ h))
    by false h = inr (t.answered, f, y, ap (fault_of_stuck Unexplained) (server_place t f.place place _ h))

unexplained : (p : Parameters) (c s : List FirstCopy) (k place : ℕ) → passes p c s k ≡ Err place → Unexplains c s place
unexplained p c s zero place h = absurd (cc)
unexplained p c s (suc k) place h = then_by (passes p c s k) refl h (λ q e. unexplained p c s k q e)
  where
    then_by : (r : Result Pass ℕ) → passes p c s k ≡ r → pass_on r (one_more c s) ≡ Err place → ((q : ℕ) → passes p c s k ≡ Err q → Unexplains c s q) → Unexplains c s place
    then_by (Err q) e h rest = (let z : q ≡ place = cc in subst (λ (n : ℕ). Unexplains c s n) z (rest q e))
    then_by (Ok u) e h rest = one_unexplained c s u place (slice_get c u.made) (slice_get s u.answered) refl refl h

-- a certificate that is answered fits
pub answer_fits : (p : Parameters) (packets : ℕ) (c s : List FirstCopy) (answer : Result Scripts Fault) → AreSentLists p packets c s → IsAnswer p c s answer
    → IfOk answer (λ (scripts : Scripts). IsCertificate scripts × BothFit p packets c s scripts)
answer_fits p packets c s (Err fault) crossing a = tt
answer_fits p packets c s (Ok scripts) crossing (inl e) = absurd (cc)
answer_fits p packets c s (Ok scripts) crossing (inr e) = subst (λ (o : Result Scripts Fault). IsProposal p packets c s o) (sym e) (proposal_fits p packets c s crossing)

many : (t : Pass) (place : ℕ) → proposed_by (Ok t) ≡ Err (fault_at not_found place) → ⊥
many t place h = (let n : too_many_entries ≡ not_found → ⊥ = omega arith in grind arith)

-- what a walk meets that is through, and one that is stopped
pub none_met : (p : Parameters) (c s : List FirstCopy) (t : Pass) → passes p c s (all_copies c s) ≡ Ok t → IsMet p c s None
none_met p c s t h = λ place n. many t place (sym (ap proposed_by h) ∙ n)

pub one_met : (p : Parameters) (c s : List FirstCopy) (met : Obstacle) → IsStopped p c s (Blocked met) → IsMet p c s (Some met)
one_met p c s met h = (ap proposed_by h.0, h.1)

proposal_unexplained : (p : Parameters) (c s : List FirstCopy) (fault : Fault) (place : ℕ) → Err fault ≡ proposal p c s → fault ≡ fault_at not_found place → IsProposalFault c s fault
proposal_unexplained p c s fault place h e = by (passes p c s (all_copies c s)) refl
  where
    by : (r : Result Pass ℕ) → passes p c s (all_copies c s) ≡ r → IsProposalFault c s fault
    by (Err q) g =
        let z : Err fault ≡ Err (fault_of_stuck Unexplained q) = h ∙ ap proposed_by g in
        let y : fault_of_stuck Unexplained q ≡ fault = cc in
        inr (subst (λ (f : Fault). IsUnexplained c f ⊎ IsUnexplained s f) y (unexplained p c s (all_copies c s) q g))
    by (Ok t) g = absurd (many t place (sym (ap proposed_by g) ∙ (sym h ∙ ap (λ (f : Fault). Err f) e)))

-- a fault that is answered is a lack of memory, or of a copy that nothing explains
pub answer_fault : (p : Parameters) (packets : ℕ) (c s : List FirstCopy) (answer : Result Scripts Fault) → AreSentLists p packets c s → IsAnswer p c s answer → IfErr answer (IsProposalFault c s)
answer_fault p packets c s (Ok scripts) crossing a = tt
answer_fault p packets c s (Err fault) crossing (inl e) = inl (let z : fault ≡ no_memory = cc in z)
answer_fault p packets c s (Err fault) crossing (inr e) =
    let x : IsProposal p packets c s (Err fault) = subst (λ (o : Result Scripts Fault). IsProposal p packets c s o) (sym e) (proposal_fits p packets c s crossing) in
    proposal_unexplained p c s fault x.0 e x.1

-- ---- what holds of each pass

-- the ends are of these parameters, and have accepted few PDUs
pub record AreBound (p : Parameters) (t : Pass) : Type 0 where
  pub own_params : t.own.end.params ≡ p
  pub other_params : t.other.end.params ≡ p
  pub own_accepted : t.own.end.state.accepted < 2 ^ 62
  pub other_accepted : t.other.end.state.accepted < 2 ^ 62

pub are_bound : (p : Parameters) (packets : ℕ) (c s : List FirstCopy) (k : ℕ) (t : Pass) → AreSentLists p packets c s → passes p c s k ≡ Ok t → AreBound p t
are_bound p packets c s k t crossing h =
    let x = crossing.2.sent in
    let valid = crossing.2.valid.valid in
    let most = x.few_packets in
    let hc = to_record p crossing.0 Client c valid x.client_sent in
    let hs = to_record p crossing.0 Server s valid x.server_sent in
    let r = passes_read p (length crossing.0) c s x.few_client x.few_server (sent_rises p crossing.0 Client c hc) (sent_rises p crossing.0 Server s hs) hc.rising hs.rising (sent_within p crossing.0 Client c hc) (sent_within p crossing.0 Server s hs)
    (omega (arith, most)) (sent_numbers p crossing.0 Client c hc) (sent_numbers p crossing.0 Server s hs) k t h in
    let rc = r.client in
    let rs = r.server in
    let tc = taken_within p (length crossing.0) c s _ rc.at t.own.script rc.leads (omega arith) in
    let ts = taken_within p (length crossing.0) s c _ rs.at t.other.script rs.leads (omega arith) in
    let bs = base_small p.quiet in
    let lc = x.few_client in
    let ls = x.few_server in
    let ac = rc.accepted in
    let nc = rc.taken in
    let as_ = rs.accepted in
    let ns = rs.taken in
    record {
      own_params = rc.params;
      other_params = rs.params;
      own_accepted = omega (arith, tc, bs, ls, ac, nc);
      other_accepted = omega (arith, ts, bs, lc, as_, ns);
    }
