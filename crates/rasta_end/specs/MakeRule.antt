-- The make rule: which PDU an end may make, why, and what it is afterwards.
use Rattle.std.specs.Prelude.{◌≡◌, ◌⊎◌, ℕ, suc, ◌+◌, ◌^◌, Bool, true, false, ◌&&◌, ◌||◌, not, if◌then◌else◌, nat_lt}
use Rattle.std.specs.Prelude.{◌==◌, List, [], ◌∷◌, ◌++◌, length, Option, Some, None, slice_get, map, filter, drop}
use Rattle.std.specs.Prelude.{is_some, All, IsFalse, zip}
use Rattle.std.specs.Bool.{then_some}
use Rattle.std.specs.Option.{option_map_or}
use Rattle.std.specs.Str.{bytes_eq}
use Rattle.rasta_pcap.specs.declared.fault.Fault.{Fault}
use Rattle.rasta_pcap.specs.Fault.{fault_of_end, no_memory, closed, not_allowed, reply_owed, sequence_number}
use Rattle.rasta_pcap.specs.Fault.{clock_differs, clock_falls, past_deadline, too_early_timeout, confirmed_number}
use Rattle.rasta_pcap.specs.Fault.{confirmed_time, resend_differs}
use Rattle.rasta_pcap.specs.declared.fault.Side.{Side}
use Rattle.rasta_pdu.specs.declared.kind.Kind.{Kind}
use Rattle.rasta_pdu.specs.declared.kind.Kind.TheVariants.{ConnectionRequest, ConnectionResponse, RetransmissionRequest}
use Rattle.rasta_pdu.specs.declared.kind.Kind.TheVariants.{RetransmissionResponse, DisconnectionRequest, Heartbeat}
use Rattle.rasta_pdu.specs.declared.kind.Kind.TheVariants.{Data, RetransmittedData}
use Rattle.rasta_pdu.specs.Params.{Parameters}
use Rattle.rasta_pdu.specs.Pdu.{SafetyPdu, is_kind}
use Rattle.rasta_end.specs.declared.phase.Phase.{Phase}
use Rattle.rasta_end.specs.declared.phase.Phase.TheVariants.{Closed, Start}
use Rattle.rasta_end.specs.declared.why.Why.{Why}
use Rattle.rasta_end.specs.declared.why.Why.TheVariants.{Open, Reply, Beat, Fresh, Again, Ask, Bye, Expired}
use Rattle.rasta_end.specs.declared.make_row.MakeRow.{MakeRow}
use Rattle.rasta_end.specs.declared.make_row.MakeRow.TheVariants.{Opens, Answers, StartsBeating, Resumes, Resends}
use Rattle.rasta_end.specs.declared.make_row.MakeRow.TheVariants.{Requests, Beats, Offers, Leaves, TimesOut}
use Rattle.rasta_end.specs.declared.owed.Owed.{Owed}
use Rattle.rasta_end.specs.declared.owed.Owed.TheVariants.{ConnectionResponse as OweConnectionResponse}
use Rattle.rasta_end.specs.declared.owed.Owed.TheVariants.{FirstHeartbeat as OweFirstHeartbeat}
use Rattle.rasta_end.specs.declared.owed.Owed.TheVariants.{RetransmissionResponse as OweRetransmissionResponse}
use Rattle.rasta_end.specs.declared.owed.Owed.TheVariants.{Resend as OweResend}
use Rattle.rasta_end.specs.declared.owed.Owed.TheVariants.{RetransmissionRequest as OweRetransmissionRequest}
use Rattle.rasta_end.specs.declared.owed.Demand.{Demand}
use Rattle.rasta_end.specs.declared.owed.Demand.TheVariants.{First, Nothing, Anything}
use Rattle.rasta_end.specs.State.{Made, EndState, raised, wrapped, sn_at, is_client, is_closed, is_start, is_up}
use Rattle.rasta_end.specs.State.{is_connected, is_active, reason_of, content_of}

-- the make table: why, type, and who may follow the row in which phase
abbrev pub make_row : Side → Phase → ℕ → Why → Kind → Option MakeRow
make_row side phase reason Open ConnectionRequest = then_some (is_client side && is_closed phase) Opens
make_row side phase reason Reply ConnectionResponse = then_some (not (is_client side) && is_start phase) Answers
make_row side phase reason Reply Heartbeat = then_some (is_client side && is_up phase) StartsBeating
make_row side phase reason Reply RetransmissionResponse = then_some (is_connected phase) Resumes
make_row side phase reason (Again unit) RetransmittedData = then_some (is_connected phase) (Resends unit)
make_row side phase reason Ask RetransmissionRequest = then_some (is_connected phase) Requests
make_row side phase reason Beat Heartbeat = then_some (is_connected phase) Beats
make_row side phase reason Fresh Data = then_some (is_connected phase) Offers
make_row side phase reason Bye DisconnectionRequest = then_some (is_active phase && not (reason == 4)) Leaves
make_row side phase reason Expired DisconnectionRequest = then_some (is_active phase && reason == 4) TimesOut
make_row side phase reason _ _ = None

-- the make table: what a row wants of the owed list
abbrev pub demand_of : MakeRow → Demand
demand_of Opens = Anything
demand_of Answers = First OweConnectionResponse
demand_of StartsBeating = First OweFirstHeartbeat
demand_of Resumes = First OweRetransmissionResponse
demand_of (Resends unit) = First (OweResend unit)
demand_of Requests = First OweRetransmissionRequest
demand_of Beats = Nothing
demand_of Offers = Nothing
demand_of Leaves = Anything
demand_of TimesOut = Anything

abbrev pub same_owed : Owed → Owed → Bool
same_owed OweConnectionResponse OweConnectionResponse = true
same_owed OweFirstHeartbeat OweFirstHeartbeat = true
same_owed OweRetransmissionResponse OweRetransmissionResponse = true
same_owed (OweResend j) (OweResend k) = j == k
same_owed OweRetransmissionRequest OweRetransmissionRequest = true
same_owed _ _ = false

-- the row wants something owed, and nothing is
abbrev pub lacks : Demand → List Owed → Bool
lacks (First owed) [] = true
lacks _ _ = false

-- the row wants something else owed, or nothing
abbrev pub owes_else : Demand → List Owed → Bool
owes_else (First wanted) (o ∷ os) = not (same_owed o wanted)
owes_else Nothing (o ∷ os) = true
owes_else _ _ = false

abbrev pub is_refused_row : Option MakeRow → List Owed → Bool
is_refused_row None owed = true
is_refused_row (Some row) owed = lacks (demand_of row) owed

abbrev pub is_owing_else : Option MakeRow → List Owed → Bool
is_owing_else None owed = false
is_owing_else (Some row) owed = owes_else (demand_of row) owed

-- the connection of this end is over
abbrev pub has_ended : EndState → Bool
has_ended e = is_closed e.phase && (not (is_client e.side) || is_some (slice_get e.made 0))

-- the next SN; the first is free
abbrev pub is_next_sn : List Made → ℕ → Bool
is_next_sn [] sn = true
is_next_sn (m ∷ ms) sn = sn == sn_at (m ∷ ms) (length (m ∷ ms))

-- the moment lies more than the slack after the deadline
abbrev pub is_past : Parameters → Option ℕ → ℕ → Bool
is_past p None moment = false
is_past p (Some deadline) moment = nat_lt (deadline + p.slack) (raised moment)

-- the moment lies more than the slack before the deadline
abbrev pub is_early : Parameters → Option ℕ → ℕ → Bool
is_early p None moment = false
is_early p (Some deadline) moment = nat_lt (raised moment + p.slack) deadline

abbrev pub is_expired : Why → Bool
is_expired Expired = true
is_expired _ = false

-- CS and CTS are judged: of all but a connection request and the disconnection request of a client that gives up, since
-- it was never answered
abbrev pub is_judged : EndState → Kind → Bool
is_judged e kind = not (is_kind ConnectionRequest kind)
    && not (is_kind DisconnectionRequest kind && (e.accepted == 0 && (is_client e.side && is_start e.phase)))

-- CS is the SN of the last accepted PDU
abbrev pub confirms_last : EndState → ℕ → Bool
confirms_last e cs = not (e.accepted == 0) && cs == e.last_sn

abbrev pub is_there : Option ℕ → ℕ → Bool
is_there None n = false
is_there (Some m) n = m == n

-- CTS is the TS of the last accepted PDU, of the last accepted time-relevant one, or of the last handed up
abbrev pub confirms_a_time : EndState → ℕ → Bool
confirms_a_time e cts =
    (not (e.accepted == 0) && cts == e.last_ts) || (is_there e.timed_ts cts || is_there e.handed_ts cts)

-- the contents of the units offered, in order
abbrev pub contents : List Made → List (List ℕ)
contents ms = map (λ (m : Made). content_of m.pdu.body) (filter (λ (m : Made). is_kind Data m.pdu.kind) ms)

-- retransmitted data with other messages than those of its unit
abbrev pub differs : List Made → Option MakeRow → List ℕ → Bool
differs made (Some (Resends unit)) content =
    not (option_map_or (λ (own : List ℕ). bytes_eq own content) (slice_get (contents made) unit) false)
differs made _ content = false

abbrev pub row_of : EndState → SafetyPdu → Why → Option MakeRow
row_of e x why = make_row e.side e.phase (reason_of x.body) why x.kind

-- what keeps an end from making this PDU, in the order in which it is judged
abbrev pub make_tests : Parameters → EndState → SafetyPdu → ℕ → Why → List Bool
make_tests p e x clock why =
    has_ended e
    ∷ is_refused_row (row_of e x why) e.owed
    ∷ is_owing_else (row_of e x why) e.owed
    ∷ not (is_next_sn e.made x.sn)
    ∷ not (x.ts == wrapped clock)
    ∷ nat_lt clock e.clock
    ∷ (not (is_expired why) && is_past p e.deadline clock)
    ∷ (is_expired why && is_early p e.deadline clock)
    ∷ (is_judged e x.kind && not (confirms_last e x.cs))
    ∷ (is_judged e x.kind && not (confirms_a_time e x.cts))
    ∷ differs e.made (row_of e x why) (content_of x.body)
    ∷ []

-- what stands beside the first test that holds
abbrev pub first_that_holds : {A : Type 0} → List (Bool × A) → Option A
first_that_holds [] = None
first_that_holds (t ∷ ts) = if t.0 then Some t.1 else first_that_holds ts

-- the make table: phase afterwards
abbrev pub phase_after : MakeRow → Phase → Phase
phase_after Opens phase = Start
phase_after Leaves phase = Closed
phase_after TimesOut phase = Closed
phase_after _ phase = phase

-- the make table: what is owed afterwards; what was made is taken off
abbrev pub owed_after : MakeRow → List Owed → List Owed
owed_after Answers owed = drop 1 owed
owed_after StartsBeating owed = drop 1 owed
owed_after Resumes owed = drop 1 owed
owed_after (Resends unit) owed = drop 1 owed
owed_after Requests owed = drop 1 owed
owed_after Leaves owed = []
owed_after TimesOut owed = []
owed_after _ owed = owed

-- the make table: units offered afterwards
abbrev pub offered_after : MakeRow → ℕ → ℕ
offered_after Offers offered = suc offered
offered_after _ offered = offered

-- the number of the unit that the PDU carries
abbrev pub unit_of : MakeRow → ℕ → Option ℕ
unit_of (Resends unit) offered = Some unit
unit_of Offers offered = Some offered
unit_of _ offered = None

abbrev pub after_make_by : Option MakeRow → EndState → SafetyPdu → ℕ → EndState
after_make_by None e x clock = e
after_make_by (Some row) e x clock = record e {
  phase = phase_after row e.phase;
  made = e.made ++ record { pdu = x; unit = unit_of row e.offered } ∷ [];
  offered = offered_after row e.offered;
  owed = owed_after row e.owed;
  clock = clock;
}

abbrev pub after_make : EndState → SafetyPdu → ℕ → Why → EndState
after_make e x clock why = after_make_by (row_of e x why) e x clock

-- the make rule: this end makes this PDU at this clock for this reason, and is that end afterwards
abbrev pub Makes : Parameters → EndState → SafetyPdu → ℕ → Why → EndState → Type 0
Makes p e x clock why e' = All IsFalse (make_tests p e x clock why) × (e' ≡ after_make e x clock why)

-- the number of each of these tests
abbrev pub make_numbers : List ℕ
make_numbers =
    closed ∷ not_allowed ∷ reply_owed ∷ sequence_number ∷ clock_differs ∷ clock_falls ∷ past_deadline
    ∷ too_early_timeout ∷ confirmed_number ∷ confirmed_time ∷ resend_differs ∷ []

-- the first fault of a make
abbrev pub make_fault : Parameters → EndState → SafetyPdu → ℕ → Why → Option ℕ
make_fault p e x clock why = first_that_holds (zip (make_tests p e x clock why) make_numbers)

-- what a refused make answers: the first fault, else out of memory
abbrev pub IsMakeRefusal : Parameters → EndState → SafetyPdu → ℕ → Why → Fault → Type 0
IsMakeRefusal p e x clock why fault =
    ((number : ℕ) × (make_fault p e x clock why ≡ Some number) × (fault ≡ fault_of_end number 0 e.side))
    ⊎ ((make_fault p e x clock why ≡ None) × (fault ≡ no_memory))
