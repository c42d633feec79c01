-- The take rule: what an end does with a PDU that it takes. The retransmission burst and the deadline.
use Rattle.std.specs.Prelude.{◌≡◌, ◌⊎◌, ℕ, zero, suc, ◌+◌, ◌-◌, ◌*◌, ◌^◌, Bool, true, false, ◌&&◌, not, if◌then◌else◌}
use Rattle.std.specs.Prelude.{nat_lt, nat_le, ◌==◌, List, [], ◌∷◌, ◌++◌, length, Option, Some, None}
use Rattle.rasta_pcap.specs.Fault.{fault_of_end, no_memory, reply_owed, past_deadline}
use Rattle.rasta_pcap.specs.declared.fault.Fault.{Fault}
use Rattle.rasta_pcap.specs.declared.fault.Side.{Side}
use Rattle.rasta_pdu.specs.declared.kind.Kind.{Kind}
use Rattle.rasta_pdu.specs.declared.kind.Kind.TheVariants.{ConnectionResponse, RetransmissionRequest}
use Rattle.rasta_pdu.specs.declared.kind.Kind.TheVariants.{RetransmissionResponse, Heartbeat, Data, RetransmittedData}
use Rattle.rasta_pdu.specs.declared.kind.Kind.TheVariants.{ConnectionRequest, DisconnectionRequest}
use Rattle.rasta_pdu.specs.Params.{Parameters}
use Rattle.rasta_pdu.specs.Pdu.{SafetyPdu, is_kind, is_heartbeat_or_data, is_timed, carries_unit}
use Rattle.rasta_end.specs.declared.phase.Phase.{Phase}
use Rattle.rasta_end.specs.declared.phase.Phase.TheVariants.{Closed, Start, Up, RetrReq, RetrRun}
use Rattle.rasta_end.specs.declared.take_row.TakeRow.{TakeRow}
use Rattle.rasta_end.specs.declared.take_row.TakeRow.TheVariants.{Opened, Answered, FirstHeartbeat, InSequence}
use Rattle.rasta_end.specs.declared.take_row.TakeRow.TheVariants.{ResentInSequence, Gap, GapInRetransmission, Resumed}
use Rattle.rasta_end.specs.declared.take_row.TakeRow.TheVariants.{Requested, RequestedAhead, RequestedWhileAsking}
use Rattle.rasta_end.specs.declared.take_row.TakeRow.TheVariants.{Disconnected}
use Rattle.rasta_end.specs.declared.owed.Owed.{Owed}
use Rattle.rasta_end.specs.declared.owed.Owed.TheVariants.{ConnectionResponse as OweConnectionResponse}
use Rattle.rasta_end.specs.declared.owed.Owed.TheVariants.{FirstHeartbeat as OweFirstHeartbeat}
use Rattle.rasta_end.specs.declared.owed.Owed.TheVariants.{RetransmissionResponse as OweRetransmissionResponse}
use Rattle.rasta_end.specs.declared.owed.Owed.TheVariants.{Resend as OweResend}
use Rattle.rasta_end.specs.declared.owed.Owed.TheVariants.{RetransmissionRequest as OweRetransmissionRequest}
use Rattle.rasta_end.specs.Units.{units_conveyed}
use Rattle.rasta_end.specs.State.{EndState, raised, ahead_by, sn_at, kinds, is_owing, is_client, is_closed, is_down}
use Rattle.rasta_end.specs.State.{is_start, is_up, is_retr_req, is_retr_run, is_flowing, is_active}
use Rattle.rasta_end.specs.MakeRule.{first_that_holds, is_past}

-- how many steps after the next position of the peer the PDU stands, modulo 2^32
abbrev pub steps_past_next : EndState → SafetyPdu → ℕ
steps_past_next e x = ahead_by x.sn (e.last_sn + 1)

abbrev pub is_in : EndState → SafetyPdu → Bool
is_in e x = steps_past_next e x == 0

abbrev pub is_ahead : Parameters → EndState → SafetyPdu → Bool
is_ahead p e x = nat_lt 0 (steps_past_next e x) && nat_le (steps_past_next e x) (10 * p.n_sendmax)

-- how many steps after the confirmed position the PDU confirms, modulo 2^32
abbrev pub steps_past_confirmed : EndState → SafetyPdu → ℕ
steps_past_confirmed e x = ahead_by x.cs (sn_at e.made e.confirmed)

-- CS is valid: it lies from the SN of the confirmed position on and before the next SN
abbrev pub is_valid : EndState → SafetyPdu → Bool
is_valid e x = nat_lt (steps_past_confirmed e x) (ahead_by (sn_at e.made (length e.made)) (sn_at e.made e.confirmed))

-- the take table: phase and PDU of each row; next: the PDU is in sequence, ahead: it stands ahead, valid: its CS is
-- valid
abbrev pub take_rows : Side → Phase → Kind → Bool → Bool → Bool → List (Bool × TakeRow)
take_rows side phase kind next ahead valid =
    (is_down phase && is_kind ConnectionRequest kind, Opened)
    ∷ (is_start phase && (is_client side && (is_kind ConnectionResponse kind && valid)), Answered)
    ∷ (is_start phase && (not (is_client side) && (is_kind Heartbeat kind && (next && valid))), FirstHeartbeat)
    ∷ (is_flowing phase && (is_heartbeat_or_data kind && (next && valid)), InSequence)
    ∷ (is_retr_run phase && (is_kind RetransmittedData kind && (next && valid)), ResentInSequence)
    ∷ (is_up phase && (is_heartbeat_or_data kind && (ahead && valid)), Gap)
    ∷ (is_retr_run phase && (is_timed kind && (ahead && valid)), GapInRetransmission)
    ∷ (is_retr_req phase && (is_kind RetransmissionResponse kind && valid), Resumed)
    ∷ (is_flowing phase && (is_kind RetransmissionRequest kind && (next && valid)), Requested)
    ∷ (is_flowing phase && (is_kind RetransmissionRequest kind && (ahead && valid)), RequestedAhead)
    ∷ (is_retr_req phase && (is_kind RetransmissionRequest kind && (ahead && valid)), RequestedWhileAsking)
    ∷ (is_active phase && is_kind DisconnectionRequest kind, Disconnected)
    ∷ []

-- the deadline that a confirmed time sets: T_max after the greatest number that is not above the clock and congruent
-- to it modulo 2^32; raised
abbrev pub deadline_from : Parameters → ℕ → ℕ → ℕ
deadline_from p clock cts = raised clock - ahead_by clock cts + p.t_max

-- the PDU is now the last accepted one, at this position
abbrev pub note_accepted : ℕ → EndState → SafetyPdu → EndState
note_accepted position e x = record e { accepted = suc position; last_sn = x.sn; last_ts = x.ts }

abbrev pub note_time : Parameters → EndState → SafetyPdu → EndState
note_time p e x = record e {
  timed_ts = if is_timed x.kind then Some x.ts else e.timed_ts;
  deadline = if is_timed x.kind then Some (deadline_from p e.clock x.cts) else e.deadline;
}

abbrev pub position_confirmed : EndState → SafetyPdu → ℕ
position_confirmed e x = e.confirmed + steps_past_confirmed e x

abbrev pub confirm : ℕ → EndState → EndState
confirm position e = record e { confirmed = position }

abbrev pub enter : Phase → EndState → EndState
enter phase e = record e { phase = phase }

abbrev pub owe : List Owed → EndState → EndState
owe owed e = record e { owed = owed }

abbrev pub hand_up : ℕ → EndState → SafetyPdu → EndState
hand_up position e x =
    record e { handed = e.handed ++ position ∷ []; handed_pdus = e.handed_pdus ++ x ∷ []; handed_ts = Some x.ts }

-- accepts the PDU at the position of its SN, from the next one on
abbrev pub accept : Parameters → EndState → SafetyPdu → EndState
accept p e x = note_time p (confirm (position_confirmed e x) (note_accepted (e.accepted + steps_past_next e x) e x)) x

-- the units numbered from one on
abbrev pub resends : ℕ → ℕ → List Owed
resends unit zero = []
resends unit (suc count) = OweResend unit ∷ resends (suc unit) count

-- the retransmission burst that a request owes which confirms this own position
abbrev pub burst : EndState → ℕ → List Owed
burst e position =
    OweRetransmissionResponse ∷ resends (units_conveyed e.asks (kinds e.made) position)
    (e.offered - units_conveyed e.asks (kinds e.made) position)

-- answers a request that confirms this own position
abbrev pub answer_ask : ℕ → EndState → EndState
answer_ask position e = owe (burst e position) (record e { asks = e.asks ++ position ∷ [] })

abbrev pub owe_too : Owed → EndState → EndState
owe_too o e = owe (e.owed ++ o ∷ []) e

abbrev pub hand_up_unit : Kind → EndState → ℕ → SafetyPdu → EndState
hand_up_unit kind e position x = if carries_unit kind then hand_up position e x else e

-- the take table: effect of each row. A unit is handed up of a PDU in sequence alone, which has the next position
abbrev pub effect : Parameters → TakeRow → EndState → SafetyPdu → EndState
effect p Opened e x = owe (OweConnectionResponse ∷ []) (enter Start (note_accepted 0 e x))
effect p Answered e x = owe (OweFirstHeartbeat ∷ []) (enter Up (confirm (position_confirmed e x) (note_accepted 0 e x)))
effect p FirstHeartbeat e x = enter Up (accept p e x)
effect p InSequence e x = hand_up_unit x.kind (enter Up (accept p e x)) e.accepted x
effect p ResentInSequence e x = hand_up_unit x.kind (accept p e x) e.accepted x
effect p Gap e x = owe (OweRetransmissionRequest ∷ []) (enter RetrReq e)
effect p GapInRetransmission e x = owe (OweRetransmissionRequest ∷ []) (enter RetrReq e)
effect p Resumed e x = enter RetrRun (accept p e x)
effect p Requested e x = answer_ask (position_confirmed e x) (accept p e x)
effect p RequestedAhead e x = owe_too OweRetransmissionRequest
    (enter RetrReq (answer_ask (position_confirmed e x) (confirm (position_confirmed e x) e)))
effect p RequestedWhileAsking e x = answer_ask (position_confirmed e x) (confirm (position_confirmed e x) e)
effect p Disconnected e x = enter Closed e

abbrev pub take_row : Parameters → EndState → SafetyPdu → Option TakeRow
take_row p e x = first_that_holds (take_rows e.side e.phase x.kind (is_in e x) (is_ahead p e x) (is_valid e x))

abbrev pub effect_by : Parameters → Option TakeRow → EndState → SafetyPdu → EndState
effect_by p None e x = e
effect_by p (Some row) e x = effect p row e x

abbrev pub after_take : Parameters → EndState → SafetyPdu → EndState
after_take p e x = effect_by p (take_row p e x) e x

-- why an end may not take anything at this moment, in the order in which it is judged
abbrev pub take_fault : Parameters → EndState → ℕ → Option ℕ
take_fault p e moment =
    if is_closed e.phase then None
    else first_that_holds ((is_owing e.owed, reply_owed) ∷ (is_past p e.deadline moment, past_deadline) ∷ [])

-- the take rule: this end takes this PDU at this moment, and is that end afterwards
abbrev pub Takes : Parameters → EndState → SafetyPdu → ℕ → EndState → Type 0
Takes p e x moment e' = (take_fault p e moment ≡ None) × (e' ≡ after_take p e x)

-- rows that want a valid CS
abbrev pub wants_valid : TakeRow → Bool
wants_valid Opened = false
wants_valid Disconnected = false
wants_valid _ = true

-- taking the PDU adds to a list
abbrev pub adds_to_a_list : Option TakeRow → Kind → Bool
adds_to_a_list (Some InSequence) kind = carries_unit kind
adds_to_a_list (Some ResentInSequence) kind = carries_unit kind
adds_to_a_list (Some Requested) kind = true
adds_to_a_list (Some RequestedAhead) kind = true
adds_to_a_list (Some RequestedWhileAsking) kind = true
adds_to_a_list _ kind = false

-- what a refused take answers: the first fault, else out of memory, which only a PDU that adds to a list can meet
abbrev pub IsTakeRefusal : Parameters → EndState → SafetyPdu → Fault → Type 0
IsTakeRefusal p e x fault =
    ((number : ℕ) × (take_fault p e e.clock ≡ Some number) × (fault ≡ fault_of_end number 0 e.side))
    ⊎ ((take_fault p e e.clock ≡ None) × (adds_to_a_list (take_row p e x) x.kind ≡ true) × (fault ≡ no_memory))
