-- The rows of the take table: what each of them knows, and what a take leaves alone.
use Rattle.std.proofs.Common.{◌≡◌, ◌+◌, ◌≤◌, ◌^◌, ℕ, Bool, true, false, Option, Some, None, refl, arith}
use Rattle.rasta_check.proofs.Prelude.{if◌then◌else◌, Side, Client, Server, Kind, ConnectionRequest, ConnectionResponse, RetransmissionRequest, RetransmissionResponse}
use Rattle.rasta_check.proofs.Prelude.{DisconnectionRequest, RetransmittedData, SafetyPdu, Parameters, Phase, Start, Up, RetrReq, RetrRun, TakeRow, Opened, Answered, FirstHeartbeat}
use Rattle.rasta_check.proofs.Prelude.{InSequence, ResentInSequence, Gap, GapInRetransmission, Resumed, Requested, RequestedAhead, RequestedWhileAsking, Disconnected, EndState, is_closed}
use Rattle.rasta_check.proofs.Prelude.{is_flowing, carries_unit, first_that_holds, is_valid, effect, after_take}
use Rattle.rasta_pdu.specs.declared.kind.Kind.TheVariants.{Heartbeat}
use Rattle.rasta_end.specs.declared.phase.Phase.TheVariants.{Down}
use Rattle.rasta_end.specs.State.{is_active}
use Rattle.rasta_pdu.specs.Pdu.{is_timed, is_heartbeat_or_data}
use Rattle.rasta_end.specs.TakeRule.{take_rows, is_in, is_ahead, take_row, effect_by, accept, enter, hand_up}

-- what a row knows of side, phase and type, and of the tests: next in sequence, ahead, a valid CS
abbrev pub Premise : TakeRow → Side → Phase → Kind → Bool → Bool → Bool → Type 0
Premise Opened s ph k n a v = (ph ≡ Down) × (k ≡ ConnectionRequest)
Premise Answered s ph k n a v = (s ≡ Client) × (ph ≡ Start) × (k ≡ ConnectionResponse) × (v ≡ true)
Premise FirstHeartbeat s ph k n a v = (s ≡ Server) × (ph ≡ Start) × (k ≡ Heartbeat) × (v ≡ true) × (n ≡ true)
Premise InSequence s ph k n a v = (is_flowing ph ≡ true) × (is_heartbeat_or_data k ≡ true) × (v ≡ true) × (n ≡ true)
Premise ResentInSequence s ph k n a v = (ph ≡ RetrRun) × (k ≡ RetransmittedData) × (v ≡ true) × (n ≡ true)
Premise Gap s ph k n a v = (ph ≡ Up) × (is_heartbeat_or_data k ≡ true) × (v ≡ true) × (a ≡ true)
Premise GapInRetransmission s ph k n a v = (ph ≡ RetrRun) × (is_timed k ≡ true) × (v ≡ true) × (a ≡ true)
Premise Resumed s ph k n a v = (ph ≡ RetrReq) × (k ≡ RetransmissionResponse) × (v ≡ true)
Premise Requested s ph k n a v = (is_flowing ph ≡ true) × (k ≡ RetransmissionRequest) × (v ≡ true) × (n ≡ true)
Premise RequestedAhead s ph k n a v = (is_flowing ph ≡ true) × (k ≡ RetransmissionRequest) × (v ≡ true) × (a ≡ true)
Premise RequestedWhileAsking s ph k n a v = (ph ≡ RetrReq) × (k ≡ RetransmissionRequest) × (v ≡ true) × (a ≡ true)
Premise Disconnected s ph k n a v = (is_active ph ≡ true) × (k ≡ DisconnectionRequest)

-- the first row whose test holds has its premise
first_premise : (s : Side) (ph : Phase) (k : Kind) (n a v : Bool) (row : TakeRow) → first_that_holds (take_rows s ph k n a v) ≡ Some row → Premise row s ph k n a v
first_premise s ph k n a v Opened e = grind arith
first_premise s ph k n a v _ e = grind arith

-- what an end knows of a PDU that it takes by a row
abbrev pub Knows : Parameters → TakeRow → EndState → SafetyPdu → Type 0
Knows p row e x = Premise row e.side e.phase x.kind (is_in e x) (is_ahead p e x) (is_valid e x)

pub row_known : (p : Parameters) (e : EndState) (x : SafetyPdu) (row : TakeRow) → take_row p e x ≡ Some row → Knows p row e x
row_known p e x row h = first_premise e.side e.phase x.kind (is_in e x) (is_ahead p e x) (is_valid e x) row h

-- a closed end takes by no row
pub closed_row : (s : Side) (ph : Phase) (k : Kind) (n a v : Bool) → is_closed ph ≡ true → first_that_holds (take_rows s ph k n a v) ≡ None
closed_row s ph k n a v h = grind arith

-- an end that takes by a row isn't closed
pub not_closed : (p : Parameters) (e : EndState) (x : SafetyPdu) (row : TakeRow) → take_row p e x ≡ Some row → is_closed e.phase ≡ false
not_closed p e x row h = grind (arith, closed_row e.side e.phase x.kind (is_in e x) (is_ahead p e x) (is_valid e x))

-- what a take leaves as it was
pub record LeftAlone (e e' : EndState) : Type 0 where
  pub side : e'.side ≡ e.side
  pub base : e'.base ≡ e.base
  pub made : e'.made ≡ e.made
  pub offered : e'.offered ≡ e.offered
  pub clock : e'.clock ≡ e.clock

-- a unit is handed up, another PDU isn't
pub by_unit : (P : EndState → Type 0) (b : Bool) (i : ℕ) (e : EndState) (x : SafetyPdu) → (b ≡ true → P (hand_up i e x)) → (b ≡ false → P e) → P (if b then hand_up i e x else e)
by_unit P b i e x h l = grind arith

pub effect_leaves : (p : Parameters) (row : Option TakeRow) (e : EndState) (x : SafetyPdu) → LeftAlone e (effect_by p row e x)
effect_leaves p row e x = grind arith

pub take_leaves : (p : Parameters) (e : EndState) (x : SafetyPdu) → LeftAlone e (after_take p e x)
take_leaves p e x = effect_leaves p (take_row p e x) e x

-- what holds where the end takes by no row, and by each row that it may take by, holds after a take
pub take_by : (p : Parameters) (e : EndState) (x : SafetyPdu) (P : EndState → Type 0) → P e → ((row : TakeRow) → is_closed e.phase ≡ false → Knows p row e x → P (effect p row e x)) → P (after_take p e x)
take_by p e x P none each = by (take_row p e x) refl
  where
    by : (o : Option TakeRow) → take_row p e x ≡ o → P (effect_by p o e x)
    by None h = none
    by (Some row) h = each row (not_closed p e x row h) (row_known p e x row h)

-- what a row does but for what it hands up
abbrev pub bare_effect : Parameters → TakeRow → EndState → SafetyPdu → EndState
bare_effect p InSequence e x = enter Up (accept p e x)
bare_effect p ResentInSequence e x = accept p e x
bare_effect p row e x = effect p row e x

-- what handing up keeps holds after a take where it holds but for what is handed up
pub take_bare : (p : Parameters) (e : EndState) (x : SafetyPdu) (P : EndState → Type 0) → ((i : ℕ) (g : EndState) → P g → P (hand_up i g x)) → P e
    → ((row : TakeRow) → is_closed e.phase ≡ false → Knows p row e x → P (bare_effect p row e x)) → P (after_take p e x)
take_bare p e x P more none each = take_by p e x P none (λ row away w. by row (each row away w))
  where
    by : (row : TakeRow) → P (bare_effect p row e x) → P (effect p row e x)
    by InSequence h = by_unit P (carries_unit x.kind) e.accepted _ x (λ _. more e.accepted _ h) (λ _. h)
    by ResentInSequence h = by_unit P (carries_unit x.kind) e.accepted _ x (λ _. more e.accepted _ h) (λ _. h)
    by _ h = h

pub take_made : (p : Parameters) (e : EndState) (x : SafetyPdu) → (after_take p e x).made ≡ e.made
take_made p e x = (let h = take_leaves p e x in h.made)

-- a take raises the last accepted position by less than 2^32
pub accepted_after : (p : Parameters) (e : EndState) (x : SafetyPdu) → (after_take p e x).accepted ≤ e.accepted + 2 ^ 32
accepted_after p e x = grind arith
