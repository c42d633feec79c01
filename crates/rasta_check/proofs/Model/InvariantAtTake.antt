-- A take keeps what holds of the taker.
use Rattle.std.proofs.Common.{◌≡◌, ℕ, zero, suc, ◌+◌, ◌<◌, ◌≤◌, Bool, true, false, List, [], ◌∷◌, ◌++◌, length, Some, slice_get, take, refl, ap, sym, arith, ⊎_elim}
use Rattle.rasta_check.proofs.Prelude.{length_push, slice_get_within, Side, RetransmissionRequest, RetransmissionResponse, SafetyPdu, is_kind, Parameters, Phase, Closed, Start, Up}
use Rattle.rasta_check.proofs.Prelude.{RetrReq, RetrRun, TakeRow, Opened, Answered, FirstHeartbeat, InSequence, ResentInSequence, Gap, GapInRetransmission, Resumed, Requested}
use Rattle.rasta_check.proofs.Prelude.{RequestedAhead, RequestedWhileAsking, Disconnected, Owed, OweRetransmissionRequest, OweResend, Made, EndState, is_closed, is_flowing, is_connected}
use Rattle.rasta_check.proofs.Prelude.{is_valid, position_confirmed, resends, after_take, get_push_cases}
use Rattle.rasta_end.specs.TakeRule.{steps_past_next, accept, burst}
use Rattle.rasta_check.proofs.Model.TakeRows.{Knows, bare_effect, take_bare}
use Rattle.rasta_check.proofs.Model.Counts.{owes, number_take_all, number_take_more, number_take_at, is_answer_owed, is_request_owed, owes-append, requests_in, answers_in, IsRequest}
use Rattle.rasta_check.proofs.Model.NamedPositions.{SnIs, position_is}
use Rattle.rasta_check.proofs.Model.Invariant.{ended, Held, Holds, Opening, Asking, Accepting, is_response_owed, is_opener, has_peer, is_named, open_bit, bit_most}

-- ---- rows between the opening and the end

abbrev pub is_inner : TakeRow → Bool
is_inner Opened = false
is_inner Answered = false
is_inner Disconnected = false
is_inner _ = true

-- the end has accepted something, and the CS of the PDU is judged and valid
pub inner : (q : Parameters) (row : TakeRow) (e : EndState) (x : SafetyPdu) → is_inner row ≡ true → Knows q row e x → (has_peer e.side e.phase ≡ true) × (is_named x.kind ≡ true) × (is_valid e x ≡ true)
inner q row e x i w = grind arith

pub flowing_peer : (s : Side) (ph : Phase) → is_flowing ph ≡ true → has_peer s ph ≡ true
flowing_peer s ph h = grind arith

-- ---- bursts

-- resends are neither requests nor responses
owes-resends : (f : Owed → Bool) → ((k : ℕ) → f (OweResend k) ≡ false) → (k n : ℕ) → owes f (resends k n) ≡ 0
owes-resends f none k zero = refl
owes-resends f none k (suc n) = grind (arith, none k, owes-resends f none (suc k) n)

-- a burst owes one retransmission response and nothing else that is counted; with a request after it, that request
record Burdens (os : List Owed) (requests : ℕ) : Type 0 where
  response : owes is_response_owed os ≡ 0
  answers : owes is_answer_owed os ≡ 1
  asks : owes is_request_owed os ≡ requests

burst_burdens : (e : EndState) (c : ℕ) → Burdens (burst e c) 0
burst_burdens e c = grind (arith, owes-resends is_response_owed (λ j. refl), owes-resends is_answer_owed (λ j. refl), owes-resends is_request_owed (λ j. refl))

burst_and_request : (e : EndState) (c : ℕ) → Burdens (burst e c ++ OweRetransmissionRequest ∷ []) 1
burst_and_request e c = grind (arith, owes-append, burst_burdens e c)

-- ---- a take

-- one end e, up to t taken, takes m at position p of what its peer f has made
pub record Taken (e f : EndState) (t u : ℕ) (m : Made) (p : ℕ) : Type 0 where
  pub mine : Held e t f.made
  pub theirs : Held f u e.made
  pub there : slice_get f.made p ≡ Some m
  pub above : t ≤ p
  pub few : length e.made ≤ 2147483648
  pub few_theirs : length f.made ≤ 2147483648

module _ (q : Parameters) (e f : EndState) (t u : ℕ) (m : Made) (p : ℕ) (k : Taken e f t u m p) where
  pub here : SnIs f.made p m.pdu.sn
  here = record { m = m; there = k.there; same = refl }

  -- the position that an end that has accepted something computes
  pub place : (i : ℕ) → e.accepted ≡ suc i → e.accepted + steps_past_next e m.pdu ≡ p
  place i a = omega (arith, position_is f.made i p m.pdu.sn e.last_sn k.theirs.list.numbered k.few_theirs here (k.mine.accepts.last i a) (omega (arith, k.mine.accepts.reached, k.above)), a)

  -- the position that its CS confirms
  pub mark : is_named m.pdu.kind ≡ true → is_valid e m.pdu ≡ true → (j : ℕ) × (SnIs e.made j m.pdu.cs) × (position_confirmed e m.pdu ≡ j) × (j < length e.made)
  mark h g = grind arith

  confirms : is_named m.pdu.kind ≡ true → is_valid e m.pdu ≡ true → position_confirmed e m.pdu ≤ length e.made
  confirms n v = (let c = mark n v in omega (arith, c.2, c.3))

  more_answers : answers_in (take t f.made) ≤ answers_in (take (suc p) f.made)
  more_answers = number_take_more (is_kind RetransmissionResponse) f.made t (suc p) (omega (arith, k.above))

  -- no ask joins
  passes : (ph : Phase) (os : List Owed) → (ended e.side ph e.made ≡ false → answers_in e.made + owes is_answer_owed os ≡ length e.asks)
      → requests_in e.made + owes is_request_owed os ≤ answers_in (take (suc p) f.made) + open_bit ph → Asking e.side ph e.made e.asks os (suc p) f.made
  passes ph os owing open_requests =
      let taken : length e.asks ≤ requests_in (take (suc p) f.made) = omega (arith, k.mine.asks.asks_taken, number_take_more (is_kind RetransmissionRequest) f.made t (suc p), k.above) in
      record { asked = k.mine.asks.asked; owing = owing; answered = k.mine.asks.answered; asks_taken = taken; open_requests = open_requests }

  -- a request that is answered is the one after those that were
  pub index : IsRequest m → requests_in (take p f.made) ≡ length e.asks
  index a =
      let low = number_take_more (is_kind RetransmissionRequest) f.made t p k.above in
      omega (arith, number_take_all, bit_most, low, number_take_at (is_kind RetransmissionRequest) f.made p m k.there a, k.theirs.asks, k.mine.asks)

  -- the list of asks with one more
  answered_more : (c : ℕ) → IsRequest m → SnIs e.made c m.pdu.cs
      → (p' : ℕ) (n : Made) → slice_get f.made p' ≡ Some n → IsRequest n
      → (d : ℕ) → slice_get (e.asks ++ c ∷ []) (requests_in (take p' f.made)) ≡ Some d → SnIs e.made d n.pdu.cs
  answered_more c a s p' n g b d x =
      ⊎_elim
      (λ (old : slice_get e.asks (requests_in (take p' f.made)) ≡ Some d). k.mine.asks.answered p' n g b d old)
      (λ (new : (requests_in (take p' f.made) ≡ length e.asks) × (c ≡ d)).
      let f_is = is_kind RetransmissionRequest in
      let one = number_take_at f_is f.made p m k.there a in
      let two = number_take_at f_is f.made p' n g b in
      let same : p' ≡ p = grind (arith, one, two, new.0, index a, number_take_more f_is f.made (suc p) p', number_take_more f_is f.made (suc p') p) in
      grind (arith, new.1, k.there, g, s))
      (get_push_cases e.asks c (requests_in (take p' f.made)) d x)

  -- the PDU isn't accepted
  skipped : Accepting e.made e.accepted e.last_sn (suc p) f.made
  skipped = record { reached = omega (arith, k.mine.accepts.reached, k.above); within = omega (arith, slice_get_within f.made p m k.there); last = k.mine.accepts.last; named = k.mine.accepts.named }

  -- it is accepted
  noted : (a : ℕ) → a ≡ p → Accepting e.made (suc a) m.pdu.sn (suc p) f.made
  noted a at = grind (arith, here, slice_get_within)

  -- it shows that the end has made something, and the connection runs
  runs : (ph : Phase) (a : ℕ) (os : List Owed) → is_connected ph ≡ true → is_named m.pdu.kind ≡ true → is_valid e m.pdu ≡ true → (i : ℕ) × (a ≡ suc i) → owes is_response_owed os ≡ 0 → Opening e.side ph e.made a os
  runs ph a os on nm vd peer none = (let d = mark nm vd in grind (arith, d, on, peer, none))

  holds : {ph : Phase} {a sn c : ℕ} {qs : List ℕ} {os : List Owed} → Opening e.side ph e.made a os → Asking e.side ph e.made qs os (suc p) f.made → Accepting e.made a sn (suc p) f.made → c ≤ length e.made
      → Holds e.side ph e.made a sn c qs os (suc p) f.made
  holds opening asks accepts confirmed = record { list = k.mine.list; opening = opening; asks = asks; accepts = accepts; confirmed = confirmed }

  -- ---- the rows

  -- an end that takes by a row owes nothing
  module _ (free : e.owed ≡ []) (away : is_closed e.phase ≡ false) where
    -- each request was answered
    pub no_answers : answers_in e.made ≡ length e.asks
    no_answers = grind (arith, k.mine.asks.owing)

    -- no response is owed
    unasked : (ph : Phase) (os : List Owed) → owes is_answer_owed os ≡ 0
        → answers_in (take t f.made) + open_bit e.phase + owes is_request_owed os ≤ answers_in (take (suc p) f.made) + open_bit ph → Asking e.side ph e.made e.asks os (suc p) f.made
    unasked ph os none room = passes ph os (λ _. omega (arith, no_answers, none)) (omega (arith, ap (owes is_request_owed) free, room, k.mine.asks.open_requests))

    -- nothing more is owed
    unchanged : (ph : Phase) → open_bit e.phase ≤ open_bit ph → Asking e.side ph e.made e.asks e.owed (suc p) f.made
    unchanged ph bit = unasked ph e.owed (ap (owes is_answer_owed) free) (omega (arith, ap (owes is_request_owed) free, bit, more_answers))

    -- a burst is owed, with a request after it or without
    burdened : (ph : Phase) (os : List Owed) {n : ℕ} → m.pdu.kind ≡ RetransmissionRequest → is_valid e m.pdu ≡ true → Burdens os n → open_bit e.phase + n ≤ open_bit ph
        → Asking e.side ph e.made (e.asks ++ position_confirmed e m.pdu ∷ []) os (suc p) f.made
    burdened ph os ki vd b bit =
        let c = position_confirmed e m.pdu in
        let at = mark (ap is_named ki) vd in
        let is_a : IsRequest m = ap (is_kind RetransmissionRequest) ki in
        let l = length_push e.asks c in
        record {
          asked = omega (arith, k.mine.asks.asked, l);
          owing = λ _. omega (arith, no_answers, l, b.answers);
          answered = answered_more c is_a (rw at.2 at.1);
          asks_taken = omega (arith, index is_a, number_take_at (is_kind RetransmissionRequest) f.made p m k.there is_a, l);
          open_requests = omega (arith, ap (owes is_request_owed) free, more_answers, bit, b.asks, k.mine.asks.open_requests);
        }

    -- the PDU is accepted
    accepts : (row : TakeRow) → Knows q row e m.pdu → is_inner row ≡ true → (ph : Phase) (os : List Owed) (qs : List ℕ) → is_connected ph ≡ true → owes is_response_owed os ≡ 0
        → Asking e.side ph e.made qs os (suc p) f.made → Held (record (accept q e m.pdu) { phase = ph; owed = os; asks = qs }) (suc p) f.made
    accepts row w inside ph os qs on none asks =
        let (peer, nm, vd) = inner q row e m.pdu inside w in
        let i = k.mine.opening.connected peer in
        holds (runs ph _ os on nm vd (_, refl) none) asks (noted _ (place i.0 i.1)) (confirms nm vd)

    -- it isn't accepted
    waits : (row : TakeRow) → Knows q row e m.pdu → is_inner row ≡ true → (ph : Phase) (c : ℕ) (os : List Owed) (qs : List ℕ) → is_connected ph ≡ true → c ≤ length e.made
        → owes is_response_owed os ≡ 0 → Asking e.side ph e.made qs os (suc p) f.made → Held (record e { phase = ph; confirmed = c; owed = os; asks = qs }) (suc p) f.made
    waits row w inside ph c os qs on confirmed none asks = grind (arith, holds, inner, runs, skipped)

    by_row : (row : TakeRow) → Knows q row e m.pdu → Held (bare_effect q row e m.pdu) (suc p) f.made
    by_row Opened w =
        holds (grind arith) (unasked Start _ refl (omega (arith, ap open_bit w.0, more_answers))) (noted 0 (sym (k.theirs.list.openers p m k.there (ap is_opener w.1)))) k.mine.confirmed
    by_row Answered w =
        holds (runs Up 1 _ refl (ap is_named w.2) w.3 (0, refl) refl) (unasked Up _ refl (omega (arith, ap open_bit w.1, more_answers)))
        (noted 0 (sym (k.theirs.list.openers p m k.there (ap is_opener w.2)))) (confirms (ap is_named w.2) w.3)
    by_row FirstHeartbeat w = accepts FirstHeartbeat w refl Up e.owed e.asks refl (grind arith) (unchanged Up (grind (arith, w)))
    by_row InSequence w = accepts InSequence w refl Up e.owed e.asks refl (grind arith) (unchanged Up (grind (arith, w)))
    by_row ResentInSequence w = accepts ResentInSequence w refl e.phase e.owed e.asks (ap is_connected w.0) (grind arith) (unchanged e.phase (omega arith))
    by_row Gap w = waits Gap w refl RetrReq e.confirmed _ e.asks refl k.mine.confirmed refl (unasked RetrReq _ refl (omega (arith, ap open_bit w.0, more_answers)))
    by_row GapInRetransmission w = waits GapInRetransmission w refl RetrReq e.confirmed _ e.asks refl k.mine.confirmed refl (unasked RetrReq _ refl (omega (arith, ap open_bit w.0, more_answers)))
    by_row Resumed w =
        let next = number_take_at (is_kind RetransmissionResponse) f.made p m k.there (ap (is_kind RetransmissionResponse) w.1) in
        let low = number_take_more (is_kind RetransmissionResponse) f.made t p k.above in
        accepts Resumed w refl RetrRun e.owed e.asks refl (grind arith) (unasked RetrRun e.owed (grind arith) (omega (arith, ap open_bit w.0, next, low, ap (owes is_request_owed) free)))
    by_row Requested w = accepts Requested w refl e.phase _ _ (grind (arith, w)) (burst_burdens e (position_confirmed e m.pdu)).response (burdened e.phase _ w.1 w.2 (burst_burdens e _) (omega arith))
    by_row RequestedAhead w =
        let o = burst_and_request e (position_confirmed e m.pdu) in
        waits RequestedAhead w refl RetrReq _ _ _ refl (confirms (ap is_named w.1) w.2) o.response (burdened RetrReq _ w.1 w.2 o (grind (arith, w)))
    by_row RequestedWhileAsking w =
        let o = burst_burdens e (position_confirmed e m.pdu) in
        waits RequestedWhileAsking w refl e.phase _ _ _ (ap is_connected w.0) (confirms (ap is_named w.1) w.2) o.response (burdened e.phase _ w.1 w.2 o (omega arith))
    by_row Disconnected w = holds (grind (arith, k.mine.opening.unmade)) (unchanged Closed (bit_most e.phase)) skipped k.mine.confirmed

  pub own_take : (is_closed e.phase ≡ false → e.owed ≡ []) → Held (after_take q e m.pdu) (suc p) f.made
  own_take free =
      take_bare q e m.pdu (λ e'. Held e' (suc p) f.made) (λ i g h. h)
      (holds k.mine.opening (passes e.phase e.owed k.mine.asks.owing (omega (arith, k.mine.asks.open_requests, more_answers))) skipped k.mine.confirmed)
      (λ row away x. by_row (free away) away row x)
