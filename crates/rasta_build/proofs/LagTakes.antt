-- A take of a run's end keeps the lag of the builder's end.
use Rattle.std.proofs.Common.{◌≡◌, ℕ, suc, ◌+◌, ◌*◌, ◌<◌, ◌≤◌, ◌⊎◌, Bool, true, false, List, [], length, Option, Some, None, take, refl, ap, sym, ◌∙◌, arith, inl, inr, subst, ⊎_elim}
use Rattle.rasta_build.proofs.Prelude.{nat_lt, nat_le, if◌then◌else◌, ◌&&◌, ◌==◌, nat_tests, Side, Server, Parameters, SafetyPdu, is_kind, Kind}
use Rattle.rasta_build.proofs.Prelude.{RetransmissionRequest, RetransmissionResponse, Phase, Start, Up, TakeRow, Opened, Answered, FirstHeartbeat, InSequence}
use Rattle.rasta_build.proofs.Prelude.{ResentInSequence, Gap, GapInRetransmission, Resumed, Requested, RequestedAhead, RequestedWhileAsking, Disconnected, Made, EndState, is_owing}
use Rattle.rasta_build.proofs.Prelude.{is_closed, is_active, is_retr_req, is_flowing, carries_unit, effect, effect_by, after_take, take_row, take_fault, steps_past_next, is_in}
use Rattle.rasta_build.proofs.Prelude.{is_ahead, accept, enter, hand_up, FirstCopy, row_known, number, Valued, Taken, Built, catch_up}
use Rattle.rasta_pdu.specs.Pdu.{is_heartbeat_or_data}
use Rattle.rasta_check.proofs.Model.NamedPositions.{position_is}
use Rattle.rasta_check.proofs.Model.ConveyedUnits.{values}
use Rattle.rasta_check.proofs.Model.OfferedUnits.{conveyed_most}
use Rattle.rasta_check.proofs.Model.Invariant.{is_opener, has_peer}
use Rattle.rasta_check.proofs.Model.InvariantAtTake.{place, index, flowing_peer, own_take}
use Rattle.rasta_build.proofs.Readiness.{IsReady, ConveysNoMore}
use Rattle.rasta_build.proofs.Scans.{AreCopies, Names, is_gap, is_request_ahead}
use Rattle.rasta_build.proofs.Lags.{IsLag, Accepting, lag_accepts}

-- ---- what holds of the run's end

pub conveys : (e : EndState) → Valued e → ConveysNoMore e
conveys e v c = conveyed_most (values e) e.offered c v.positions.bounded

in_steps : (s : ℕ) → (s == 0) ≡ true → s ≡ 0
in_steps s h = grind (arith, nat_tests)

ahead_steps : (s n : ℕ) → (nat_lt 0 s && nat_le s n) ≡ true → 0 < s
ahead_steps s n h = grind (arith, nat_tests)

unit_accepted : (c : Bool) (i : ℕ) (e : EndState) (x : SafetyPdu) → (if c then hand_up i e x else e).accepted ≡ e.accepted
unit_accepted c i e x = grind arith

unit_phase : (c : Bool) (i : ℕ) (e : EndState) (x : SafetyPdu) → (if c then hand_up i e x else e).phase ≡ e.phase
unit_phase c i e x = grind arith

flowing_waits : (ph : Phase) → is_flowing ph ≡ true → is_retr_req ph ≡ false
flowing_waits ph h = grind arith

fresh_plain : (k : Kind) → is_heartbeat_or_data k ≡ true → is_kind RetransmissionResponse k ≡ false
fresh_plain k h = grind arith

starting_peer : (s : Side) (ph : Phase) → s ≡ Server → ph ≡ Start → has_peer s ph ≡ true
starting_peer s ph h g = grind arith

module _ (p : Parameters) (e f : EndState) (t u : ℕ) (m : Made) (q : ℕ) (k : Taken e f t u m q) where
  -- an end that has accepted something finds the positions of its peer
  pub all_named : (i : ℕ) → e.accepted ≡ suc i → Names e f.made q
  all_named i a j n g l up =
      let s = position_is f.made i j n.pdu.sn e.last_sn k.theirs.list.numbered k.few_theirs (record { m = n; there = g; same = refl }) (k.mine.accepts.last i a) (omega (arith, l, a)) in
      omega (arith, s, a)

  in_place : has_peer e.side e.phase ≡ true → is_in e m.pdu ≡ true → (q ≡ e.accepted) × (suc (e.accepted + steps_past_next e m.pdu) ≡ suc q)
  in_place h n =
      let c = k.mine.opening.connected h in
      let s = place p e f t u m q k c.0 c.1 in
      let z = in_steps (steps_past_next e m.pdu) n in
      (omega (arith, s, z), omega (arith, s))

  -- a row that accepts takes the next position, or the response that was waited for
  pub opened_accepts : take_row p e m.pdu ≡ Some Opened → Accepting p e m.pdu Opened q
  opened_accepts is =
      let w = row_known p e m.pdu Opened is in
      let z = k.theirs.list.openers q m k.there (ap is_opener w.1) in
      let a = (k.mine.opening.down w.0).2 in
      record { accepted = omega (arith, z); calm = refl; how = inl (omega (arith, z, a), ap (is_kind RetransmissionResponse) w.1, ap is_retr_req w.0) }

  pub answered_accepts : take_row p e m.pdu ≡ Some Answered → Accepting p e m.pdu Answered q
  answered_accepts is =
      let w = row_known p e m.pdu Answered is in
      let z = k.theirs.list.openers q m k.there (ap is_opener w.2) in
      let a = k.mine.opening.starting w.0 w.1 in
      record { accepted = omega (arith, z); calm = refl; how = inl (omega (arith, z, a), ap (is_kind RetransmissionResponse) w.2, ap is_retr_req w.1) }

  pub beat_accepts : take_row p e m.pdu ≡ Some FirstHeartbeat → Accepting p e m.pdu FirstHeartbeat q
  beat_accepts is =
      let w = row_known p e m.pdu FirstHeartbeat is in
      let z = in_place (starting_peer e.side e.phase w.0 w.1) w.4 in
      record { accepted = z.1; calm = refl; how = inl (z.0, ap (is_kind RetransmissionResponse) w.2, ap is_retr_req w.1) }

  pub sequence_accepts : take_row p e m.pdu ≡ Some InSequence → Accepting p e m.pdu InSequence q
  sequence_accepts is =
      let w = row_known p e m.pdu InSequence is in
      let z = in_place (flowing_peer e.side e.phase w.0) w.3 in
      record {
        accepted = unit_accepted (carries_unit m.pdu.kind) e.accepted (enter Up (accept p e m.pdu)) m.pdu ∙ z.1;
        calm = ap is_retr_req (unit_phase (carries_unit m.pdu.kind) e.accepted (enter Up (accept p e m.pdu)) m.pdu);
        how = inl (z.0, fresh_plain m.pdu.kind w.1, flowing_waits e.phase w.0);
      }

  pub resent_accepts : take_row p e m.pdu ≡ Some ResentInSequence → Accepting p e m.pdu ResentInSequence q
  resent_accepts is =
      let w = row_known p e m.pdu ResentInSequence is in
      let fl : is_flowing e.phase ≡ true = ap is_flowing w.0 in
      let z = in_place (flowing_peer e.side e.phase fl) w.3 in
      record {
        accepted = unit_accepted (carries_unit m.pdu.kind) e.accepted (accept p e m.pdu) m.pdu ∙ z.1;
        calm = ap is_retr_req (unit_phase (carries_unit m.pdu.kind) e.accepted (accept p e m.pdu) m.pdu) ∙ flowing_waits e.phase fl;
        how = inl (z.0, ap (is_kind RetransmissionResponse) w.1, flowing_waits e.phase fl);
      }

  pub requested_accepts : take_row p e m.pdu ≡ Some Requested → Accepting p e m.pdu Requested q
  requested_accepts is =
      let w = row_known p e m.pdu Requested is in
      let z = in_place (flowing_peer e.side e.phase w.0) w.3 in
      record { accepted = z.1; calm = flowing_waits e.phase w.0; how = inl (z.0, ap (is_kind RetransmissionResponse) w.1, flowing_waits e.phase w.0) }

  pub resumed_accepts : take_row p e m.pdu ≡ Some Resumed → Accepting p e m.pdu Resumed q
  resumed_accepts is =
      let w = row_known p e m.pdu Resumed is in
      let c = k.mine.opening.connected (ap (has_peer e.side) w.0) in
      let s = place p e f t u m q k c.0 c.1 in
      record { accepted = omega (arith, s); calm = refl; how = inr (omega (arith, s), ap (is_kind RetransmissionResponse) w.1, ap is_retr_req w.0) }

  -- ---- the lag

  module _ (start : Option ℕ) (side : Side) (quiet_sn : Option ℕ) (sent : List FirstCopy) (b : Built) (base n : ℕ) (copies : AreCopies quiet_sn sent f.made base n)
      (free : e.owed ≡ []) (fault : take_fault p e e.clock ≡ None) (values_of : Valued e) (based : base ≤ q) (quiet : b.peer.quiet_sn ≡ quiet_sn)
      (mark : ℕ) (marked : mark ≤ t) (low : b.end.state.accepted ≤ e.accepted)
      (caught : (slot : ℕ) → (b1 : Built) × (catch_up sent slot e.accepted b ≡ Some b1) × IsReady p start side quiet_sn e mark f.made b1)
      (calm : b.end.state.accepted < e.accepted → is_retr_req e.phase ≡ false) (still : is_owing b.end.state.owed ≡ true → e.accepted ≡ b.end.state.accepted) where
    abbrev Lags : EndState → Type 0
    Lags e' = IsLag p start side quiet_sn e' (suc q) f.made sent b

    asks_of : (row : TakeRow) → take_row p e m.pdu ≡ Some row → length (effect p row e m.pdu).asks ≤ number (is_kind RetransmissionRequest) (take (suc q) f.made)
    asks_of row is = (let h = own_take p e f t u m q k (λ c. free) in let same : after_take p e m.pdu ≡ effect p row e m.pdu = ap (λ (r : Option TakeRow). effect_by p r e m.pdu) is in
        subst (λ (z : EndState). length z.asks ≤ number (is_kind RetransmissionRequest) (take (suc q) f.made)) same h.asks.asks_taken)

    by_accepting : (row : TakeRow) → take_row p e m.pdu ≡ Some row → Accepting p e m.pdu row q → Lags (effect p row e m.pdu)
    by_accepting row is a = lag_accepts p start side quiet_sn e t f.made sent b base n copies k.few_theirs free fault (conveys e values_of) q m k.there k.above based row is (asks_of row is)
        mark marked low caught calm still quiet a

    by_pending : (row : TakeRow) → take_row p e m.pdu ≡ Some row → has_peer e.side e.phase ≡ true → is_ahead p e m.pdu ≡ true
        → ((is_gap row ≡ true) ⊎ (is_request_ahead row ≡ true) × (is_kind RetransmissionRequest m.pdu.kind ≡ true)) → Lags (effect p row e m.pdu)
    by_pending row is h a kind =
        let c = k.mine.opening.connected h in
        let s = place p e f t u m q k c.0 c.1 in
        let st = ahead_steps (steps_past_next e m.pdu) (10 * p.n_sendmax) a in
        record {
          base = e;
          mark = mark;
          marked = (let z = k.above in omega (arith, z, marked));
          low = low;
          caught = caught;
          calm = calm;
          still = still;
          stage = inr (record {
            position = q;
            m = m;
            row = row;
            there = k.there;
            above = (let z = k.above in omega (arith, z, marked));
            below = omega arith;
            ahead = omega (arith, s, st);
            free = free;
            fault = fault;
            more = conveys e values_of;
            names = all_named c.0 c.1;
            is = is;
            kind = ⊎_elim (λ (g : is_gap row ≡ true). inl g) (λ (g : (is_request_ahead row ≡ true) × (is_kind RetransmissionRequest m.pdu.kind ≡ true)). inr (g.0, index p e f t u m q k g.1, asks_of row is)) kind;
            after = refl;
          });
        }

    by_row : (row : TakeRow) → take_row p e m.pdu ≡ Some row → Lags (effect p row e m.pdu) ⊎ ((is_closed (effect p row e m.pdu).phase ≡ true) × (is_active e.phase ≡ true))
    by_row Opened is = inl (by_accepting Opened is (opened_accepts is))
    by_row Answered is = inl (by_accepting Answered is (answered_accepts is))
    by_row FirstHeartbeat is = inl (by_accepting FirstHeartbeat is (beat_accepts is))
    by_row InSequence is = inl (by_accepting InSequence is (sequence_accepts is))
    by_row ResentInSequence is = inl (by_accepting ResentInSequence is (resent_accepts is))
    by_row Gap is = (let w = row_known p e m.pdu Gap is in inl (by_pending Gap is (ap (has_peer e.side) w.0) w.3 (inl refl)))
    by_row GapInRetransmission is = (let w = row_known p e m.pdu GapInRetransmission is in inl (by_pending GapInRetransmission is (ap (has_peer e.side) w.0) w.3 (inl refl)))
    by_row Resumed is = inl (by_accepting Resumed is (resumed_accepts is))
    by_row Requested is = inl (by_accepting Requested is (requested_accepts is))
    by_row RequestedAhead is = (let w = row_known p e m.pdu RequestedAhead is in inl (by_pending RequestedAhead is (flowing_peer e.side e.phase w.0) w.3 (inr (refl, ap (is_kind RetransmissionRequest) w.1))))
    by_row RequestedWhileAsking is = (let w = row_known p e m.pdu RequestedWhileAsking is in inl (by_pending RequestedWhileAsking is (ap (has_peer e.side) w.0) w.3 (inr (refl, ap (is_kind RetransmissionRequest) w.1))))
    by_row Disconnected is = (let w = row_known p e m.pdu Disconnected is in inr (refl, w.0))

    -- the take by a row keeps the lag, or ends the connection
    pub lag_row : (row : TakeRow) → take_row p e m.pdu ≡ Some row → Lags (after_take p e m.pdu) ⊎ ((is_closed (after_take p e m.pdu).phase ≡ true) × (is_active e.phase ≡ true))
    lag_row row is =
        let same : effect p row e m.pdu ≡ after_take p e m.pdu = ap (λ (r : Option TakeRow). effect_by p r e m.pdu) (sym is) in
        subst (λ (z : EndState). Lags z ⊎ ((is_closed z.phase ≡ true) × (is_active e.phase ≡ true))) same (by_row row is)
