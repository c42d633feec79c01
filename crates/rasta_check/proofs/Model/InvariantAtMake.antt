-- A make keeps what holds, at both ends.
use Rattle.std.proofs.Common.{◌≡◌, ℕ, ◌+◌, ◌≤◌, true, false, List, [], ◌∷◌, ◌++◌, length, Some, take, refl, ap, sym, ◌∙◌, arith}
use Rattle.rasta_check.proofs.Prelude.{drop, take-append-le, length_push, slice_get_within, slice_get_past, Side, Client, Kind, ConnectionRequest, DisconnectionRequest}
use Rattle.rasta_check.proofs.Prelude.{RetransmissionRequest, RetransmissionResponse, SafetyPdu, is_kind, Parameters, Phase, Closed, Start, Why, MakeRow, Owed, OweConnectionResponse}
use Rattle.rasta_check.proofs.Prelude.{Made, EndState, after_make_by, phase_after, all_push, get_front}
use Rattle.rasta_end.specs.MakeRule.{owed_after}
use Rattle.rasta_check.proofs.Model.NamedPositions.{numbered_push, SnIs_more}
use Rattle.rasta_check.proofs.Model.MakeRows.{Passed, un_not, cs_is, Making, opening, response, first_beat, answer, again, ask, beat, fresh, MadeBy, new_made}
use Rattle.rasta_check.proofs.Model.Counts.{owes, tally, number_push, number_take_more, is_answer_owed, is_request_owed, requests_in, answers_in}
use Rattle.rasta_check.proofs.Model.Invariant.{Held, Opening, Asking, ended, is_response_owed, is_opener, has_peer, is_named, open_bit, bit_most}

-- how a make changes the phase and what is owed: it ends the connection, opens it, or goes on
pub data Changed (s : Side) (ph : Phase) (k : Kind) (os : List Owed) : Phase → List Owed → Type 0 where
  over : k ≡ DisconnectionRequest → Changed s ph k os Closed []
  opened : ph ≡ Closed → s ≡ Client → k ≡ ConnectionRequest → Changed s ph k os Start os
  goes_on : has_peer s ph ≡ true
      → tally (is_kind RetransmissionResponse k) (owes is_answer_owed (drop 1 os)) ≡ owes is_answer_owed os
      → tally (is_kind RetransmissionRequest k) (owes is_request_owed (drop 1 os)) ≡ owes is_request_owed os
      → (is_opener k ≡ true → (rest : List Owed) × (os ≡ OweConnectionResponse ∷ rest))
      → owes is_response_owed (drop 1 os) ≤ owes is_response_owed os
      → Changed s ph k os ph (drop 1 os)

-- ---- the rows

pub changed : {s : Side} {ph : Phase} {why : Why} {k : Kind} {os : List Owed} {row : MakeRow} → Making s ph why k os row → Changed s ph k os (phase_after row ph) (owed_after row os)
changed opening = opened refl refl refl
changed (response {os = rest}) = goes_on refl refl refl (λ _. (rest, refl)) (omega arith)
changed first_beat = goes_on refl refl refl (λ e. absurd (cc)) (omega arith)
changed (answer r) = goes_on (grind (arith, r)) refl refl (λ e. absurd (cc)) (omega arith)
changed (again r) = goes_on (grind (arith, r)) refl refl (λ e. absurd (cc)) (omega arith)
changed (ask r) = goes_on (grind (arith, r)) refl refl (λ e. absurd (cc)) (omega arith)
changed (beat r) = goes_on (grind (arith, r)) refl refl (λ e. absurd (cc)) (omega arith)
changed (fresh r) = goes_on (grind (arith, r)) refl refl (λ e. absurd (cc)) (omega arith)
changed _ = over refl

-- ---- the parts of an end

-- an end that closes by a make has ended
pub over_after : (s : Side) (ph : Phase) (ms : List Made) (m : Made) → ph ≡ Closed → ended s ph (ms ++ m ∷ []) ≡ true
over_after s ph [] m e = grind arith
over_after s ph (x ∷ ms) m e = grind arith

-- an end that is Closed and hasn't ended has made nothing
pub nothing_made : (s : Side) (ph : Phase) (ms : List Made) → ph ≡ Closed → ended s ph ms ≡ false → ms ≡ []
nothing_made s ph [] e h = refl
nothing_made s ph (m ∷ ms) e h = absurd (grind arith)

pub push_some : (ms : List Made) (m : Made) → ms ++ m ∷ [] ≡ [] → ⊥
push_some ms m e = omega (arith, length_push ms m, ap length e)

-- ---- the peer

-- a make leaves what holds of the peer
pub peer_make : (f : EndState) (u : ℕ) (ms : List Made) (m : Made) → Held f u ms → Held f u (ms ++ m ∷ [])
peer_make f u ms m h =
    let taken = take-append-le u ms (m ∷ []) h.accepts.within in
    let old = h.asks in
    record {
      list = h.list;
      opening = h.opening;
      asks = record {
        asked = old.asked;
        owing = old.owing;
        answered = all_push ms m
            (λ p n g k c a. (let l = slice_get_within ms p n g in old.answered p n g k c (rw (take-append-le p ms (m ∷ []) (omega (arith, l))) at a)))
            (grind (arith, number_take_more (is_kind RetransmissionRequest) ms u (length ms), slice_get_past, take-append-le (length ms) ms (m ∷ [])));
        asks_taken = omega (arith, ap requests_in taken, old.asks_taken);
        open_requests = omega (arith, ap answers_in taken, old.open_requests);
      };
      accepts = record {
        reached = h.accepts.reached;
        within = omega (arith, h.accepts.within, length_push ms m);
        last = λ i e. SnIs_more (get_front ms (m ∷ [])) (h.accepts.last i e);
        named = λ p n e k. (let r = h.accepts.named p n e k in (r.0, r.1, SnIs_more (get_front ms (m ∷ [])) r.2));
      };
      confirmed = h.confirmed;
    }

-- ---- the maker

module _ (s : Side) (ph : Phase) (ms : List Made) (m : Made) (a : ℕ) (os : List Owed) (open_yet : ended s ph ms ≡ false) (h : Opening s ph ms a os) where
  make_opening : {ph' : Phase} {os' : List Owed} → Changed s ph m.pdu.kind os ph' os' → Opening s ph' (ms ++ m ∷ []) a os'
  make_opening (over d) = grind (arith, push_some ms m)
  make_opening (opened b c d) = grind (arith, nothing_made, push_some)
  make_opening (goes_on on b c d r) = grind (arith, push_some ms m, on, r, h)

  asking_push : {ph' : Phase} {os' : List Owed} {qs : List ℕ} {t : ℕ} {peer : List Made} → Asking s ph ms qs os t peer → answers_in (ms ++ m ∷ []) ≤ length qs
      → (ended s ph' (ms ++ m ∷ []) ≡ false → answers_in (ms ++ m ∷ []) + owes is_answer_owed os' ≡ length qs)
      → requests_in (ms ++ m ∷ []) + owes is_request_owed os' ≤ answers_in (take t peer) + open_bit ph' → Asking s ph' (ms ++ m ∷ []) qs os' t peer
  asking_push w asked owing open_requests =
      record { asked = asked; owing = owing; answered = λ p n g k c x. SnIs_more (get_front ms (m ∷ [])) (w.answered p n g k c x); asks_taken = w.asks_taken; open_requests = open_requests }

  make_asking : {ph' : Phase} {os' : List Owed} (qs : List ℕ) (t : ℕ) (peer : List Made) → Changed s ph m.pdu.kind os ph' os' → Asking s ph ms qs os t peer → Asking s ph' (ms ++ m ∷ []) qs os' t peer
  make_asking qs t peer (over d) w =
      asking_push w (grind (arith, number_push, w.asked, d)) (λ v. absurd (let z = over_after s Closed ms m refl in cc)) (grind (arith, number_push, w.open_requests, bit_most ph, d))
  make_asking qs t peer (opened b c d) w =
      asking_push w (grind (arith, number_push, w.asked, d)) (λ v. grind (arith, number_push, w.owing open_yet, d)) (grind (arith, number_push, nothing_made, d))
  make_asking qs t peer (goes_on on b c d r) w =
      asking_push w (grind (arith, number_push, b, w.owing open_yet)) (λ v. grind (arith, number_push, b, w.owing open_yet)) (grind (arith, number_push, c, w.open_requests))

-- an end that makes a PDU whose CS names one of the peer's has accepted something
named_connected : {s : Side} {ph ph' : Phase} {k : Kind} {os os' : List Owed} → Changed s ph k os ph' os' → is_named k ≡ true → has_peer s ph ≡ true
named_connected h g = grind arith

-- a make keeps what holds of the maker
pub own_make : (p : Parameters) (e : EndState) (x : SafetyPdu) (clock : ℕ) (why : Why) (t : ℕ) (peer : List Made) (by : MadeBy e x why)
    → Passed p e x clock why → Held e t peer → Held (after_make_by (Some by.row) e x clock) t peer
own_make p e x clock why t peer by pass h =
    let n : Made = new_made by.row e x in
    let how = changed by.how in
    record {
      list = record {
        numbered = numbered_push e.made n h.list.numbered (un_not _ pass.sn);
        openers = all_push e.made n h.list.openers (grind (arith, how, nothing_made, h.opening));
      };
      opening = make_opening e.side e.phase e.made n e.accepted e.owed pass.open_yet h.opening how;
      asks = make_asking e.side e.phase e.made n e.accepted e.owed pass.open_yet h.opening e.asks t peer how h.asks;
      accepts = record {
        reached = h.accepts.reached;
        within = h.accepts.within;
        last = h.accepts.last;
        named = all_push e.made n h.accepts.named
            (λ k.
            let a = h.opening.connected (named_connected how k) in
            let l = h.accepts.last a.0 a.1 in
            (a.0, omega (arith, a.1), record { m = l.m; there = l.there; same = l.same ∙ sym (cs_is e x.kind x.cs (grind (arith, k)) pass.cs).1 }));
      };
      confirmed = omega (arith, h.confirmed, length_push e.made n);
    }
