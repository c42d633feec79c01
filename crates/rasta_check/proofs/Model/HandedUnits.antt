-- What an end has handed up: the units conveyed through the last position of its peer that it accepted; its PDUs show no more.
use Rattle.std.proofs.Common.{◌≡◌, ℕ, zero, suc, ◌+◌, ◌≤◌, Bool, true, false, List, [], ◌∷◌, ◌++◌, length, Some, slice_get, take, refl, ap, sym, ◌∙◌, arith, subst, ◌<◌, ◌⊎◌, inl, inr}
use Rattle.std.proofs.Common.{⊎_elim}
use Rattle.rasta_check.proofs.Prelude.{slice_index_or, filter, drop, nat_tests, take-append_seam, take-append-le, length_push, slice_get_within, slice_get-get_or, unwrap_or-slice_get}
use Rattle.rasta_check.proofs.Prelude.{RetransmissionRequest, RetransmissionResponse, Data, Parameters, SafetyPdu, messages_in, is_kind, Phase, RetrReq, Why, TakeRow, FirstHeartbeat}
use Rattle.rasta_check.proofs.Prelude.{InSequence, ResentInSequence, Resumed, Requested, Owed, Made, EndState, is_closed, is_flowing, carries_unit, content_of, after_make_by, effect}
use Rattle.rasta_check.proofs.Prelude.{after_take, HandsUpUnits, all_push, get_front, get_push, get_mapped, Kind, is_connected, ConnectionRequest}
use Rattle.std.proofs.lemmas.Option.{get_or_from_slice_get}
use Rattle.std.proofs.Math.Logic.{⊎_map}
use Rattle.rasta_pdu.specs.Messages.{messages_of}
use Rattle.rasta_pdu.specs.Pdu.{SafetyBody}
use Rattle.rasta_end.specs.TakeRule.{is_in, steps_past_next}
use Rattle.rasta_check.specs.Model.Laws.{HandsUp}
use Rattle.rasta_end.specs.MakeRule.{is_judged}
use Rattle.rasta_check.proofs.Model.MakeRows.{Passed, cs_is, MadeBy, new_made}
use Rattle.rasta_check.proofs.Model.Steps.{Grown, same_grown}
use Rattle.rasta_check.proofs.Model.TakeRows.{Knows, by_unit, take_by, effect_leaves, take_leaves}
use Rattle.rasta_check.proofs.Model.Counts.{owes, tally, number_push, number_take_all, number_take_more, number_take_at, is_request_owed, owes-append, requests_in, answers_in, IsRequest}
use Rattle.rasta_check.proofs.Model.Counts.{IsAnswer}
use Rattle.rasta_check.proofs.Model.NamedPositions.{numbered_once, SnIs, SnIs_more}
use Rattle.rasta_check.proofs.Model.Invariant.{Held, open_bit}
use Rattle.rasta_check.proofs.Model.InvariantAtMake.{Changed, changed, goes_on, nothing_made}
use Rattle.rasta_check.proofs.Model.InvariantAtTake.{Taken, place, is_inner, inner}
use Rattle.rasta_check.proofs.Model.ConveyedUnits.{values, is_plain, length-values}
use Rattle.rasta_check.proofs.Model.OfferedUnits.{Valued}
use Rattle.rasta_check.proofs.Model.Requests.{OnceIn}

-- how many units an end has been handed that accepted so many positions
abbrev pub worth : List ℕ → ℕ → ℕ
worth vs zero = 0
worth vs (suc i) = slice_index_or vs i 0

-- the i-th position handed up is that of a made PDU with unit i, and the i-th PDU handed up is that one
abbrev pub AreUnits : List ℕ → List SafetyPdu → List Made → Type 0
AreUnits positions pdus made = (i position : ℕ) → slice_get positions i ≡ Some position
    → (n : Made) × (slice_get made position ≡ Some n) × (carries_unit n.pdu.kind ≡ true) × (n.unit ≡ Some i) × (slice_get pdus i ≡ Some n.pdu)

-- the last request that this end made has this CS
abbrev pub LastRequest : List Made → ℕ → Type 0
LastRequest made cs = (p : ℕ) × (n : Made) × (slice_get made p ≡ Some n) × IsRequest n × (n.pdu.cs ≡ cs)
    × (suc (requests_in (take p made)) ≡ requests_in made)

-- of an end in phase ph that made ms, owes os and accepted up to a, the last with SN sn, and of a peer that made peer and conveys vs
pub record HandsOver (positions : List ℕ) (pdus : List SafetyPdu) (a sn : ℕ) (ph : Phase) (os : List Owed) (ms peer : List Made) (vs : List ℕ) : Type 0 where
  pub count : length positions ≡ worth vs a
  pub labels : AreUnits positions pdus peer
  pub as_many : length pdus ≡ length positions
  pub awaited : ph ≡ RetrReq → owes is_request_owed os ≡ 0 → LastRequest ms sn

abbrev pub Handed : EndState → EndState → Type 0
Handed e f = HandsOver e.handed e.handed_pdus e.accepted e.last_sn e.phase e.owed e.made f.made (values f)

pub worth_at : (vs : List ℕ) (a p v : ℕ) → a ≡ suc p → slice_get vs p ≡ Some v → worth vs a ≡ v
worth_at vs a p v e g = ap (worth vs) e ∙ get_or_from_slice_get vs p v 0 g

-- the peer makes or takes
pub handed_peer : (e f f' : EndState) → e.accepted ≤ length f.made → Grown f f' → Handed e f → Handed e f'
handed_peer e f f' l g h = grind (arith, length-values, get_or_from_slice_get, slice_get-get_or)

-- The end itself makes.

module _ (p : Parameters) (e f : EndState) (x : SafetyPdu) (clock : ℕ) (why : Why) (t : ℕ) (by : MadeBy e x why) (pass : Passed p e x clock why) (h : Held e t f.made) (w : Handed e f) where
  abbrev new : Made
  new = new_made by.row e x

  new_ask : (c : Bool) → is_kind RetransmissionRequest x.kind ≡ c → e.phase ≡ RetrReq
      → tally c (owes is_request_owed (drop 1 e.owed)) ≡ owes is_request_owed e.owed → owes is_request_owed (drop 1 e.owed) ≡ 0 → LastRequest (e.made ++ new ∷ []) e.last_sn
  new_ask true c ph d none =
      let here = ap requests_in (take-append_seam e.made (new ∷ [])) in
      (length e.made, new, get_push e.made new, c, (cs_is e x.kind x.cs (grind (arith, c)) pass.cs).1, grind (arith, number_push (is_kind RetransmissionRequest) e.made new, c, here))
  new_ask false c ph d none = grind (arith, get_front, number_push, slice_get_within, take-append-le)

  await_by : {ph : Phase} {os : List Owed} → Changed e.side e.phase x.kind e.owed ph os → ph ≡ RetrReq → owes is_request_owed os ≡ 0 → LastRequest (e.made ++ new ∷ []) e.last_sn
  await_by (goes_on a c d g j) ph none = new_ask (is_kind RetransmissionRequest x.kind) refl ph d none
  await_by _ ph none = absurd (cc)

  pub handed_make : Handed (after_make_by (Some by.row) e x clock) f
  handed_make = record { count = w.count; labels = w.labels; as_many = w.as_many; awaited = await_by (changed by.how) }

-- The end itself takes.

module _ (q : Parameters) (e f : EndState) (t u : ℕ) (m : Made) (p : ℕ) (k : Taken e f t u m p) (w : Handed e f) (vf : Valued f) where
  -- the end accepts position p, through which as many are conveyed as through the last one
  same_worth : (i : ℕ) → e.accepted ≡ suc i → slice_get (values f) p ≡ slice_get (values f) i → worth (values f) (suc (e.accepted + steps_past_next e m.pdu)) ≡ worth (values f) e.accepted
  same_worth i a s = cc (place q e f t u m p k i a, unwrap_or-slice_get (values f) p 0, unwrap_or-slice_get (values f) i 0, ap (worth (values f)) a)

  -- nothing is handed up
  keeps : {a sn : ℕ} {ph : Phase} {os : List Owed} → worth (values f) a ≡ worth (values f) e.accepted → (ph ≡ RetrReq → owes is_request_owed os ≡ 0 → ⊥) → HandsOver e.handed e.handed_pdus a sn ph os e.made f.made (values f)
  keeps v never = record { count = w.count ∙ sym v; labels = w.labels; as_many = w.as_many; awaited = λ r n. absurd (never r n) }

  -- a row between the opening and the end: a PDU was accepted, and the one in sequence follows it
  last_place : (row : TakeRow) → Knows q row e m.pdu → is_inner row ≡ true → (i : ℕ) × (e.accepted ≡ suc i)
  last_place row x inside = k.mine.opening.connected (inner q row e m.pdu inside x).0

  in_place : is_in e m.pdu ≡ true → (i : ℕ) → e.accepted ≡ suc i → p ≡ suc i
  in_place b i a = grind (arith, nat_tests, b, place q e f t u m p k i a)

  -- a unit in sequence is handed up
  hands : {sn : ℕ} {ph : Phase} {os : List Owed} → (i : ℕ) × (e.accepted ≡ suc i) → is_in e m.pdu ≡ true → carries_unit m.pdu.kind ≡ true → (ph ≡ RetrReq → ⊥)
      → HandsOver (e.handed ++ e.accepted ∷ []) (e.handed_pdus ++ m.pdu ∷ []) (suc (e.accepted + steps_past_next e m.pdu)) sn ph os e.made f.made (values f)
  hands (i, last) b c never =
      let s = in_place b i last in
      let un = vf.positions.units p m k.there c in
      let new = worth_at (values f) _ p (suc un.1) (ap suc (place q e f t u m p k i last)) un.5 in
      let old : length e.handed ≡ un.1 = grind (arith, s, un, w.count, worth_at) in
      record {
        count = omega (arith, length_push e.handed e.accepted, old, new);
        labels = all_push e.handed e.accepted (grind (arith, w.labels, get_front)) (grind (arith, last, s, k.there, c, un, old, w.as_many, get_push));
        as_many = omega (arith, length_push e.handed_pdus m.pdu, length_push e.handed e.accepted, w.as_many);
        awaited = λ r n. absurd (never r);
      }

  -- a plain PDU in sequence hands nothing up
  plain : {sn : ℕ} {ph : Phase} {os : List Owed} → (i : ℕ) × (e.accepted ≡ suc i) → is_in e m.pdu ≡ true → is_plain m.pdu.kind ≡ true → (ph ≡ RetrReq → ⊥)
      → HandsOver e.handed e.handed_pdus (suc (e.accepted + steps_past_next e m.pdu)) sn ph os e.made f.made (values f)
  plain (i, last) b c never = keeps (same_worth i last (vf.positions.others p m k.there c i (in_place b i last))) (λ r n. never r)

  -- the retransmission response goes back to the last accepted position
  resumed : e.phase ≡ RetrReq → e.owed ≡ [] → m.pdu.kind ≡ RetransmissionResponse → (i : ℕ) → e.accepted ≡ suc i → slice_get (values f) p ≡ slice_get (values f) i
  resumed ph free ki i a =
      let aw = w.awaited ph (ap (owes is_request_owed) free) in
      let is_a : IsAnswer m = ap (is_kind RetransmissionResponse) ki in
      let low = number_take_more (is_kind RetransmissionResponse) f.made t p k.above in
      let next = number_take_at (is_kind RetransmissionResponse) f.made p m k.there is_a in
      let n = answers_in (take p f.made) in
      let idx : n ≡ requests_in (take aw.0 e.made) = omega (arith, number_take_all, low, next, k.mine.asks.open_requests, ap open_bit ph, aw.5, k.theirs.asks.asked, k.theirs.asks.asks_taken) in
      let ask = slice_index_or f.asks n 0 in
      let c : slice_get f.asks n ≡ Some ask = slice_get-get_or f.asks n 0 (omega (arith, number_take_all, next, k.theirs.asks.asked)) in
      let named = k.theirs.asks.answered aw.0 aw.1 aw.2 aw.3 ask (subst (λ j. slice_get f.asks j ≡ Some ask) idx c) in
      let mine = k.mine.accepts.last i a in
      grind (arith, numbered_once)

  h_row : e.owed ≡ [] → (r : TakeRow) → Knows q r e m.pdu → Handed (effect q r e m.pdu) f
  h_row free FirstHeartbeat x = plain (last_place FirstHeartbeat x refl) x.4 (ap is_plain x.2) (λ r. cc (r))
  h_row free InSequence x =
      by_unit (λ e'. Handed e' f) (carries_unit m.pdu.kind) e.accepted _ m.pdu (λ c. hands (last_place InSequence x refl) x.3 c (λ r. cc (r))) (λ c. plain (last_place InSequence x refl) x.3 (grind (arith, x.1, c)) (λ r. cc (r)))
  h_row free ResentInSequence x =
      by_unit (λ e'. Handed e' f) (carries_unit m.pdu.kind) e.accepted _ m.pdu (λ c. hands (last_place ResentInSequence x refl) x.3 c (λ r. cc (x.0, r))) (λ c. absurd (let unit = ap carries_unit x.1 in cc))
  h_row free Resumed x = (let a = last_place Resumed x refl in keeps (same_worth a.0 a.1 (resumed x.0 free x.1 a.0 a.1)) (λ r n. cc (r)))
  h_row free Requested x = plain (last_place Requested x refl) x.3 (ap is_plain x.1) (λ r. (let z = ap is_flowing r in cc))
  h_row free _ x = grind (arith, w, owes-append, vf.positions.zeroth, k.mine.opening.down, k.mine.opening.starting)

  pub handed_take : (is_closed e.phase ≡ false → e.owed ≡ []) → Handed (after_take q e m.pdu) f
  handed_take free = take_by q e m.pdu (λ e'. Handed e' f) w (λ r away x. h_row (free away) r x)

-- What it handed up, unit by unit.

pub hands_up : (e f : EndState) → Handed e f → HandsUp e f
hands_up e f w = grind arith

pub messages_by_content : (body : SafetyBody) → messages_in body ≡ messages_of (content_of body)
unfolding messages_of
messages_by_content body = grind arith

pub hands_up_units : (e f : EndState) → Valued f → Handed e f → HandsUpUnits e f
hands_up_units e f vf w =
    record {
      labels = hands_up e f w;
      -- the i-th PDU handed up carries the messages of the i-th data PDU
      messages = λ i x g.
          let r = w.labels i _ (slice_get-get_or e.handed i 0 (omega (arith, slice_get_within e.handed_pdus i x g, w.as_many))) in
          let same : r.0.pdu ≡ x = (let z : Some r.0.pdu ≡ Some x = sym r.4 ∙ g in cc) in
          let content = (vf.contents.carried _ r.0 r.1 i r.3).1 in
          let d = get_mapped (λ (n : Made). content_of n.pdu.body) (filter (λ (n : Made). is_kind Data n.pdu.kind) f.made) i (content_of r.0.pdu.body) content in
          (d.0, d.1, cc (same, d.2, messages_by_content r.0.pdu.body, messages_by_content d.0.pdu.body));
    }

-- ---- what its PDUs show

-- a CS names a position of f through which at most n units are conveyed
pub record Shows (f : EndState) (n cs : ℕ) : Type 0 where
  pub at : ℕ
  pub units : ℕ
  pub named : SnIs f.made at cs
  pub conveyed : slice_get (values f) at ≡ Some units
  pub most : units ≤ n

-- e: the end whose PDUs show units; f: its peer, which offers them
pub record Shown (e f : EndState) : Type 0 where
  pub shown : (p : ℕ) (m : Made) → slice_get e.made p ≡ Some m → is_kind ConnectionRequest m.pdu.kind ≡ false → (e.accepted ≡ 0) ⊎ Shows f (length e.handed) m.pdu.cs
  -- an end that has accepted nothing and isn't over has made a connection request at most
  pub first_words : e.accepted ≡ 0 → is_closed e.phase ≡ false → (p : ℕ) (m : Made) → slice_get e.made p ≡ Some m → is_kind ConnectionRequest m.pdu.kind ≡ true
  -- the peer is connected, or has offered a unit, only where this end has accepted something
  pub ready_run : is_connected f.phase ≡ true → 0 < e.accepted
  pub ready_offer : 0 < f.offered → 0 < e.accepted

pub shows_grown : (f f' : EndState) (n n' cs : ℕ) → n ≤ n' → Grown f f' → Shows f n cs → Shows f' n' cs
shows_grown f f' n n' cs l g s = record { at = s.at; units = s.units; named = SnIs_more g.made s.named; conveyed = g.kept _ _ s.conveyed; most = omega (arith, s.most) }

-- no position that has this CS as its SN conveys more
pub shown_most : (f : EndState) (n a cs : ℕ) → OnceIn f.made → Valued f → (a ≡ 0 → f.offered ≡ 0) → (a ≡ 0) ⊎ Shows f n cs → (c v : ℕ) → SnIs f.made c cs → slice_get (values f) c ≡ Some v → v ≤ n
shown_most f n a cs h g k l c v m o = grind arith

-- The end makes.

-- once something is accepted, every CS is judged but that of a connection request
pub judged_after : (e : EndState) (k : Kind) (i : ℕ) → e.accepted ≡ suc i → is_kind ConnectionRequest k ≡ false → is_judged e k ≡ true
judged_after e k i a c = grind (arith, nat_tests)

module _ (p : Parameters) (e f : EndState) (x : SafetyPdu) (clock : ℕ) (why : Why) (t : ℕ) (b : MadeBy e x why) (pass : Passed p e x clock why) (h : Held e t f.made) (hd : Handed e f) (w : Shown e f) where
  new_shown : (a : ℕ) → e.accepted ≡ a → is_kind ConnectionRequest x.kind ≡ false → (e.accepted ≡ 0) ⊎ Shows f (length e.handed) x.cs
  new_shown zero a k = inl a
  new_shown (suc i) a k =
      let l = h.accepts.last i a in
      let v = slice_get-get_or (values f) i 0 (omega (arith, slice_get_within f.made i l.m l.there, length-values f.asks f.made)) in
      let cs = (cs_is e x.kind x.cs (judged_after e x.kind i a k) pass.cs).1 in
      inr (record { at = i; units = _; named = record { m = l.m; there = l.there; same = l.same ∙ sym cs }; conveyed = v; most = omega (arith, hd.count, worth_at (values f) e.accepted i _ a v) })

  pub shown_make : Shown (after_make_by (Some b.row) e x clock) f
  shown_make =
      record {
        shown = all_push e.made (new_made b.row e x) w.shown (new_shown e.accepted refl);
        first_words = grind (arith, all_push, changed, nothing_made, h.opening.connected);
        ready_run = w.ready_run;
        ready_offer = w.ready_offer;
      }

-- The peer makes or takes.

shown_peer : (e f f' : EndState) → Grown f f' → Shown e f → (is_connected f'.phase ≡ true → 0 < e.accepted) → (0 < f'.offered → 0 < e.accepted) → Shown e f'
shown_peer e f f' g w run offer = grind (arith, shows_grown, ⊎_map)

pub shown_peer_make : (e f : EndState) (x : SafetyPdu) (clock : ℕ) (why : Why) (b : MadeBy f x why) → Grown f (after_make_by (Some b.row) f x clock) → Shown e f → Shown e (after_make_by (Some b.row) f x clock)
shown_peer_make e f x clock why b grown w = grind (arith, shown_peer)

-- The end itself takes.

-- a take hands up more, if anything
handed_more : (q : Parameters) (e : EndState) (x : SafetyPdu) (r : TakeRow) → length e.handed ≤ length (effect q r e x).handed
handed_more q e x r = grind (arith, length_push)

-- a take accepts more, if anything
accepted_more : (q : Parameters) (e : EndState) (x : SafetyPdu) (t : ℕ) (peer : List Made) → Held e t peer → (r : TakeRow) → Knows q r e x → e.accepted ≤ (effect q r e x).accepted
accepted_more q e x t peer h r g = grind arith

pub shown_take : (q : Parameters) (e f : EndState) (x : SafetyPdu) (t : ℕ) → Held e t f.made → Shown e f → Shown (after_take q e x) f
shown_take q e f x t h w = take_by q e x (λ e'. Shown e' f) w
    (λ r away knows.
    let more = accepted_more q e x t f.made h r knows in
    let back : (i : ℕ) (m : Made) → slice_get (effect q r e x).made i ≡ Some m → slice_get e.made i ≡ Some m = λ i m g. rw (effect_leaves q (Some r) e x).made at g in
    record {
      shown = λ i m g k. ⊎_elim
          (λ (z : e.accepted ≡ 0). absurd (let y = w.first_words z away i m (back i m g) in cc))
          (λ (z : Shows f (length e.handed) m.pdu.cs). inr (shows_grown f f _ _ m.pdu.cs (handed_more q e x r) (same_grown f) z))
          (w.shown i m (back i m g) k);
      first_words = λ a d i m g. w.first_words (omega (arith, more, a)) away i m (back i m g);
      ready_run = λ c. omega (arith, w.ready_run c, more);
      ready_offer = λ l. omega (arith, w.ready_offer l, more);
    })

-- The peer takes a PDU of the end.

module _ (q : Parameters) (e f : EndState) (t : ℕ) (m : Made) (p : ℕ) (h : Held e t f.made) (there : slice_get e.made p ≡ Some m) (grown : Grown f (after_take q f m.pdu)) (w : Shown e f) where
  pub shown_peer_take : Shown e (after_take q f m.pdu)
  shown_peer_take =
      shown_peer e f _ grown w
      (take_by q f m.pdu (λ f'. is_connected f'.phase ≡ true → 0 < e.accepted) w.ready_run (λ r away x. grind (arith, inner q r f m.pdu, h.accepts.named p m there)))
      (λ l. w.ready_offer (omega (arith, (take_leaves q f m.pdu).offered, l)))
