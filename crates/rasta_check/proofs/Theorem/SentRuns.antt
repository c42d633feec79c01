-- What is known of a run that sends two given lists: a first copy crosses as its PDU is made, and what the lists show to be taken was
-- handed up, and in time.
use Rattle.std.proofs.Common.{◌≡◌, ◌⊎◌, ℕ, suc, ◌+◌, ◌<◌, ◌≤◌, Bool, true, false, List, [], ◌∷◌, ◌++◌, length, Some, slice_get, refl, ap, sym, ◌∙◌, arith, subst}
use Rattle.std.proofs.Math.Logic.{⊎_map}
use Rattle.rasta_check.proofs.Prelude.{is_some, not, slice_get_within, ◌&&◌, ◌||◌, Side, Packet, Parameters, AreParameters, Phase, ConnectionRequest, is_kind, SafetyPdu, Made, EndState, is_closed}
use Rattle.rasta_check.proofs.Prelude.{start_of, FirstCopy, World, station_of, end_of, other_side, Reaches, Client, Server, KeepsLimit, KeepsRange, NamesOne, pdus_made, pdus_of, all_made, units_along, units_shown}
use Rattle.rasta_check.proofs.Prelude.{units_taken, TakenUnit, surely_taken, Appends, HandsUpUnits, units_handed, units_listed, slice_get_some}
use Rattle.rasta_end.specs.State.{is_client}
use Rattle.rasta_check.specs.Model.Theorem.{HasHandedUp, IsMade}
use Rattle.rasta_check.proofs.Capture.FaultlessLists.{IsSent}
use Rattle.rasta_check.proofs.Capture.FirstCopies.{sent_once}
use Rattle.rasta_check.proofs.Capture.ListForms.{of_record}
use Rattle.rasta_check.proofs.Model.Steps.{base, start_base, Grown}
use Rattle.rasta_check.proofs.Model.NamedPositions.{numbered_once}
use Rattle.rasta_check.proofs.Model.ConveyedUnits.{values}
use Rattle.rasta_check.proofs.Model.HandedUnits.{hands_up_units, handed_peer, Shows, Shown, shows_grown, shown_most}
use Rattle.rasta_check.proofs.Model.History.{After, Stepped, history, stepped, joined, appended, made_at}
use Rattle.rasta_check.proofs.Model.InvariantOfRuns.{All, all_held, few_made}
use Rattle.rasta_check.proofs.Theorem.ShowingPdus.{necessary, shows_most}
use Rattle.rasta_check.proofs.Theorem.ListedUnits.{proof_by, unit_handed, listed_below, listed_first}
use Rattle.rasta_check.proofs.Script.ScriptsOfRuns.{Sends, sends_count, told_by, told_of}

-- of the last world of a run, where these are the sent lists of a side and of its peer
pub record Known (p : Parameters) (w : World) (side : Side) (own peer : List FirstCopy) : Type 0 where
  pub within : KeepsRange p w
  pub all : All (station_of w side) (station_of w (other_side side))
  pub few : length (end_of w side).made ≤ 2147483648
  pub sends : Sends p side w.crossed own (end_of w side) (station_of w side).first_number
  pub their_sends : Sends p (other_side side) w.crossed peer (end_of w (other_side side)) (station_of w (other_side side)).first_number
  pub once : NamesOne (end_of w side) (end_of w (other_side side))
  pub along : units_along (all_made p side own) (pdus_of peer) ≡ values (end_of w side)
  pub taken : units_taken (all_made p side own) (pdus_of peer) ≤ length (end_of w (other_side side)).handed

-- an end has made as many PDUs as it had at the start and as its list has
pub made_count : (p : Parameters) (s : Side) (xs : List Packet) (own : List FirstCopy) (e : EndState) (n : ℕ) → Sends p s xs own e n → length e.made ≡ (start_of p s).base + length own
made_count p s xs own e n h = omega (arith, sends_count p s xs own e n h, start_base p.quiet s)

-- ---- what an end shows

made_over : (s : Side) (ph : Phase) (ms : List Made) (i : ℕ) (m : Made) → slice_get ms i ≡ Some m → is_closed ph ≡ true → (is_closed ph && (not (is_client s) || is_some (slice_get ms 0))) ≡ true
made_over s ph [] i m g h = absurd (cc)
made_over s ph (x ∷ ms) i m g h = grind arith

-- e0 and f0 in the world after the make, e and f at the end
module _ (e0 f0 e f : EndState) (w0 : Shown e0 f0) (w : Shown e f) (ge : Grown e0 e) (gf : Grown f0 f)
    (q : ℕ) (m : Made) (there : slice_get e0.made q ≡ Some m) where
  unheard : is_kind ConnectionRequest m.pdu.kind ≡ false → e0.accepted ≡ 0 → (b : Bool) → is_closed e0.phase ≡ b → f.offered ≡ 0
  unheard k a closed c = grind (arith, made_over)

  -- f offered nothing, or e0's PDU names a position of it
  shown_at : is_kind ConnectionRequest m.pdu.kind ≡ false → (f.offered ≡ 0) ⊎ Shows f (length e0.handed) m.pdu.cs
  shown_at k =
      ⊎_map (λ (a : e0.accepted ≡ 0). unheard k a (is_closed e0.phase) refl) (shows_grown f0 f (length e0.handed) (length e0.handed) m.pdu.cs (omega arith) gf) (w0.shown q m there k)

-- ---- the run

module _ (p : Parameters) (ws : List World) (w : World) (side : Side) (own peer : List FirstCopy) (r : Reaches p ws w) (mine : IsSent p w.crossed side own) (theirs : IsSent p w.crossed (other_side side) peer)
    (few : length own ≤ 2147483647) (few_theirs : length peer ≤ 2147483647) where
  abbrev e : EndState
  e = end_of w side

  abbrev f : EndState
  f = end_of w (other_side side)

  pub known : Known p w side own peer
  known =
      let g = told_of p ws w side own peer r mine theirs few few_theirs in
      let sends = rw g.1 at g.0.sends in
      let their_sends = rw g.2 at g.0.their_sends in
      let within : KeepsRange p w = grind (arith, made_count p side _ own e _ sends, made_count p (other_side side) _ peer f _ their_sends) in
      let all = all_held p ws w side r within in
      let once = numbered_once e.made (few_made p w within side) all.mine.held.list.numbered in
      let shown = rw sends.same at (necessary e f (station_of w side).mark (station_of w (other_side side)).mark all.mine.held all.theirs.held all.mine.values once
      (pdus_made (start_of p (other_side side)).made) (pdus_of peer) their_sends.same (grind arith) all.theirs.shown) in
      record {
        within = within;
        all = all;
        few = few_made p w within side;
        sends = sends;
        their_sends = their_sends;
        once = once;
        along = shown.0;
        taken = shown.1;
      }

  -- each earlier world of the run
  before : (i : ℕ) (v : World) → slice_get (ws ++ w ∷ []) i ≡ Some v → After p v w side own peer
  before i v g =
      let h = history p mine.valid ws w side r known.within in
      let same : h.0.own ≡ own = sym (sent_once p w.crossed side own h.0.own mine h.0.sends.sent (omega arith)) in
      let their_same : h.0.peer ≡ peer = sym (sent_once p w.crossed (other_side side) peer h.0.peer theirs h.0.their_sends.sent (omega arith)) in
      rw (same, their_same) at (h.1 i v g)

  -- the step by which a packet is appended
  appending : (place : ℕ) (v next : World) → Appends ws w place v next → Stepped v next
  appending place v next a = stepped p v next (joined p ws w r a.i v next a.here a.there)

  -- the j-th copy crosses as the j-th PDU is made
  made_then : (j : ℕ) (d : FirstCopy) (v next : World) (a : Appends ws w d.place v next) → slice_get own j ≡ Some d
      → (length (end_of v side).made ≡ (start_of p side).base + j) × (length (end_of next side).made ≡ suc ((start_of p side).base + j))
  made_then j d v next a there =
      let b = before (suc a.i) next a.there in
      let b0 = before a.i v a.here in
      let most = ((appending d.place v next a).ends side).most in
      let before_is = made_count p side v.crossed b0.told.own (end_of v side) _ b0.told.sends in
      let after_is = made_count p side next.crossed b.told.own (end_of next side) _ b.told.sends in
      let low = slice_get_within b.told.own j d (b.mine.kept j d there (let y = a.after in omega arith)) in
      let old : j < length b0.told.own → ⊥ =
      λ z.
      let c = slice_get_some b0.told.own j z in
      let k = b0.told.sends.sent.firsts j c.0 c.1 in
      let same : c.0 ≡ d = (let l = b0.mine.listed j c.0 c.1 in cc) in
      omega (arith, ap (λ (x : FirstCopy). x.place) same, slice_get_within v.crossed c.0.place k.0 k.1, a.before) in
      (omega (arith, old, most, before_is, after_is, low), omega (arith, old, most, before_is, after_is, low))

  -- the position that a PDU of the peer names: what is conveyed through it had been handed up in each world to which a packet is appended
  -- that is no earlier than its first copy
  pub shown_then : (j : ℕ) (d : FirstCopy) (place : ℕ) (v next : World) → Appends ws w place v next → d.place ≤ place → slice_get peer j ≡ Some d
      → is_kind ConnectionRequest d.pdu.safety.kind ≡ false → (e.offered ≡ 0) ⊎ Shows e (length (end_of v (other_side side)).handed) d.pdu.safety.cs
  shown_then j d place v next a low there k =
      let e0 = end_of next (other_side side) in
      let b = before (suc a.i) next a.there in
      let all = all_held p b.us next side b.reached b.few in
      let crossing : length next.crossed ≡ suc (length v.crossed) = (let x = a.before in let y = a.after in omega arith) in
      let g = b.theirs.kept j d there (let y = a.after in omega (arith, low)) in
      let m = made_at p (other_side side) next.crossed b.told.peer e0 _ j d b.told.their_sends g in
      let s = shown_at e0 (end_of next side) f e all.theirs.shown known.all.theirs.shown (b.grown (other_side side)) (b.grown side) (base p + j) m.0 m.1
      (ap (λ (x : SafetyPdu). is_kind ConnectionRequest x.kind) m.2 ∙ k) in
      let h = ap length (((appending place v next a).ends (other_side side)).same crossing).positions in
      subst (λ (n : ℕ). (e.offered ≡ 0) ⊎ Shows e n d.pdu.safety.cs) h (subst (λ (x : SafetyPdu). (e.offered ≡ 0) ⊎ Shows e (length e0.handed) x.cs) m.2 s)

  -- what a PDU of the peer shows had been handed up in the world to which its packet is appended
  timed : (j : ℕ) (d : FirstCopy) (v next : World) → Appends ws w d.place v next → slice_get peer j ≡ Some d
      → units_shown (all_made p side own) (pdus_of peer) d.pdu.safety ≤ length (end_of v (other_side side)).handed
  timed j d v next a there =
      let n = length (end_of v (other_side side)).handed in
      shows_most e (all_made p side own) (pdus_of peer) known.sends.same known.along n d.pdu.safety
      (λ k. shown_most e n e.offered d.pdu.safety.cs known.once known.all.mine.values (λ z. z) (shown_then j d d.place v next a (omega arith) there k))

  -- what the other side had taken in an earlier world
  pub handed_then : (i : ℕ) (v : World) → slice_get (ws ++ w ∷ []) i ≡ Some v → HandsUpUnits (end_of v (other_side side)) e
  handed_then i v g =
      let y = end_of v (other_side side) in
      let b = before i v g in
      let all = all_held p b.us v side b.reached b.few in
      hands_up_units y e known.all.mine.values
      (handed_peer y (end_of v side) e (let z = all.theirs.held.accepts in omega (arith, z.reached, z.within)) (b.grown side) all.theirs.handed)

  -- what it took
  pub hands_up : HandsUpUnits f e
  hands_up = hands_up_units f e known.all.mine.values known.all.theirs.handed

  pub first : (rest : List (List (List ℕ))) × (units_handed f ≡ units_listed (surely_taken p side own peer) ++ rest)
  first = listed_first p side f e own peer known.sends.same hands_up known.taken

  -- the packet at the proof place of a unit is appended to a world of the run
  pub proof_appended : (i : ℕ) (u : TakenUnit) → slice_get (surely_taken p side own peer) i ≡ Some u → (v next : World) × Appends ws w u.proof_place v next
  proof_appended i u g =
      let below = listed_below p side f e own peer known.sends.same hands_up i u g in
      let shown = proof_by (all_made p side own) (pdus_of peer) i 0 peer (omega arith) below.0 in
      let q = theirs.firsts shown.j shown.d shown.there in
      appended p ws w r u.proof_place (omega (arith, slice_get_within w.crossed shown.d.place q.0 q.1, below.1 ∙ shown.place))

  -- with a unit those before it were handed up
  pub in_time_through : (i j : ℕ) (u t : TakenUnit) (v next : World) → j ≤ i → slice_get (surely_taken p side own peer) i ≡ Some u → slice_get (surely_taken p side own peer) j ≡ Some t
      → Appends ws w u.proof_place v next → HasHandedUp (end_of v (other_side side)) j t.messages
  in_time_through i j u t v next low g gt a =
      let y = end_of v (other_side side) in
      let below = listed_below p side f e own peer known.sends.same hands_up i u g in
      let shown = proof_by (all_made p side own) (pdus_of peer) i 0 peer (omega arith) below.0 in
      let z = timed shown.j shown.d v next (rw (below.1 ∙ shown.place) at a) shown.there in
      unit_handed p side y e own peer known.sends.same (handed_then a.i v a.here) j t (omega (arith, z, shown.more, low)) gt

-- a run with sent lists within the limits is within them
pub keeps_limit : (p : Parameters) (ws : List World) (w : World) (c s : List FirstCopy) → Reaches p ws w → IsSent p w.crossed Client c → IsSent p w.crossed Server s
    → length c ≤ 1000000 → length s ≤ 1000000 → KeepsLimit p w
keeps_limit p ws w c s r hc hs lc ls =
    let k = known p ws w Client c s r hc hs (omega (arith, lc)) (omega (arith, ls)) in
    grind (arith, lc, ls, made_count p Client _ c _ _ k.sends, made_count p Server _ s _ _ k.their_sends)

-- the sent list of a side in a run
pub made_list : (p : Parameters) → AreParameters p → (ws : List World) (w : World) (side : Side) → Reaches p ws w → KeepsRange p w → (sent : List FirstCopy) × IsMade p ws w side sent
made_list p valid ws w side r within =
    let g = told_by p valid ws w side r in
    let few : length g.own ≤ 2147483647 = omega (arith, made_count p side _ _ _ _ g.sends, within side) in
    let few_theirs : length g.peer ≤ 2147483647 = omega (arith, made_count p (other_side side) _ _ _ _ g.their_sends, within (other_side side)) in (
      g.own,
      record {
        list = of_record p w.crossed side g.own g.sends.sent (omega arith);
        made = g.sends.same;
        there = λ j d v next x a. made_then p ws w side g.own g.peer r g.sends.sent g.their_sends.sent few few_theirs j d v next a x;
      },
    )
