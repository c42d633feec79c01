-- A step of a station keeps the builder's ends with both stations; where it makes a PDU, the builder explains that.
use Rattle.std.proofs.Common.{◌≡◌, ℕ, suc, ◌+◌, ◌^◌, ◌<◌, ◌≤◌, ◌⊎◌, true, List, [], ◌∷◌, ◌++◌, length, Option, Some, refl, ap, sym, ◌∙◌, arith, inl, inr, subst, ⊎_elim}
use Rattle.rasta_build.proofs.Prelude.{option_map, Side, Packet, Parameters, AreParameters, RedundancyPdu, Quiet, Made, EndState, wrapped, start_by, start_of}
use Rattle.rasta_build.proofs.Prelude.{has_ended, after_make, FirstCopy, Station, IsSent, base, base_small, made_more, Taken, Valued, Sends, sends_count, Built, peer_quiet_sn}
use Rattle.rasta_build.proofs.Prelude.{explain, earliest_by, Begins}
use Rattle.std.specs.Prelude.{IfSome}
use Rattle.std.proofs.lemmas.List.{length_push}
use Rattle.rasta_pdu.specs.Params.{IsQuiet, most_clock}
use Rattle.rasta_end.proofs.MakeTests.{no_fault}
use Rattle.rasta_check.specs.Capture.SentLists.{Spells}
use Rattle.rasta_check.specs.Model.World.{Move, Moves, makes, repeats, arrives, takes, waits, other_side}
use Rattle.rasta_check.proofs.Model.TakeRows.{take_made}
use Rattle.rasta_check.proofs.Model.Invariant.{Held}
use Rattle.rasta_check.proofs.Capture.FirstCopies.{sent_first, sent_other, sent_copy}
use Rattle.rasta_build.proofs.Growth.{lag_grows, origin_grows}
use Rattle.rasta_build.proofs.Stations.{Live, Follows, offered_few, follows_take, follows_make}
use Rattle.rasta_build.proofs.SentLists.{found_there, first_there}

-- ---- the start's deadline

low_by : (p : Parameters) (d : Option ℕ) → IfSome d (λ n. n ≤ most_clock) → earliest_by p (option_map (λ n. n + 2 ^ 32) d) ≤ 2 ^ 63
low_by p d h = grind arith

low_quiet : (p : Parameters) (q : Option Quiet) (s : Side) → IfSome q (IsQuiet p.slack) → earliest_by p (start_by q s).deadline ≤ 2 ^ 63
low_quiet p q s h = grind arith

-- ---- both stations

-- the builder's end follows the end of a side from its start
abbrev pub FollowsAt : Parameters → Side → EndState → ℕ → List Made → List FirstCopy → Built → Type 0
FollowsAt p s e taken ms sent b = Follows p (start_of p s).deadline s (peer_quiet_sn p.quiet s) (base p) e taken ms sent b

follows_grows : (p : Parameters) (s : Side) (e : EndState) (taken : ℕ) (ms ys : List Made) (sent : List FirstCopy) (b : Built) → FollowsAt p s e taken ms sent b → FollowsAt p s e taken (ms ++ ys) sent b
follows_grows p s e taken ms ys sent b h = record {
  of_side = h.of_side;
  unopened = h.unopened;
  stage = ⊎_elim (λ (o : has_ended e ≡ true). inl o)
      (λ (l : Live p (start_of p s).deadline s (peer_quiet_sn p.quiet s) (base p) e taken ms sent b). inr (record {
        lag = lag_grows p (start_of p s).deadline s (peer_quiet_sn p.quiet s) ms ys e taken sent b l.lag;
        org = origin_grows p (start_of p s).deadline s (peer_quiet_sn p.quiet s) ms ys e taken b l.org;
        low = l.low;
      }))
      h.stage;
}

-- nothing new was made
pub record Stays (p : Parameters) (s r : Side) (ys : List Packet) (a' b : Station) (own peer big_own big_peer : List FirstCopy) (ba bb : Built) : Type 0 where
  pub sent : IsSent p ys s own
  pub their_sent : IsSent p ys r peer
  pub mine : FollowsAt p s a'.state a'.mark b.state.made big_peer ba
  pub theirs : FollowsAt p r b.state b.mark a'.state.made big_own bb

-- a PDU was made, and is explained
pub record MadeOne (p : Parameters) (s r : Side) (xs ys : List Packet) (a' b : Station) (own peer big_own big_peer : List FirstCopy) (ba bb : Built) : Type 0 where
  pub copy : FirstCopy
  pub place : copy.place ≡ length xs
  pub longer : length ys ≡ suc (length xs)
  pub sent : IsSent p ys s (own ++ copy ∷ [])
  pub their_sent : IsSent p ys r peer
  pub built : Built
  pub explained : explain big_peer copy.place copy.pdu.safety ba ≡ Some built
  pub mine : FollowsAt p s a'.state a'.mark b.state.made big_peer built
  pub theirs : FollowsAt p r b.state b.mark a'.state.made big_own bb

-- what is known of two stations
pub record Stands (p : Parameters) (s r : Side) (xs : List Packet) (a b : Station) (own peer : List FirstCopy) : Type 0 where
  pub sends : Sends p s xs own a.state a.first_number
  pub their_sends : Sends p r xs peer b.state b.first_number
  pub clock : a.state.clock ≤ a.clock
  pub based : base p ≤ a.mark
  pub held : Held a.state a.mark b.state.made
  pub their_held : Held b.state b.mark a.state.made
  pub values : Valued a.state
  pub few : length a.state.made ≤ 1000001
  pub their_few : length b.state.made ≤ 1000001

pub moved : (p : Parameters) (s r : Side) (xs ys : List Packet) (a a' b : Station) (own peer big_own big_peer : List FirstCopy) (ba bb : Built) → AreParameters p → r ≡ other_side s → (s ≡ r → ⊥) → {move : Move} → Moves p b xs a move a' ys
    → Stands p s r xs a b own peer → length a'.state.made ≤ 1000001 → Valued a'.state → a'.state.clock < 2 ^ 64 → Begins big_peer peer (length xs)
    → FollowsAt p s a.state a.mark b.state.made big_peer ba → FollowsAt p r b.state b.mark a.state.made big_own bb
    → Stays p s r ys a' b own peer big_own big_peer ba bb ⊎ MadeOne p s r xs ys a' b own peer big_own big_peer ba bb
moved p s r xs ys a a' b own peer big_own big_peer ba bb valid turned apart (makes x why after channel reserve check bytes mk sp rec) h few' values' bounded begun fa fb =
    let e : EndState = a.state in
    let g = h.sends in
    let pdu : RedundancyPdu = record { number = wrapped (a.first_number + length e.made); reserve = reserve; safety = x; check_bytes = check } in
    let packet : Packet = record { channel = channel; side = e.side; payload = bytes } in
    let copy : FirstCopy = record { place = length xs; pdu = pdu } in
    let sc = sends_count p s xs own e a.first_number g in
    let sent = sent_first p xs packet s own pdu (a.first_number + base p) g.sent g.numbers g.side (subst (λ (z : Side). Spells p z pdu bytes) g.side sp) (ap (λ n. wrapped n) (let q : a.first_number + length e.made ≡ a.first_number + base p + length own = omega (arith, sc) in q)) in
    let mm = made_more p e x a.clock why after mk in
    let now = mm.now in
    let lim = valid.limits in
    let back : after ≡ after_make e x a.clock why = mk.1 in
    let v' : Valued (after_make e x a.clock why) = subst (λ (z : EndState). Valued z) back values' in
    let l' : length (after_make e x a.clock why).made ≤ 1000001 = subst (λ (z : EndState). length z.made ≤ 1000001) back few' in
    let th = h.their_held in
    let copies = found_there p s r xs peer big_peer b.state b.first_number h.their_sends begun in
    let f = follows_make p (start_of p s).deadline s (peer_quiet_sn p.quiet s) (base p) e a.mark b.state.made a.clock x why (no_fault p e x a.clock why mk.0) (omega (arith, now, bounded)) lim.waits_most refl (low_quiet p p.quiet s valid.quiet)
    h.held th.list.numbered h.their_few (offered_few e h.values h.few) (offered_few (after_make e x a.clock why) v' l') big_peer ba (length xs) (length xs) copies (omega arith) (base_small p.quiet)
    (λ l. first_there p s r xs peer big_peer b.state b.first_number turned h.their_sends begun l) fa in
    inr (record {
      copy = copy;
      place = refl;
      longer = (let z = length_push xs packet in omega (arith, z));
      sent = sent.0;
      their_sent = sent_other p xs packet r peer h.their_sends.sent (λ z. apart (sym g.side ∙ z));
      built = f.0;
      explained = f.1;
      mine = subst (λ (z : EndState). FollowsAt p s z a.mark b.state.made big_peer f.0) (sym back) f.2;
      theirs = subst (λ (ms : List Made). FollowsAt p r b.state b.mark ms big_own bb) (sym mm.made) (follows_grows p r b.state b.mark e.made (mm.new ∷ []) big_own bb fb);
    })
moved p s r xs ys a a' b own peer big_own big_peer ba bb valid turned apart (repeats place channel old at sd rec) h few' values' bounded begun fa fb =
    let k : Packet = record old { channel = channel } in
    let g = h.sends in
    inl (record {
      sent = sent_copy p xs k s own place old g.sent at (sd ∙ g.side) refl;
      their_sent = sent_other p xs k r peer h.their_sends.sent (λ z. apart (sym (sd ∙ g.side) ∙ z));
      mine = fa;
      theirs = fb;
    })
moved p s r xs ys a a' b own peer big_own big_peer ba bb valid turned apart (arrives position low i) h few' values' bounded begun fa fb = inl (record { sent = h.sends.sent; their_sent = h.their_sends.sent; mine = fa; theirs = fb })
moved p s r xs ys a a' b own peer big_own big_peer ba bb valid turned apart (takes position m after c above there tk) h few' values' bounded begun fa fb =
    let copies = found_there p s r xs peer big_peer b.state b.first_number h.their_sends begun in
    let k : Taken a.state b.state a.mark b.mark m position = record { mine = h.held; theirs = h.their_held; there = there; above = above; few = omega (arith, h.few); few_theirs = omega (arith, h.their_few) } in
    let f = follows_take p (start_of p s).deadline s (peer_quiet_sn p.quiet s) (base p) a.state b.state a.mark b.mark m position k a.clock h.clock tk.0 h.values big_peer ba (length xs) copies (let z = h.based in omega (arith, z, above)) fa in
    let same : a.state.made ≡ after.made = sym (take_made p a.state m.pdu) ∙ ap (λ (z : EndState). z.made) (sym tk.1) in
    inl (record {
      sent = h.sends.sent;
      their_sent = h.their_sends.sent;
      mine = subst (λ (z : EndState). FollowsAt p s z (suc position) b.state.made big_peer ba) (sym tk.1) f;
      theirs = subst (λ (ms : List Made). FollowsAt p r b.state b.mark ms big_own bb) same fb;
    })
moved p s r xs ys a a' b own peer big_own big_peer ba bb valid turned apart (waits clock i) h few' values' bounded begun fa fb = inl (record { sent = h.sends.sent; their_sent = h.their_sends.sent; mine = fa; theirs = fb })
