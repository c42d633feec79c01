-- What a pass has explained, its two scripts lead to.
use Rattle.std.proofs.Common.{◌≡◌, ℕ, zero, suc, ◌+◌, ◌-◌, ◌^◌, ◌<◌, ◌≤◌, Bool, true, false, List, [], ◌∷◌, ◌++◌, length, Option, Some, None, Result, Ok, Err, slice_get, refl, ap, sym, ◌∙◌, arith, subst, ⊎_elim}
use Rattle.rasta_build.proofs.Prelude.{nat_lt, nat_le, if◌then◌else◌, ◌&&◌, ◌||◌, not, ◌==◌, option_map, nat_tests, slice_get_within, Side, Client, Server, too_early_timeout}
use Rattle.rasta_build.proofs.Prelude.{Parameters, SafetyPdu, Quiet, Kind, Why, Bye, Expired}
use Rattle.rasta_build.proofs.Prelude.{TakeRow, EndState, ahead_by, is_owing, start_of, start_by, make_fault, after_make, effect}
use Rattle.rasta_build.proofs.Prelude.{effect_by, after_take, take_row, no_test, FirstCopy, base, base_by, base_small, Built, peer_quiet_sn, copy_at, is_before}
use Rattle.rasta_build.proofs.Prelude.{wants_trigger, first_of, clock_of}
use Rattle.rasta_cert.specs.Certificate.{IsReason, IsEntry, AreEntries}
use Rattle.rasta_cert.specs.declared.entry.Entry.{Entry}
use Rattle.rasta_cert.specs.declared.entry.Entry.TheVariants.{Take, Make}
use Rattle.rasta_end.specs.declared.why.Why.TheVariants.{Again}
use Rattle.rasta_check.specs.Script.Following.{ScriptCursor, Advances, takes_next, makes_next, Leads, at_start}
use Rattle.rasta_check.proofs.Model.Steps.{start_base}
use Rattle.rasta_build.specs.Proposing
use Rattle.rasta_check.proofs.Script.ScriptsOfRuns.{leads_more}
use Rattle.rasta_build.specs.Choices.{has_to_take, why_by, why_beating, next_unit, in_32_bits, position_named}
use Rattle.rasta_build.specs.Explaining
use Rattle.rasta_build.proofs.Comparisons.{less_is, not_less}
use Rattle.rasta_build.proofs.Keeping.{trigger_next}
use Rattle.rasta_build.proofs.Succeeding.{kept, if_then, if_else, either, both, went_on, crossed, Took, took, accepted, tried}

-- the script leads from the start to the builder's end, which has made so many PDUs; the next entry may stand after this many packets
pub record IsRead (p : Parameters) (side : Side) (n : ℕ) (own peer : List FirstCopy) (k level : ℕ) (b : Built) : Type 0 where
  pub at : ScriptCursor
  pub leads : Leads p n own peer (at_start (start_of p side)) b.script at
  pub made : at.made_count ≡ k
  pub taken : b.next_take ≡ base p + at.passed
  pub low : at.level ≤ level
  pub state : at.state ≡ b.end.state
  pub params : b.end.params ≡ p
  pub quiet : b.peer.quiet_sn ≡ peer_quiet_sn p.quiet side
  pub entries : AreEntries b.script
  pub accepted : b.end.state.accepted ≤ b.next_take

-- ---- positions

not_zero : (i : ℕ) → (i == 0) ≡ false → 1 ≤ i
not_zero i h = grind (arith, nat_tests)

member_there : (q : Option Quiet) (s : Side) (i : ℕ) (big : List FirstCopy) (c : FirstCopy) → copy_at (peer_quiet_sn q s) big i ≡ Some c → (base_by q ≤ i) × (slice_get big (i - base_by q) ≡ Some c)
member_there q s i big c h = grind arith

-- a make accepts nothing
made_accepted : (e : EndState) (x : SafetyPdu) (clock : ℕ) (why : Why) → (after_make e x clock why).accepted ≡ e.accepted
made_accepted e x clock why = grind arith

-- ---- entries

entries_push : (es : List Entry) (x : Entry) → AreEntries es → IsEntry x → AreEntries (es ++ x ∷ [])
entries_push [] x h e = (e, tt)
entries_push (y ∷ es) x h e = (h.0, entries_push es x h.1 e)

clock_bound : (m ts k : ℕ) → clock_of m ts ≡ Some k → k < 2 ^ 64
clock_bound m ts k h = (let w = if_then (nat_lt (m + ahead_by ts m) (2 ^ 64)) _ k h in kept (λ (z : ℕ). z < 2 ^ 64) w.1 (less_is _ _ w.0))

unit_bound : (u v : ℕ) → in_32_bits u ≡ Some v → v < 2 ^ 32
unit_bound u v h = (let w = if_then (nat_lt u (2 ^ 32)) _ v h in kept (λ (z : ℕ). z < 2 ^ 32) w.1 (less_is _ _ w.0))

next_bound : (offered owed trail v : ℕ) → next_unit offered owed trail ≡ Some v → v < 2 ^ 32
next_bound offered owed trail v h = unit_bound _ v (if_then (nat_le trail owed && nat_le (owed - trail) offered) _ v h).1

again_bound : (o : Option ℕ) (w : Why) → option_map Again o ≡ Some w → ((v : ℕ) → o ≡ Some v → v < 2 ^ 32) → IsReason w
again_bound o w h g = grind arith

beating_bound : (o : Bool) (w : Why) → Some (why_beating o) ≡ Some w → IsReason w
beating_bound o w h = grind arith

ended_bound : (o : Bool) (w : Why) → Some (if o then Expired else Bye) ≡ Some w → IsReason w
ended_bound o w h = grind arith

why_bound : (k : Kind) (e : EndState) (trail : ℕ) (x : SafetyPdu) (w : Why) → why_by k e trail x ≡ Some w → IsReason w
why_bound k e trail x w h = grind arith

module _ (p : Parameters) (side : Side) (n : ℕ) (own peer : List FirstCopy) (few : length peer ≤ 1000000) (k slot : ℕ) (inside : slot ≤ n) (small : n < 2 ^ 32)
    (numbers : (i : ℕ) (a : FirstCopy) → slice_get peer i ≡ Some a → a.pdu.number < 2 ^ 32) where
  abbrev Read : Built → Type 0
  Read b = IsRead p side n own peer k slot b

  -- a take that is found
  take_read : (q : ℕ) (c : FirstCopy) (b b' : Built) → Read b → copy_at b.peer.quiet_sn peer q ≡ Some c → c.place < slot → (b.next_take ≤ q → b'.end.state.accepted ≤ suc q) → Explaining.take_step slot q c.pdu b ≡ Some b' → Read b'
  take_read q c b b' r there front most h = (let w = took slot q c.pdu b b' h in subst Read w.after (by w w.row w.is (rw w.after most)))
    where
      by : Took slot q c.pdu b b' → (o : Option TakeRow) → take_row b.end.params b.end.state c.pdu.safety ≡ o → (b.next_take ≤ q → (Explaining.taken_by o slot q c.pdu b).end.state.accepted ≤ suc q) → Read (Explaining.taken_by o slot q c.pdu b)
      by w None is most = r
      by w (Some row) is most =
          let m = member_there p.quiet side q peer c (rw r.quiet at there) in
          let l = slice_get_within peer (q - base p) c m.1 in
          let above = not_less q b.next_take w.late in
          let bs = base_small p.quiet in
          let after : EndState = effect b.end.params row b.end.state c.pdu.safety in
          let eff : after ≡ after_take p r.at.state c.pdu.safety = rw (r.state, sym r.params) (ap (λ (o : Option TakeRow). effect_by b.end.params o b.end.state c.pdu.safety) (sym is)) in
          let next : ScriptCursor = record { level = slot; made_count = r.at.made_count; passed = suc (q - base p); state = after } in
          let step : Advances p n own peer r.at (Take slot c.pdu.number) next = takes_next slot (q - base p) c after r.low inside m.1 front (omega (arith, r.taken, above, m.0)) (rw (r.state, sym r.params) w.allowed, eff) in
          record {
            at = next;
            leads = leads_more p n own peer _ r.at _ b.script _ r.leads step;
            made = r.made;
            taken = omega (arith, l, few, m.0, bs);
            low = omega arith;
            state = refl;
            params = r.params;
            quiet = r.quiet;
            entries = entries_push b.script (Take slot c.pdu.number) r.entries (omega (arith, small, inside), numbers (q - base p) c m.1);
            accepted = omega (arith, l, few, m.0, bs, most above);
          }

  -- the copy at a position is that by the quiet point
  there_by : (b : Built) → Read b → (q : ℕ) (c : FirstCopy) → copy_at b.peer.quiet_sn peer q ≡ Some c → copy_at (peer_quiet_sn p.quiet side) peer q ≡ Some c
  there_by b r q c g = rw r.quiet at g

  -- acceptance
  accept_read : (q : ℕ) (b b' : Built) → Read b → ((c : FirstCopy) → copy_at (peer_quiet_sn p.quiet side) peer q ≡ Some c → c.place < slot) → Explaining.accept_step peer slot q b ≡ Some b' → Read b'
  accept_read q b b' r front h = (let a = accepted peer slot q b b' h in take_read q a.copy b b' r a.there (front a.copy (there_by b r q a.copy a.there)) (λ low. omega (arith, a.last)) a.taken)

  accepts_read : (first m : ℕ) (b b' : Built) → Read b → ((j : ℕ) (c : FirstCopy) → first ≤ j → j < first + m → copy_at (peer_quiet_sn p.quiet side) peer j ≡ Some c → c.place < slot) → Explaining.accept_from peer slot first m b ≡ Some b' → Read b'
  accepts_read first zero b b' r front h = kept Read h r
  accepts_read first (suc m) b b' r front h =
      let w = both (Explaining.accept_from peer slot first m b) _ b' h in
      accept_read (first + m) w.0 b' (accepts_read first m b w.0 r (λ j c lo l g. front j c lo (omega (arith, l)) g) w.1) (λ c g. front (first + m) c (omega arith) (omega arith) g) w.2

  -- the scan
  try_read : (made : Kind) (q : ℕ) (b b' : Built) → Read b → Explaining.try_step peer slot made q b ≡ Some b' → Read b'
  try_read made q b b' r h =
      let t = tried peer slot made q b b' h in
      ⊎_elim (λ (same : b ≡ b'). subst Read same r)
      (λ w. take_read q t.copy b b' r t.there t.crossed (λ low. omega (arith, low, trigger_next made slot q t.copy.pdu b b' w.0 w.1, r.accepted)) w.1) t.taken

  scan_read : (made : Kind) (m first : ℕ) (b b' : Built) → Read b → Explaining.scan peer slot made first m b ≡ Some b' → Read b'
  scan_read made zero first b b' r h = absurd (cc)
  scan_read made (suc m) first b b' r h =
      let w = went_on (Explaining.scan peer slot made (suc first) m) (Explaining.try_step peer slot made first b) b' h in
      let s = try_read made first b w.0 r w.1 in
      ⊎_elim (λ (same : w.0 ≡ b'). subst Read same s) (λ on. scan_read made m (suc first) w.0 b' s on) w.2

  trigger_read : (made : Kind) (b b' : Built) → Read b → Explaining.take_trigger peer slot made b ≡ Some b' → Read b'
  trigger_read made b b' r h = ⊎_elim (λ (e : Some b ≡ Some b'). kept Read e r) (λ e. scan_read made _ _ b b' r e) (either (is_owing b.end.state.owed || not (wants_trigger made)) (Some b) _ b' h)

  -- acceptance through a position that crossed
  module _ (rises : (i j : ℕ) (a b : FirstCopy) → slice_get peer i ≡ Some a → slice_get peer j ≡ Some b → i ≤ j → a.place ≤ b.place) where
    up_to : (last : ℕ) (cl : FirstCopy) → copy_at (peer_quiet_sn p.quiet side) peer last ≡ Some cl → cl.place < slot → (j : ℕ) (c : FirstCopy) → j ≤ last → copy_at (peer_quiet_sn p.quiet side) peer j ≡ Some c → c.place < slot
    up_to last cl h g j c k l = grind arith

    range_read : (last : ℕ) (b b' : Built) → Read b → ((j : ℕ) (c : FirstCopy) → j ≤ last → copy_at (peer_quiet_sn p.quiet side) peer j ≡ Some c → c.place < slot) → (o : Option ℕ) → Explaining.accept_range peer slot (suc last) b o ≡ Some b' → Read b'
    range_read last b b' r front None h = absurd (cc)
    range_read last b b' r front (Some first) h = accepts_read first (suc last - first) b b' r (λ j c lo l g. front j c (omega (arith, lo, l)) g) h

    caught_read : (last : ℕ) (b b' : Built) → Read b → ((j : ℕ) (c : FirstCopy) → j ≤ last → copy_at (peer_quiet_sn p.quiet side) peer j ≡ Some c → c.place < slot) → Explaining.catch_up peer slot (suc last) b ≡ Some b' → Read b'
    caught_read last b b' r front h = ⊎_elim (λ (e : Some b ≡ Some b'). kept Read e r) (λ e. range_read last b b' r front _ e) (either (suc last == b.end.state.accepted) (Some b) _ b' h)

    through_read : (b b' : Built) → Read b → (o : Option ℕ) → Explaining.accept_through peer slot b o ≡ Some b' → Read b'
    through_read b b' r None h = absurd (cc)
    through_read b b' r (Some last) h =
        ⊎_elim (λ (e : Some b ≡ Some b'). kept Read e r)
        (λ e.
        (let w = if_else (nat_lt (suc last) b.end.state.accepted || not (is_before (copy_at b.peer.quiet_sn peer last) slot)) _ b' e in
        let c = crossed (nat_lt (suc last) b.end.state.accepted) (copy_at b.peer.quiet_sn peer last) slot w.0 in
        caught_read last b b' r (up_to last c.0 (there_by b r last c.0 c.1) c.2) w.1))
        (either (suc last == b.end.state.accepted) (Some b) _ b' h)

    takes_read : (t : Bool) (x : SafetyPdu) (b b' : Built) → Read b → Explaining.take_step_by t peer slot x b ≡ Some b' → Read b'
    takes_read false x b b' r h = kept Read h r
    takes_read true x b b' r h = (let w = both (Explaining.accept_through peer slot b (position_named b.peer.quiet_sn peer x.cs)) _ b' h in trigger_read x.kind w.0 b' (through_read b w.0 r _ w.1) w.2)

  -- the make of the next own PDU
  module _ (c : FirstCopy) (next : slice_get own k ≡ Some c) (here : c.place ≡ slot) where
    abbrev Next : Built → Type 0
    Next b = IsRead p side n own peer (suc k) (suc slot) b

    made_read : (why : Why) (clock : ℕ) (b : Built) → Read b → clock < 2 ^ 64 → IsReason why → make_fault b.end.params b.end.state c.pdu.safety clock why ≡ None → Next (Explaining.made_at slot c.pdu.safety why clock b)
    made_read why clock b r cb wb ok =
        let after : EndState = after_make b.end.state c.pdu.safety clock why in
        let ok' : make_fault p r.at.state c.pdu.safety clock why ≡ None = rw (r.state, sym r.params) ok in
        let eff : after ≡ after_make r.at.state c.pdu.safety clock why = rw r.state refl in
        let step : Advances p n own peer r.at (Make c.place clock why) (record { level = suc c.place; made_count = suc r.at.made_count; passed = r.at.passed; state = after }) =
        makes_next c clock why after (omega (arith, r.low, here)) (ap (slice_get own) r.made ∙ next) (no_test p r.at.state c.pdu.safety clock why ok', eff) in
        record {
          at = record { level = suc c.place; made_count = suc r.at.made_count; passed = r.at.passed; state = after };
          leads = subst (λ (pl : ℕ). Leads p n own peer (at_start (start_of p side)) (b.script ++ Make pl clock why ∷ []) (record { level = suc c.place; made_count = suc r.at.made_count; passed = r.at.passed; state = after })) here
              (leads_more p n own peer _ r.at _ b.script _ r.leads step);
          made = ap suc r.made;
          taken = r.taken;
          low = omega (arith, here);
          state = refl;
          params = r.params;
          quiet = r.quiet;
          entries = entries_push b.script (Make slot clock why) r.entries (omega (arith, small, inside), cb, wb);
          accepted = omega (arith, r.accepted, made_accepted b.end.state c.pdu.safety clock why);
        }

    make_by_read : (why : Why) (clock : ℕ) (b b' : Built) (later : Option Built) → Read b → clock < 2 ^ 64 → IsReason why → (later ≡ Some b' → Next b') → (f : Option ℕ) → make_fault b.end.params b.end.state c.pdu.safety clock why ≡ f
        → Explaining.make_by later f (Explaining.made_at slot c.pdu.safety why clock b) ≡ Some b' → Next b'
    make_by_read why clock b b' later r cb wb rest None e h = kept Next h (made_read why clock b r cb wb e)
    make_by_read why clock b b' later r cb wb rest (Some f) e h = rest (if_then (f == too_early_timeout) later b' h).1

    when_read : (why : Why) (b b' : Built) (later : Option Built) → Read b → IsReason why → (later ≡ Some b' → Next b') → (o : Option ℕ) → ((m : ℕ) → o ≡ Some m → m < 2 ^ 64) → Explaining.make_when later slot c.pdu.safety why o b ≡ Some b' → Next b'
    when_read why b b' later r wb rest None cb h = absurd (cc)
    when_read why b b' later r wb rest (Some clock) cb h = make_by_read why clock b b' later r (cb clock refl) wb rest (make_fault b.end.params b.end.state c.pdu.safety clock why) refl h

    later_read : (why : Why) (b b' : Built) → Read b → IsReason why → (o : Option ℕ) → Explaining.make_later slot c.pdu.safety why o b ≡ Some b' → Next b'
    later_read why b b' r wb None h = absurd (cc)
    later_read why b b' r wb (Some early) h = when_read why b b' None r wb (λ z. absurd (cc)) _ (λ m g. clock_bound _ _ m g) h

    make_read : (b b' : Built) → Read b → (o : Option Why) → ((w : Why) → o ≡ Some w → IsReason w) → Explaining.make_for slot c.pdu.safety o b ≡ Some b' → Next b'
    make_read b b' r None wb h = absurd (cc)
    make_read b b' r (Some why) wb h = when_read why b b' _ r (wb why refl) (λ z. later_read why b b' r (wb why refl) (clock_of b.clock c.pdu.safety.ts) z) _ (λ m g. clock_bound _ _ m g) h

    -- what explains it
    pub explain_read : ((i j : ℕ) (a b : FirstCopy) → slice_get peer i ≡ Some a → slice_get peer j ≡ Some b → i ≤ j → a.place ≤ b.place) → (b b' : Built) → Read b → Explaining.explain peer slot c.pdu.safety b ≡ Some b' → Next b'
    explain_read rises b b' r h =
        let w = both (Explaining.take_step_by (has_to_take b.side b.end.state c.pdu.safety.kind) peer slot c.pdu.safety b) _ b' h in
        make_read w.0 b' (takes_read rises (has_to_take b.side b.end.state c.pdu.safety.kind) c.pdu.safety b w.0 r w.1) _ (λ why g. why_bound c.pdu.safety.kind w.0.end.state w.0.trail c.pdu.safety why g) w.2

-- ---- the pass

-- both scripts lead to where the pass is
pub record AreRead (p : Parameters) (n : ℕ) (c s : List FirstCopy) (t : Proposing.Pass) : Type 0 where
  pub level : ℕ
  pub their_level : ℕ
  pub client : IsRead p Client n c s t.made level t.own
  pub server : IsRead p Server n s c t.answered their_level t.other
  pub next : (d : FirstCopy) → slice_get c t.made ≡ Some d → level ≤ d.place
  pub their_next : (d : FirstCopy) → slice_get s t.answered ≡ Some d → their_level ≤ d.place
  pub below : (q : ℕ) → ((i : ℕ) (d : FirstCopy) → i < t.made → slice_get c i ≡ Some d → d.place < q) → level ≤ q
  pub their_below : (q : ℕ) → ((i : ℕ) (d : FirstCopy) → i < t.answered → slice_get s i ≡ Some d → d.place < q) → their_level ≤ q

module _ (p : Parameters) (n : ℕ) (c s : List FirstCopy) (few : length c ≤ 1000000) (their_few : length s ≤ 1000000)
    (rises : (i j : ℕ) (a b : FirstCopy) → slice_get c i ≡ Some a → slice_get c j ≡ Some b → i ≤ j → a.place ≤ b.place) (their_rises : (i j : ℕ) (a b : FirstCopy) → slice_get s i ≡ Some a → slice_get s j ≡ Some b → i ≤ j → a.place ≤ b.place)
    (strict : (i : ℕ) (a b : FirstCopy) → slice_get c i ≡ Some a → slice_get c (suc i) ≡ Some b → a.place < b.place) (their_strict : (i : ℕ) (a b : FirstCopy) → slice_get s i ≡ Some a → slice_get s (suc i) ≡ Some b → a.place < b.place)
    (within : (i : ℕ) (a : FirstCopy) → slice_get c i ≡ Some a → a.place < n) (their_within : (i : ℕ) (a : FirstCopy) → slice_get s i ≡ Some a → a.place < n)
    (small : n < 2 ^ 32) (numbers : (i : ℕ) (a : FirstCopy) → slice_get c i ≡ Some a → a.pdu.number < 2 ^ 32) (their_numbers : (i : ℕ) (a : FirstCopy) → slice_get s i ≡ Some a → a.pdu.number < 2 ^ 32) where
  raised : (side : Side) (own peer : List FirstCopy) (k l m : ℕ) (b : Built) → l ≤ m → IsRead p side n own peer k l b → IsRead p side n own peer k m b
  raised side own peer k l m b h r = record { at = r.at; leads = r.leads; made = r.made; taken = r.taken; low = (let z = r.low in omega (arith, z, h)); state = r.state; params = r.params; quiet = r.quiet; entries = r.entries; accepted = r.accepted }

  client_read : (t t' : Proposing.Pass) (d : FirstCopy) → slice_get c t.made ≡ Some d → AreRead p n c s t → (o : Option Built) → Explaining.explain s d.place d.pdu.safety t.own ≡ o → Proposing.client_goes t d.place o ≡ Ok t' → AreRead p n c s t'
  client_read t t' d g r None e h = absurd (cc)
  client_read t t' d g r (Some b) e h =
      let z : record t { made = suc t.made; own = b } ≡ t' = cc in
      let w = within t.made d g in
      let x = explain_read p Client n c s their_few t.made d.place (omega (arith, w)) small their_numbers d g refl their_rises t.own b (raised Client c s t.made r.level d.place t.own (r.next d g) r.client) e in
      subst (λ (y : Proposing.Pass). AreRead p n c s y) z (record { level = suc d.place; their_level = r.their_level; client = x; server = r.server; next = λ f k. (let q = strict t.made d f g k in omega (arith, q)); their_next = r.their_next; below = λ q f. (let v = f t.made d (omega arith) g in omega (arith, v)); their_below = r.their_below })

  server_read : (t t' : Proposing.Pass) (d : FirstCopy) → slice_get s t.answered ≡ Some d → AreRead p n c s t → (o : Option Built) → Explaining.explain c d.place d.pdu.safety t.other ≡ o → Proposing.server_goes t d.place o ≡ Ok t' → AreRead p n c s t'
  server_read t t' d g r None e h = absurd (cc)
  server_read t t' d g r (Some b) e h =
      let z : record t { answered = suc t.answered; other = b } ≡ t' = cc in
      let w = their_within t.answered d g in
      let x = explain_read p Server n s c few t.answered d.place (omega (arith, w)) small numbers d g refl rises t.other b (raised Server s c t.answered r.their_level d.place t.other (r.their_next d g) r.server) e in
      subst (λ (y : Proposing.Pass). AreRead p n c s y) z (record { level = r.level; their_level = suc d.place; client = r.client; server = x; next = r.next; their_next = λ f k. (let q = their_strict t.answered d f g k in omega (arith, q)); below = r.below; their_below = λ q f. (let v = f t.answered d (omega arith) g in omega (arith, v)) })

  one_read : (t t' : Proposing.Pass) → AreRead p n c s t → (a b : Option FirstCopy) → slice_get c t.made ≡ a → slice_get s t.answered ≡ b → Proposing.copy_goes c s t (first_of a b) ≡ Ok t' → AreRead p n c s t'
  one_read t t' r None None x y h = (let z : t ≡ t' = cc in subst (λ (q : Proposing.Pass). AreRead p n c s q) z r)
  one_read t t' r (Some d) None x y h = client_read t t' d x r _ refl h
  one_read t t' r None (Some d) x y h = server_read t t' d y r _ refl h
  one_read t t' r (Some d) (Some f) x y h = by (nat_lt d.place f.place) h
    where
      by : (l : Bool) → Proposing.copy_goes c s t (Some (if l then record { side = Client; copy = d } else record { side = Server; copy = f })) ≡ Ok t' → AreRead p n c s t'
      by true h = client_read t t' d x r _ refl h
      by false h = server_read t t' f y r _ refl h

  start_low : (q : Option Quiet) (sd : Side) → (start_by q sd).accepted ≤ (start_by q sd).base
  start_low q sd = grind arith

  first_read : AreRead p n c s (Proposing.first_pass p)
  first_read =
      let x = start_base p.quiet Client in
      let y = start_base p.quiet Server in
      record {
        level = 0;
        their_level = 0;
        client = record { at = at_start (start_of p Client); leads = refl; made = refl; taken = omega (arith, x); low = omega arith; state = refl; params = refl; quiet = refl; entries = tt; accepted = start_low p.quiet Client };
        server = record { at = at_start (start_of p Server); leads = refl; made = refl; taken = omega (arith, y); low = omega arith; state = refl; params = refl; quiet = refl; entries = tt; accepted = start_low p.quiet Server };
        next = λ d g. omega arith;
        their_next = λ d g. omega arith;
        below = λ q f. omega arith;
        their_below = λ q f. omega arith;
      }

  -- what is passed is read
  pub passes_read : (k : ℕ) (t : Proposing.Pass) → Proposing.passes p c s k ≡ Ok t → AreRead p n c s t
  passes_read zero t h = (let z : Proposing.first_pass p ≡ t = cc in subst (λ (q : Proposing.Pass). AreRead p n c s q) z first_read)
  passes_read (suc k) t h = then_by k t (Proposing.passes p c s k) refl h (λ u e. passes_read k u e)
    where
      then_by : (k : ℕ) (t : Proposing.Pass) (r : Result Proposing.Pass ℕ) → Proposing.passes p c s k ≡ r → Proposing.pass_on r (Proposing.one_more c s) ≡ Ok t → ((u : Proposing.Pass) → Proposing.passes p c s k ≡ Ok u → AreRead p n c s u) → AreRead p n c s t
      then_by k t (Err q) e h rest = absurd (cc)
      then_by k t (Ok u) e h rest = one_read u t (rest u e) (slice_get c u.made) (slice_get s u.answered) refl refl h
