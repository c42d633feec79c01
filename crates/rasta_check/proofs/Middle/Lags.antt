-- How many units lag behind, by the sights, against what the types of the captured PDUs settle.
use Rattle.std.proofs.Common.{◌≡◌, ℕ, zero, suc, ◌+◌, ◌<◌, ◌≤◌, ◌^◌, ◌⊎◌, inl, inr, Bool, true, false, ◌&&◌, ◌==◌, List, [], ◌∷◌, Option, Some, None, slice_get, drop, refl, ap, sym, ◌∙◌, arith, subst, if◌then◌else◌}
use Rattle.std.proofs.lemmas.Bool.Decides.{nat_tests}
use Rattle.rasta_check.proofs.Prelude.{dec_lt, yes, no}
use Rattle.rasta_pcap.specs.declared.fault.Side.{Side}
use Rattle.rasta_udp.specs.Frame.{Packet}
use Rattle.rasta_pdu.specs.Params.{Parameters}
use Rattle.rasta_pdu.specs.Pdu.{is_kind}
use Rattle.rasta_pdu.specs.declared.kind.Kind.{Kind}
use Rattle.rasta_pdu.specs.declared.kind.Kind.TheVariants.{ConnectionRequest, ConnectionResponse, RetransmissionRequest, RetransmissionResponse, DisconnectionRequest, Heartbeat, Data, RetransmittedData}
use Rattle.rasta_end.specs.State.{ahead_by, wrapped}
use Rattle.rasta_check.proofs.Lists.{drop_one_more}
use Rattle.rasta_check.specs.Capture.SentLists.{FirstCopy, IsCarried}
use Rattle.rasta_check.specs.Model.Settled.{is_settled, ends_burst}
use Rattle.rasta_check.specs.Model.Middle.{Settles, plain, ended, again}
use Rattle.rasta_check.specs.declared.sights.Sight.{Sight}
use Rattle.rasta_check.specs.Middle.Sights.{AreSights}
use Rattle.rasta_check.specs.Internals.Conveyed.{Rise, up_to, one_more, lag_before, lag_with, lag_ahead, first_lag, last_before, is_settled_by, lag_at, lag_through}
use Rattle.rasta_check.proofs.Middle.Keys.{key_fits, same_sn, next_sn, next_key, first_key}
use Rattle.rasta_check.proofs.Middle.Rising.{same_place, up_to_own, up_to_next}
use Rattle.rasta_check.proofs.Middle.Sighted.{sn_fits, IsSighted, AreSighted, are_sighted, they_rise, HasSight, sight_of}

-- ---- by types

one_more_is : (m n : ℕ) → one_more (Some m) ≡ Some n → suc m ≡ n
one_more_is m n h = grind (arith, nat_tests)

one_more_fits : (n : ℕ) → suc n < 2 ^ 32 → one_more (Some n) ≡ Some (suc n)
one_more_fits n l = grind (arith, nat_tests)

-- what a type tells of the SN just before it
pub data BeforeBy (k : Kind) (lag : Option ℕ) : ℕ → Type 0 where
  ends : ends_burst k ≡ true → BeforeBy k lag 0
  resends : {n : ℕ} → is_kind RetransmittedData k ≡ true → is_settled k ≡ false → lag ≡ Some n → BeforeBy k lag (suc n)

before_by : (k : Kind) (lag : Option ℕ) (n : ℕ) → lag_before k lag ≡ Some n → BeforeBy k lag n
before_by RetransmittedData (Some m) n h = (let e = one_more_is m n h in subst (BeforeBy RetransmittedData (Some m)) e (resends refl refl refl))
before_by RetransmittedData None n h = absurd (cc)
before_by DisconnectionRequest lag n h = absurd (cc)
before_by ConnectionRequest lag n h = (let e : 0 ≡ n = cc in subst (BeforeBy ConnectionRequest lag) e (ends refl))
before_by ConnectionResponse lag n h = (let e : 0 ≡ n = cc in subst (BeforeBy ConnectionResponse lag) e (ends refl))
before_by RetransmissionRequest lag n h = (let e : 0 ≡ n = cc in subst (BeforeBy RetransmissionRequest lag) e (ends refl))
before_by RetransmissionResponse lag n h = (let e : 0 ≡ n = cc in subst (BeforeBy RetransmissionResponse lag) e (ends refl))
before_by Heartbeat lag n h = (let e : 0 ≡ n = cc in subst (BeforeBy Heartbeat lag) e (ends refl))
before_by Data lag n h = (let e : 0 ≡ n = cc in subst (BeforeBy Data lag) e (ends refl))

before_end : (k : Kind) (lag : Option ℕ) → ends_burst k ≡ true → lag_before k lag ≡ Some 0
before_end k lag h = grind (arith, h)

before_resent : (k : Kind) (n : ℕ) → suc n < 2 ^ 32 → is_kind RetransmittedData k ≡ true → lag_before k (Some n) ≡ Some (suc n)
before_resent k n l h = (let e = one_more_fits n l in grind (arith, h, e))

resent_unsettled : (k : Kind) → is_kind RetransmittedData k ≡ true → is_settled k ≡ false
resent_unsettled k h = grind (arith, h)

settled_resent : (k : Kind) → is_settled k ≡ true → is_kind RetransmittedData k ≡ true → ⊥
settled_resent k z h = (let e = resent_unsettled k h in cc)

-- ---- by what is ahead

unsettled : (b : Bool) (lag : Option ℕ) (n : ℕ) → b ≡ false → lag_with b lag ≡ Some n → lag ≡ Some n
unsettled false lag n e h = h
unsettled true lag n e h = absurd (cc)

-- either way no more lag than ahead
at_most : (b : Bool) (n : ℕ) → (l : ℕ) × (lag_with b (Some n) ≡ Some l) × (l ≤ n)
at_most false n = (n, refl, omega arith)
at_most true n = (0, refl, omega arith)

ahead_of : (key : ℕ) (next : Sight) (lag : Option ℕ) (n : ℕ) → lag_ahead key (Some next) lag ≡ Some n → (next.key ≡ suc key) × (lag ≡ Some n)
ahead_of key next lag n h = tested next.key (suc key) lag n h
  where
    tested : (a b : ℕ) (lag : Option ℕ) (n : ℕ) → (if a == b then lag else None) ≡ Some n → (a ≡ b) × (lag ≡ Some n)
    tested a b lag n h = grind (arith, nat_tests)

is_ahead : (key : ℕ) (next : Sight) (lag : Option ℕ) → next.key ≡ suc key → lag_ahead key (Some next) lag ≡ lag
is_ahead key next lag e = tested next.key (suc key) lag e
  where
    tested : (a b : ℕ) (lag : Option ℕ) → a ≡ b → (if a == b then lag else None) ≡ lag
    tested a b lag e = grind (arith, nat_tests)

settled_own : (key : ℕ) (s : Sight) → s.key ≡ key → is_settled_by key (Some s) ≡ is_settled s.kind
settled_own key s e = tested s.key key (is_settled s.kind) e
  where
    tested : (a b : ℕ) (c : Bool) → a ≡ b → ((a == b) && c) ≡ c
    tested a b c e = grind (arith, nat_tests)

-- the sight that settles an SN
settled_there : (key : ℕ) (s : Option Sight) → is_settled_by key s ≡ true → (x : Sight) × (s ≡ Some x) × (x.key ≡ key) × (is_settled x.kind ≡ true)
settled_there key None h = absurd (cc)
settled_there key (Some s) h = (let t = tested s.key key (is_settled s.kind) h in (s, refl, t.0, t.1))
  where
    tested : (a b : ℕ) (c : Bool) → ((a == b) && c) ≡ true → (a ≡ b) × (c ≡ true)
    tested a b c e = grind (arith, nat_tests)

get_drop : (sights : List Sight) (n i : ℕ) → slice_get (drop n sights) i ≡ slice_get sights (n + i)
get_drop sights zero i = (let e : i ≡ 0 + i = omega arith in ap (slice_get sights) e)
get_drop [] (suc n) i = refl
get_drop (x ∷ sights) (suc n) i = (let e : suc (n + i) ≡ suc n + i = omega arith in get_drop sights n i ∙ ap (slice_get (x ∷ sights)) e)

-- just before a sight, by what comes behind it
pub first_more : (sights : List Sight) (i : ℕ) (s : Sight) → slice_get sights i ≡ Some s
    → first_lag (drop i sights) ≡ lag_before s.kind (lag_with (is_settled s.kind) (lag_ahead s.key (slice_get sights (suc i)) (first_lag (drop (suc i) sights))))
unfolding first_lag
first_more sights i s g =
    let e : suc i + 0 ≡ suc i = omega arith in
    ap first_lag (drop_one_more i sights s g)
    ∙ ap (λ (o : Option Sight). lag_before s.kind (lag_with (is_settled s.kind) (lag_ahead s.key o (first_lag (drop (suc i) sights))))) (get_drop sights (suc i) 0 ∙ ap (slice_get sights) e)

-- ---- what is computed is settled

module _ (p : Parameters) (packets : List Packet) (side : Side) (base : ℕ) where
  -- just before the first of some sights
  first_settles : (t : Sight) (sights : List Sight) → AreSighted p packets side base (t ∷ sights) → (sn lag : ℕ) → sn < 2 ^ 32 → t.key ≡ suc (ahead_by sn base)
      → first_lag (t ∷ sights) ≡ Some lag → Settles p packets side sn lag
  unfolding first_lag
  first_settles t [] seen sn lag l k h = by_type lag (before_by t.kind _ lag h)
    where
      c : IsSighted p packets side base t
      c = seen 0 t refl

      by_type : (lag : ℕ) → BeforeBy t.kind (lag_with (is_settled t.kind) None) lag → Settles p packets side sn lag
      by_type zero (ends e) = ended c.copy c.carried (next_sn sn c.copy.pdu.safety.sn base (sn_fits p packets side c.copy c.carried) (sym c.key ∙ k)) (ap ends_burst (sym c.kind) ∙ e)
      by_type (suc n) (resends r s e) = absurd (let z = unsettled (is_settled t.kind) None n s e in cc)
  first_settles t (u ∷ sights) seen sn lag l k h = by_type (λ n e g. first_settles u sights (λ i s. seen (suc i) s) c.copy.pdu.safety.sn n (sn_fits p packets side c.copy c.carried) e g) lag (before_by t.kind _ lag h)
    where
      c : IsSighted p packets side base t
      c = seen 0 t refl

      next : c.copy.pdu.safety.sn ≡ wrapped (suc sn)
      next = next_sn sn c.copy.pdu.safety.sn base (sn_fits p packets side c.copy c.carried) (sym c.key ∙ k)

      by_type : ((n : ℕ) → u.key ≡ suc (ahead_by c.copy.pdu.safety.sn base) → first_lag (u ∷ sights) ≡ Some n → Settles p packets side c.copy.pdu.safety.sn n)
          → (lag : ℕ) → BeforeBy t.kind (lag_with (is_settled t.kind) (lag_ahead t.key (Some u) (first_lag (u ∷ sights)))) lag → Settles p packets side sn lag
      by_type more zero (ends e) = ended c.copy c.carried next (ap ends_burst (sym c.kind) ∙ e)
      by_type more (suc n) (resends r s e) =
          let a = ahead_of t.key u (first_lag (u ∷ sights)) n (unsettled (is_settled t.kind) _ n s e) in
          again c.copy c.carried next (ap (is_kind RetransmittedData) (sym c.kind) ∙ r)
          (subst (λ m. Settles p packets side m n) next (more n (a.0 ∙ ap suc c.key) a.1))

-- ---- what is settled is computed

-- the SN of a captured PDU lies near
pub record IsNear (sights : List Sight) (base sn : ℕ) : Type 0 where
  pub index : ℕ
  pub sight : Sight
  pub there : slice_get sights index ≡ Some sight
  pub near : (sight.key ≡ ahead_by sn base) ⊎ (sight.key ≡ ahead_by (wrapped (suc sn)) base)

module _ (p : Parameters) (packets : List Packet) (side : Side) (base : ℕ) (sights : List Sight) (a : AreSights p packets side base sights) where
  rise : Rise sights
  rise = they_rise p packets side base sights a

  seen : AreSighted p packets side base sights
  seen = are_sighted p packets side base sights a

  sight : (copy : FirstCopy) → IsCarried p packets side copy → HasSight p packets side base sights a copy
  sight copy c = sight_of p packets side base sights a copy c

  seen_from : (n : ℕ) → AreSighted p packets side base (drop n sights)
  seen_from n i s g = seen (n + i) s (sym (get_drop sights n i) ∙ g)

  -- how many lag behind at a sight
  at_own : (i : ℕ) (t : Sight) → slice_get sights i ≡ Some t
      → lag_through sights t.key ≡ lag_with (is_settled t.kind) (lag_ahead t.key (slice_get sights (suc i)) (first_lag (drop (suc i) sights)))
  unfolding lag_through
  at_own i t g =
      ap (lag_at sights t.key) (up_to_own t.key sights i t rise g refl)
      ∙ ap (λ (o : Option Sight). lag_with (is_settled_by t.key o) (lag_ahead t.key (slice_get sights (suc i)) (first_lag (drop (suc i) sights)))) g
      ∙ ap (λ (b : Bool). lag_with b (lag_ahead t.key (slice_get sights (suc i)) (first_lag (drop (suc i) sights)))) (settled_own t.key t refl)

  -- and just before it
  first_is : (i : ℕ) (t : Sight) → slice_get sights i ≡ Some t → first_lag (drop i sights) ≡ lag_before t.kind (lag_through sights t.key)
  first_is i t g = first_more sights i t g ∙ ap (lag_before t.kind) (sym (at_own i t g))

  -- and at the SN before that of a sight
  through_next : (key i : ℕ) (t : Sight) → slice_get sights i ≡ Some t → t.key ≡ suc key
      → lag_through sights key ≡ lag_with (is_settled_by key (last_before i sights)) (lag_before t.kind (lag_through sights t.key))
  unfolding lag_through
  through_next key i t g e =
      ap (lag_at sights key) (up_to_next key sights i t rise g e)
      ∙ ap (λ (o : Option Sight). lag_with (is_settled_by key (last_before i sights)) (lag_ahead key o (first_lag (drop i sights)))) g
      ∙ ap (lag_with (is_settled_by key (last_before i sights))) (is_ahead key t (first_lag (drop i sights)) e ∙ first_is i t g)

  -- a settled SN has a sight near
  pub near_settled : (sn lag : ℕ) → Settles p packets side sn lag → IsNear sights base sn
  near_settled sn lag (plain copy c e s) = (let m = sight copy c in record { index = m.index; sight = m.sight; there = m.there; near = inl (m.key ∙ ap (λ n. ahead_by n base) e) })
  near_settled sn lag (ended copy c e s) = (let m = sight copy c in record { index = m.index; sight = m.sight; there = m.there; near = inr (m.key ∙ ap (λ n. ahead_by n base) e) })
  near_settled sn lag (again copy c e s r) = (let m = sight copy c in record { index = m.index; sight = m.sight; there = m.there; near = inr (m.key ∙ ap (λ n. ahead_by n base) e) })

  -- a sight at or before a key, and not far before it
  pub record IsAnchored (key : ℕ) : Type 0 where
    pub index : ℕ
    pub anchor : Sight
    pub there : slice_get sights index ≡ Some anchor
    pub before : anchor.key ≤ key
    pub not_far : key < anchor.key + 2 ^ 31

  own_anchor : (i : ℕ) (s : Sight) → slice_get sights i ≡ Some s → (sn : ℕ) → s.key ≡ ahead_by sn base → IsAnchored (ahead_by sn base)
  own_anchor i s g sn k = record { index = i; anchor = s; there = g; before = omega (arith, k); not_far = omega (arith, k) }

  -- behind such a key the next one doesn't begin anew
  next_there : (sn : ℕ) (copy : FirstCopy) (c : IsCarried p packets side copy) → IsAnchored (ahead_by sn base) → copy.pdu.safety.sn ≡ wrapped (suc sn)
      → (sight copy c).sight.key ≡ suc (ahead_by sn base)
  next_there sn copy c o e =
      let m = sight copy c in
      elim (dec_lt (suc (ahead_by sn base)) (2 ^ 32)) [
        | yes l ↦ m.key ∙ next_key sn copy.pdu.safety.sn base e l
        | no n ↦
            let last : suc (ahead_by sn base) ≡ 2 ^ 32 = (let f = key_fits sn base in omega arith) in
            absurd (omega (arith, last, m.key, first_key sn copy.pdu.safety.sn base e last, a.near o.index m.index o.anchor m.sight o.there m.there, o.not_far))
      ]

  -- no more lag behind than is settled
  pub record LagsAtMost (key lag : ℕ) : Type 0 where
    pub least : ℕ
    pub is : lag_through sights key ≡ Some least
    pub at_most : least ≤ lag
    pub fits : key + least < 2 ^ 32

  least_there : (key i lag : ℕ) (t : Sight) → key + lag < 2 ^ 32 → slice_get sights i ≡ Some t → t.key ≡ suc key → lag_before t.kind (lag_through sights t.key) ≡ Some lag
      → LagsAtMost key lag
  least_there key i lag t f g e h =
      let m = at_most (is_settled_by key (last_before i sights)) lag in
      record {
        least = m.0;
        is = through_next key i t g e ∙ ap (lag_with (is_settled_by key (last_before i sights))) h ∙ m.1;
        at_most = m.2;
        fits = omega (arith, f, m.2);
      }

  least_plain : (key i : ℕ) (t : Sight) → key < 2 ^ 32 → slice_get sights i ≡ Some t → t.key ≡ key → is_settled t.kind ≡ true → LagsAtMost key 0
  least_plain key i t f g e s =
      record {
        least = 0;
        is = ap (lag_through sights) (sym e) ∙ at_own i t g ∙ ap (λ (b : Bool). lag_with b (lag_ahead t.key (slice_get sights (suc i)) (first_lag (drop (suc i) sights)))) s;
        at_most = omega arith;
        fits = omega (arith, f);
      }

  pub least_lag : (sn lag : ℕ) → IsAnchored (ahead_by sn base) → Settles p packets side sn lag → LagsAtMost (ahead_by sn base) lag
  least_lag sn lag o (plain copy c e s) =
      let m = sight copy c in
      least_plain (ahead_by sn base) m.index m.sight (key_fits sn base) m.there (m.key ∙ ap (λ n. ahead_by n base) e) (ap is_settled m.kind ∙ s)
  least_lag sn lag o (ended copy c e s) =
      let m = sight copy c in
      least_there (ahead_by sn base) m.index 0 m.sight (omega (arith, key_fits sn base)) m.there (next_there sn copy c o e) (before_end m.sight.kind (lag_through sights m.sight.key) (ap ends_burst m.kind ∙ s))
  least_lag sn lag o (again {lag = less} copy c e s r) =
      let m = sight copy c in
      let next : m.sight.key ≡ suc (ahead_by sn base) = next_there sn copy c o e in
      let same : m.sight.key ≡ ahead_by (wrapped (suc sn)) base = m.key ∙ ap (λ n. ahead_by n base) e in
      let rest = least_lag (wrapped (suc sn)) less (record { index = m.index; anchor = m.sight; there = m.there; before = omega (arith, same); not_far = omega (arith, same) }) r in
      let fits : ahead_by sn base + suc rest.least < 2 ^ 32 = omega (arith, rest.fits, same, next) in
      let here = least_there (ahead_by sn base) m.index (suc rest.least) m.sight fits m.there next
      (ap (lag_before m.sight.kind) (ap (lag_through sights) same ∙ rest.is) ∙ before_resent m.sight.kind rest.least (omega (arith, fits)) (ap (is_kind RetransmittedData) m.kind ∙ s)) in
      record { least = here.least; is = here.is; at_most = omega (arith, here.at_most, rest.at_most); fits = here.fits }

  -- ---- and what is computed is settled

  -- at this key so many lag behind, and a sight lies near it
  pub record IsSettled (sn lag : ℕ) : Type 0 where
    pub settles : Settles p packets side sn lag
    pub index : ℕ
    pub sight : Sight
    pub there : slice_get sights index ≡ Some sight
    pub near : (sight.key ≡ ahead_by sn base) ⊎ (sight.key ≡ suc (ahead_by sn base))

  settled_by : (sn lag n : ℕ) → sn < 2 ^ 32 → (b : Bool) → is_settled_by (ahead_by sn base) (last_before n sights) ≡ b
      → lag_with b (lag_ahead (ahead_by sn base) (slice_get sights n) (first_lag (drop n sights))) ≡ Some lag → IsSettled sn lag
  settled_by sn lag n l false e h = ahead (slice_get sights n) refl h
    where
      ahead : (o : Option Sight) → slice_get sights n ≡ o → lag_ahead (ahead_by sn base) o (first_lag (drop n sights)) ≡ Some lag → IsSettled sn lag
      ahead None g h = absurd (cc)
      ahead (Some t) g h =
          let d : drop n sights ≡ t ∷ drop (suc n) sights = drop_one_more n sights t g in
          let k = ahead_of (ahead_by sn base) t (first_lag (drop n sights)) lag h in
          record {
            settles = first_settles p packets side base t (drop (suc n) sights) (subst (AreSighted p packets side base) d (seen_from n)) sn lag l k.0 (ap first_lag (sym d) ∙ k.1);
            index = n;
            sight = t;
            there = g;
            near = inr k.0;
          }
  settled_by sn lag zero l true e h = absurd (cc)
  settled_by sn lag (suc n) l true e h =
      let x = settled_there (ahead_by sn base) (slice_get sights n) e in
      let c = seen n x.0 x.1 in
      let none : 0 ≡ lag = cc in
      record {
        settles = subst (Settles p packets side sn) none (plain c.copy c.carried (same_sn c.copy.pdu.safety.sn sn base (sn_fits p packets side c.copy c.carried) l (sym c.key ∙ x.2)) (ap is_settled (sym c.kind) ∙ x.3));
        index = n;
        sight = x.0;
        there = x.1;
        near = inl x.2;
      }

  pub through_settles : (sn lag : ℕ) → sn < 2 ^ 32 → lag_through sights (ahead_by sn base) ≡ Some lag → IsSettled sn lag
  unfolding lag_through
  through_settles sn lag l h = settled_by sn lag (up_to (ahead_by sn base) sights) l (is_settled_by (ahead_by sn base) (last_before (up_to (ahead_by sn base) sights) sights)) refl h

  -- ---- at retransmitted data it is settled one way

  -- as many lag behind as just before the next sight, where that has the very next SN
  through_resent : (i : ℕ) (s : Sight) → slice_get sights i ≡ Some s → is_kind RetransmittedData s.kind ≡ true → (j : ℕ) (t : Sight) → slice_get sights j ≡ Some t → t.key ≡ suc s.key
      → lag_through sights s.key ≡ lag_before t.kind (lag_through sights t.key)
  through_resent i s g r j t h e =
      let next : j ≡ suc i = sym (up_to_next s.key sights j t rise h e) ∙ up_to_own s.key sights i s rise g refl in
      let there : slice_get sights (suc i) ≡ Some t = ap (slice_get sights) (sym next) ∙ h in
      let rest : Option ℕ = first_lag (drop (suc i) sights) in
      at_own i s g
      ∙ ap (λ (b : Bool). lag_with b (lag_ahead s.key (slice_get sights (suc i)) rest)) (resent_unsettled s.kind r)
      ∙ ap (λ (o : Option Sight). lag_ahead s.key o rest) there
      ∙ is_ahead s.key t rest e
      ∙ first_is (suc i) t there

  -- just so many lag behind
  pub record LagsBy (key lag : ℕ) : Type 0 where
    pub is : lag_through sights key ≡ Some lag
    pub fits : key + lag < 2 ^ 32

  pub resent_lag : (i : ℕ) (s : Sight) → slice_get sights i ≡ Some s → is_kind RetransmittedData s.kind ≡ true → (sn lag : ℕ) → s.key ≡ ahead_by sn base → Settles p packets side sn lag
      → LagsBy s.key lag
  resent_lag i s g r sn lag k (plain copy c e z) =
      let m = sight copy c in
      let index : m.index ≡ i = same_place sights m.index i m.sight s rise m.there g (m.key ∙ ap (λ n. ahead_by n base) e ∙ sym k) in
      let both : Some m.sight ≡ Some s = sym m.there ∙ ap (slice_get sights) index ∙ g in
      let one : m.sight ≡ s = cc in
      absurd (settled_resent copy.pdu.safety.kind z (ap (is_kind RetransmittedData) (sym m.kind ∙ ap (λ (x : Sight). x.kind) one) ∙ r))
  resent_lag i s g r sn lag k (ended copy c e z) =
      let m = sight copy c in
      let next : m.sight.key ≡ suc s.key = next_there sn copy c (own_anchor i s g sn k) e ∙ ap suc (sym k) in
      record {
        is = through_resent i s g r m.index m.sight m.there next ∙ before_end m.sight.kind (lag_through sights m.sight.key) (ap ends_burst m.kind ∙ z);
        fits = omega (arith, k, key_fits sn base);
      }
  resent_lag i s g r sn lag k (again {lag = less} copy c e z more) =
      let m = sight copy c in
      let next : m.sight.key ≡ suc s.key = next_there sn copy c (own_anchor i s g sn k) e ∙ ap suc (sym k) in
      let resent : is_kind RetransmittedData m.sight.kind ≡ true = ap (is_kind RetransmittedData) m.kind ∙ z in
      let rest = resent_lag m.index m.sight m.there resent (wrapped (suc sn)) less (m.key ∙ ap (λ n. ahead_by n base) e) more in
      record {
        is = through_resent i s g r m.index m.sight m.there next ∙ ap (lag_before m.sight.kind) rest.is ∙ before_resent m.sight.kind less (omega (arith, rest.fits, next)) resent;
        fits = omega (arith, rest.fits, next);
      }
