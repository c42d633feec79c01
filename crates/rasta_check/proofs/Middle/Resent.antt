-- The data that were sent again, and first sent before the packets begin, and those have a proof that the packets show.
use Rattle.std.proofs.Common.{◌≡◌, ℕ, zero, suc, ◌+◌, ◌-◌, ◌<◌, ◌≤◌, ◌^◌, ◌⊎◌, inl, inr, Bool, true, false, ◌&&◌, nat_le, nat_lt, if◌then◌else◌, List, [], ◌∷◌, Option, Some, None, slice_get, filter_map, map, refl, ap, sym, ◌∙◌, arith, subst}
use Rattle.std.proofs.lemmas.Bool.Decides.{nat_tests}
use Rattle.std.proofs.lemmas.Option.{slice_get_within}
use Rattle.rasta_pcap.specs.declared.fault.Side.{Side}
use Rattle.rasta_udp.specs.Frame.{Packet}
use Rattle.rasta_pdu.specs.Params.{Parameters}
use Rattle.rasta_pdu.specs.Pdu.{is_kind}
use Rattle.rasta_pdu.specs.declared.kind.Kind.TheVariants.{ConnectionRequest, RetransmittedData}
use Rattle.rasta_end.specs.State.{ahead_by}
use Rattle.rasta_check.specs.Capture.SentLists.{FirstCopy, IsCarried}
use Rattle.rasta_check.specs.Model.World.{other_side}
use Rattle.rasta_check.specs.Model.Middle.{OwnLag, fresh, resent, Shows}
use Rattle.rasta_check.specs.declared.sights.Sight.{Sight}
use Rattle.rasta_check.specs.declared.sights.Confirmation.{Confirmation}
use Rattle.rasta_check.specs.declared.resent.Resent.{Resent}
use Rattle.rasta_check.specs.declared.resent.ResentUnit.{ResentUnit}
use Rattle.rasta_check.specs.declared.resent.Settlement.{Settlement}
use Rattle.rasta_check.specs.declared.resent.Standing.{Standing}
use Rattle.rasta_check.specs.Middle.Sights.{AreSights, AreConfirmations}
use Rattle.rasta_check.specs.Middle.Shown.{IsProofOf, IsOfData, LiesBehind}
use Rattle.rasta_check.specs.Middle.Kept.{IsRecent}
use Rattle.rasta_check.specs.Middle.Resent.{IsFirstSentBefore, IsResentListed, AreResent, IsResentListing}
use Rattle.rasta_check.specs.Internals.Conveyed.{Rise, up_to, data_among, lag_through}
use Rattle.rasta_check.specs.Internals.ResentUnits.{standing_with, standing, is_early, if_before_data, first_sent_before, is_conveyed, first_proof, unit_with, unit_at, resent_at, settled_at, unit_by}
use Rattle.rasta_check.proofs.Middle.Keys.{same_sn, key_before, key_up_to}
use Rattle.rasta_check.proofs.Middle.Nearness.{recent_by_keys, keys_by_recent}
use Rattle.rasta_check.proofs.Middle.Rising.{up_to_more}
use Rattle.rasta_check.proofs.Middle.Counts.{true_le, le_true}
use Rattle.rasta_check.proofs.Middle.Sighted.{IsSighted, sn_fits, sn_of_place, they_rise, are_sighted, sight_of}
use Rattle.rasta_check.proofs.Middle.Lags.{near_settled, least_lag, through_settles, resent_lag}
use Rattle.rasta_check.proofs.Middle.Behind.{behind_sight, behind_sight_most, few_up_to, all_up_to}
use Rattle.rasta_check.proofs.Middle.Conveyed.{not_both}
use Rattle.rasta_check.proofs.Middle.Listed.{in_turn, first_of}
use Rattle.rasta_check.proofs.Middle.ResentSteps.{units_picked}
use Rattle.rasta_check.proofs.Middle.Picked.{IsPicked, picked, both_picked, picked_there}

-- ---- what is settled at an SN

pub record StandsAt (sights : List Sight) (key : ℕ) (at : Standing) : Type 0 where
  pub same_key : at.key ≡ key
  pub count : at.data_count ≡ up_to key (data_among sights)
  pub lag : lag_through sights key ≡ Some at.lag

stands : (key count : ℕ) (lag : Option ℕ) (at : Standing) → standing_with key count lag ≡ Some at → (at.key ≡ key) × (at.data_count ≡ count) × (lag ≡ Some at.lag)
stands key count None at h = absurd (cc)
stands key count (Some lag) at h =
    let made : Standing = record { key = key; data_count = count; lag = lag } in
    let one : at ≡ made = cc in
    (ap (λ (x : Standing). x.key) one, ap (λ (x : Standing). x.data_count) one, ap (λ (x : Standing). Some x.lag) (sym one))

stands_at : (sights : List Sight) (key : ℕ) (at : Standing) → standing sights key ≡ Some at → StandsAt sights key at
unfolding standing
stands_at sights key at h = (let s = stands key (up_to key (data_among sights)) (lag_through sights key) at h in record { same_key = s.0; count = s.1; lag = s.2 })

standing_is : (sights : List Sight) (key lag : ℕ) → lag_through sights key ≡ Some lag
    → standing sights key ≡ Some (record { key = key; data_count = up_to key (data_among sights); lag = lag })
unfolding standing
standing_is sights key lag h = ap (standing_with key (up_to key (data_among sights))) h

-- ---- data that were first sent before

pub record IsSentBefore (sights : List Sight) (s : Sight) (at : Standing) : Type 0 where
  pub is_resent : is_kind RetransmittedData s.kind ≡ true
  pub stands : StandsAt sights s.key at
  pub few : at.data_count ≤ at.lag
  pub early : is_early sights s.key ≡ true

both_true : (a b : Bool) → (a && b) ≡ true → (a ≡ true) × (b ≡ true)
both_true true b h = (refl, h)
both_true false b h = absurd (cc)

true_both : (a b : Bool) → a ≡ true → b ≡ true → (a && b) ≡ true
true_both a b e f = cc

kept_if : (b : Bool) (x at : Standing) → (if b then Some x else None) ≡ Some at → (b ≡ true) × (x ≡ at)
kept_if true x at h = (refl, (cc))
kept_if false x at h = absurd (cc)

tested : (b : Bool) (o : Option Standing) (at : Standing) → (if b then if_before_data o else None) ≡ Some at → (b ≡ true) × (o ≡ Some at) × (at.data_count ≤ at.lag)
tested false o at h = absurd (cc)
tested true None at h = absurd (cc)
tested true (Some x) at h =
    let k = kept_if (nat_le x.data_count x.lag) x at h in
    (refl, ap Some k.1, subst (λ (y : Standing). y.data_count ≤ y.lag) k.1 (true_le x.data_count x.lag k.0))

is_sent_before : (sights : List Sight) (s : Sight) (at : Standing) → first_sent_before sights s ≡ Some at → IsSentBefore sights s at
unfolding first_sent_before
is_sent_before sights s at h =
    let t = tested (is_kind RetransmittedData s.kind && is_early sights s.key) (standing sights s.key) at h in
    let both = both_true (is_kind RetransmittedData s.kind) (is_early sights s.key) t.0 in
    record { is_resent = both.0; stands = stands_at sights s.key at t.1; few = t.2; early = both.1 }

sent_before : (sights : List Sight) (s : Sight) (lag : ℕ) → is_kind RetransmittedData s.kind ≡ true → is_early sights s.key ≡ true → lag_through sights s.key ≡ Some lag → up_to s.key (data_among sights) ≤ lag
    → first_sent_before sights s ≡ Some (record { key = s.key; data_count = up_to s.key (data_among sights); lag = lag })
unfolding first_sent_before
sent_before sights s lag r near h l =
    let made : Standing = record { key = s.key; data_count = up_to s.key (data_among sights); lag = lag } in
    ap (λ (b : Bool). if b then if_before_data (standing sights s.key) else None) (true_both (is_kind RetransmittedData s.kind) (is_early sights s.key) r near)
    ∙ ap if_before_data (standing_is sights s.key lag h)
    ∙ ap (λ (b : Bool). if b then Some made else None) (le_true (up_to s.key (data_among sights)) lag l)

-- ---- and their proofs

pub record IsConveyed (at : Standing) (o : Option Standing) : Type 0 where
  pub later : Standing
  pub is : o ≡ Some later
  pub up_to : at.key ≤ later.key
  pub enough : later.lag + at.data_count ≤ at.lag + later.data_count

both_le : (a b c d : ℕ) → (nat_le a b && nat_le c d) ≡ true → (a ≤ b) × (c ≤ d)
both_le a b c d h = grind (arith, nat_tests)

le_both : (a b c d : ℕ) → a ≤ b → c ≤ d → (nat_le a b && nat_le c d) ≡ true
le_both a b c d l m = grind (arith, nat_tests)

conveyed_by : (at : Standing) (o : Option Standing) → is_conveyed at o ≡ true → IsConveyed at o
conveyed_by at None h = absurd (cc)
conveyed_by at (Some later) h =
    let t = both_le at.key later.key (later.lag + at.data_count) (at.lag + later.data_count) h in
    record { later = later; is = refl; up_to = t.0; enough = t.1 }

module _ (base : ℕ) (sights : List Sight) (at : Standing) where
  abbrev shown_by : Confirmation → Bool
  shown_by c = is_conveyed at (standing sights (ahead_by c.cs base))

  -- a confirmation that shows the unit, at a place
  pub record IsFoundAt (confirmations : List Confirmation) (place : ℕ) : Type 0 where
    pub index : ℕ
    pub confirmation : Confirmation
    pub there : slice_get confirmations index ≡ Some confirmation
    pub same : confirmation.place ≡ place
    pub shows : is_conveyed at (standing sights (ahead_by confirmation.cs base)) ≡ true

  if_cases : (b : Bool) (x : ℕ) (o : Option ℕ) (y : ℕ) → (if b then Some x else o) ≡ Some y → ((b ≡ true) × (x ≡ y)) ⊎ (o ≡ Some y)
  if_cases true x o y h = inl (refl, (cc))
  if_cases false x o y h = inr h

  pub found_at : (confirmations : List Confirmation) (y : ℕ) → first_proof base sights at confirmations ≡ Some y → IsFoundAt confirmations y
  unfolding first_proof
  found_at [] y h = absurd (cc)
  found_at (c ∷ confirmations) y h =
      elim (if_cases (shown_by c) c.place (first_proof base sights at confirmations) y h) [
        | inl here ↦ record { index = 0; confirmation = c; there = refl; same = here.1; shows = here.0 }
        | inr more ↦
            let m = found_at confirmations y more in
            record { index = suc m.index; confirmation = m.confirmation; there = m.there; same = m.same; shows = m.shows }
      ]

  told : (b : Bool) → (b ≡ true) ⊎ (b ≡ false)
  told true = inl refl
  told false = inr refl

  -- each that shows it is no earlier
  pub found_by : (confirmations : List Confirmation) (i : ℕ) (c : Confirmation) → slice_get confirmations i ≡ Some c → is_conveyed at (standing sights (ahead_by c.cs base)) ≡ true
      → ((j : ℕ) (x : Confirmation) → j ≤ i → slice_get confirmations j ≡ Some x → x.place ≤ c.place)
      → (y : ℕ) × (first_proof base sights at confirmations ≡ Some y) × (y ≤ c.place)
  unfolding first_proof
  found_by [] i c g h before = absurd (omega (arith, slice_get_within [] i c g))
  found_by (x ∷ confirmations) zero c g h before =
      let one : x ≡ c = cc in
      (x.place, ap (λ (b : Bool). if b then Some x.place else first_proof base sights at confirmations) (ap shown_by one ∙ h), before 0 x (omega arith) refl)
  found_by (x ∷ confirmations) (suc i) c g h before =
      elim (told (shown_by x)) [
        | inl here ↦
            (x.place, ap (λ (b : Bool). if b then Some x.place else first_proof base sights at confirmations) here, before 0 x (omega arith) refl)
        | inr more ↦
            let m = found_by confirmations i c g h (λ j z l e. before (suc j) z (omega (arith, l)) e) in
            (m.0, ap (λ (b : Bool). if b then Some x.place else first_proof base sights at confirmations) more ∙ m.1, m.2)
      ]

-- ---- units

pub record IsMadeOf (base : ℕ) (sights : List Sight) (confirmations : List Confirmation) (s : Sight) (u : ResentUnit) : Type 0 where
  pub at : Standing
  pub before : IsSentBefore sights s at
  pub place : s.place ≡ u.place
  pub proof_place : first_proof base sights at confirmations ≡ u.proof_place
  pub messages : s.messages ≡ u.messages

made_of : (base : ℕ) (sights : List Sight) (confirmations : List Confirmation) (s : Sight) (u : ResentUnit) → unit_at base sights confirmations s ≡ Some u
    → IsMadeOf base sights confirmations s u
made_of base sights confirmations s u h = by_standing (first_sent_before sights s) refl h
  where
    by_standing : (o : Option Standing) → first_sent_before sights s ≡ o → unit_with base sights confirmations s o ≡ Some u → IsMadeOf base sights confirmations s u
    by_standing None e h = absurd (cc)
    by_standing (Some at) e h =
        let made : ResentUnit = record { place = s.place; proof_place = first_proof base sights at confirmations; messages = s.messages } in
        let one : made ≡ u = cc in
        record { at = at; before = is_sent_before sights s at e; place = ap (λ (x : ResentUnit). x.place) one; proof_place = ap (λ (x : ResentUnit). x.proof_place) one; messages = ap (λ (x : ResentUnit). x.messages) one }

-- ---- keys near the first

lt_of : (n : ℕ) → nat_lt n (2 ^ 12) ≡ true → n < 2 ^ 12
lt_of n h = grind (arith, nat_tests)

of_lt : (n : ℕ) → n < 2 ^ 12 → nat_lt n (2 ^ 12) ≡ true
of_lt n l = grind (arith, nat_tests)

first_lowest : (first : Sight) (sights : List Sight) → Rise (first ∷ sights) → (i : ℕ) (s : Sight) → slice_get (first ∷ sights) i ≡ Some s → first.key ≤ s.key
first_lowest first sights r zero s g = (let e : first ≡ s = cc in omega (arith, ap (λ (x : Sight). x.key) e))
first_lowest first sights r (suc i) s g = omega (arith, r.apart 0 (suc i) first s (omega arith) refl g)

module _ (p : Parameters) (packets : List Packet) (side : Side) (base : ℕ) (sights : List Sight) (confirmations : List Confirmation)
    (a : AreSights p packets side base sights) (b : AreConfirmations p packets (other_side side) confirmations) where
  -- the unit of a sight is shown by a PDU through whose confirmed SN it is conveyed
  shows_resent : (i : ℕ) (s : Sight) → slice_get sights i ≡ Some s → (m : IsSighted p packets side base s) (at : Standing) → IsSentBefore sights s at → (proof : FirstCopy)
      → IsCarried p packets (other_side side) proof → is_kind ConnectionRequest proof.pdu.safety.kind ≡ false
      → is_conveyed at (standing sights (ahead_by proof.pdu.safety.cs base)) ≡ true → Shows p packets side m.copy proof
  shows_resent i s g m at k proof c r h =
      let cs : ℕ = proof.pdu.safety.cs in
      let sn : ℕ = m.copy.pdu.safety.sn in
      let t = conveyed_by at (standing sights (ahead_by cs base)) h in
      let w = stands_at sights (ahead_by cs base) t.later t.is in
      let settled = through_settles p packets side base sights a cs t.later.lag c.spelled.fits.cs w.lag in
      let own = through_settles p packets side base sights a sn at.lag (sn_fits p packets side m.copy m.carried) (ap (lag_through sights) (sym m.key) ∙ k.stands.lag) in
      let below : s.key ≤ ahead_by cs base = omega (arith, t.up_to, k.stands.same_key, w.same_key) in
      let more = up_to_more s.key (ahead_by cs base) (data_among sights) below in
      record {
        carried = m.carried;
        own_lag = at.lag;
        own = resent (ap (is_kind RetransmittedData) (sym m.kind) ∙ k.is_resent) own.settles;
        shown_by = c;
        confirms = r;
        lag = t.later.lag;
        settled = settled.settles;
        later = t.later.data_count - at.data_count;
        behind = behind_sight p packets side base sights a (t.later.data_count - at.data_count) i sn s cs t.later.lag settled g m.key below (omega (arith, more, k.stands.count, w.count));
        enough = omega (arith, more, k.stands.count, w.count, t.enough);
      }

  -- and a PDU that shows it confirms such an SN
  conveyed_resent : (i : ℕ) (s : Sight) → slice_get sights i ≡ Some s → (data_copy proof : FirstCopy) → s.key ≡ ahead_by data_copy.pdu.safety.sn base → s.kind ≡ data_copy.pdu.safety.kind
      → (at : Standing) → IsSentBefore sights s at → Shows p packets side data_copy proof → is_conveyed at (standing sights (ahead_by proof.pdu.safety.cs base)) ≡ true
  conveyed_resent i s g data_copy proof e f at k h =
      let cs : ℕ = proof.pdu.safety.cs in
      let reach = behind_sight_most p packets side base sights a i data_copy.pdu.safety.sn cs h.later s (near_settled p packets side base sights a cs h.lag h.settled) g e h.behind in
      let m = least_lag p packets side base sights a cs h.lag reach.anchored h.settled in
      let own : at.lag ≡ h.own_lag = own_is h.own_lag h.own in
      ap (is_conveyed at) (standing_is sights (ahead_by cs base) m.least m.is)
      ∙ le_both at.key (ahead_by cs base) (m.least + at.data_count) (at.lag + up_to (ahead_by cs base) (data_among sights)) (omega (arith, k.stands.same_key, reach.below))
      (omega (arith, m.at_most, h.enough, own, k.stands.count, reach.most))
    where
      own_is : (lag : ℕ) → OwnLag p packets side data_copy lag → at.lag ≡ lag
      own_is lag (fresh d) = absurd (not_both data_copy.pdu.safety.kind (ap (is_kind RetransmittedData) (sym f) ∙ k.is_resent) d)
      own_is lag (resent d z) = (let n = resent_lag p packets side base sights a i s g k.is_resent data_copy.pdu.safety.sn lag e z in let one = n.is in let other = k.stands.lag in cc)

  -- such a unit has a proof that is no later
  resent_in_time : (i : ℕ) (s : Sight) → slice_get sights i ≡ Some s → (data_copy : FirstCopy) → s.key ≡ ahead_by data_copy.pdu.safety.sn base → s.kind ≡ data_copy.pdu.safety.kind
      → (at : Standing) → IsSentBefore sights s at → (proof : FirstCopy) → Shows p packets side data_copy proof
      → (place : ℕ) × (first_proof base sights at confirmations ≡ Some place) × (place ≤ proof.place)
  resent_in_time i s g data_copy e f at k proof h =
      let c = b.all proof h.shown_by h.confirms in
      let shown = conveyed_resent i s g data_copy proof e f at k h in
      let y = found_by base sights at confirmations c.0 c.1 c.2 (subst (λ n. is_conveyed at (standing sights (ahead_by n base)) ≡ true) (sym c.4) shown)
      (λ j x l d. in_turn confirmations b.rising c.0 j c.1 x l c.2 d) in
      (y.0, y.1, omega (arith, y.2, c.3))

  proof_of : (i : ℕ) (s : Sight) → slice_get sights i ≡ Some s → (m : IsSighted p packets side base s) (at : Standing) → IsSentBefore sights s at
      → (place : Option ℕ) → first_proof base sights at confirmations ≡ place → IsProofOf p packets side m.copy place
  proof_of i s g m at k (Some place) h =
      let n = found_at base sights at confirmations place h in
      let c = b.confirming n.index n.confirmation n.there in (
        c.0,
        sym c.2 ∙ n.same,
        shows_resent i s g m at k c.0 c.1 c.4 (subst (λ x. is_conveyed at (standing sights (ahead_by x base)) ≡ true) c.3 n.shows),
      )
  proof_of i s g m at k None h = λ proof shown.
      let y = resent_in_time i s g m.copy m.key m.kind at k proof shown in
      absurd (let there = y.1 in cc)

  -- ---- units near the beginning

  -- a key near the first is near all
  near_first : (xs : List Sight) → sights ≡ xs → (key : ℕ) → is_early xs key ≡ true → (i : ℕ) (s : Sight) → slice_get sights i ≡ Some s → key < s.key + 2 ^ 12
  near_first [] e key h i s g = absurd (omega (arith, slice_get_within [] i s (ap (λ (ys : List Sight). slice_get ys i) (sym e) ∙ g)))
  near_first (first ∷ xs) e key h i s g =
      let near = lt_of (key - first.key) h in
      let lowest = first_lowest first xs (subst Rise e (they_rise p packets side base sights a)) i s (ap (λ (ys : List Sight). slice_get ys i) (sym e) ∙ g) in
      omega (arith, near, lowest)

  near_all : (xs : List Sight) → sights ≡ xs → (key : ℕ) (i : ℕ) (s : Sight) → slice_get sights i ≡ Some s → ((first : Sight) → slice_get sights 0 ≡ Some first → key < first.key + 2 ^ 12)
      → is_early xs key ≡ true
  near_all [] e key i s g h = absurd (omega (arith, slice_get_within [] i s (ap (λ (ys : List Sight). slice_get ys i) (sym e) ∙ g)))
  near_all (first ∷ xs) e key i s g h = of_lt (key - first.key) (omega (arith, h first (ap (λ (ys : List Sight). slice_get ys 0) e)))

  -- SNs are near as their keys are
  early_sn : (i : ℕ) (s : Sight) → slice_get sights i ≡ Some s → (m : IsSighted p packets side base s) → is_early sights s.key ≡ true
      → (other : FirstCopy) → IsCarried p packets side other → IsRecent other.pdu.safety.sn m.copy.pdu.safety.sn
  early_sn i s g m h other c =
      let t = sight_of p packets side base sights a other c in
      let near = near_first sights refl s.key h t.index t.sight t.there in
      let close = a.near t.index i t.sight s t.there g in
      recent_by_keys other.pdu.safety.sn m.copy.pdu.safety.sn base (omega (arith, near, m.key, t.key)) (omega (arith, close, m.key, t.key))

  early_key : (i : ℕ) (s : Sight) → slice_get sights i ≡ Some s → (copy : FirstCopy) → s.key ≡ ahead_by copy.pdu.safety.sn base
      → ((other : FirstCopy) → IsCarried p packets side other → IsRecent other.pdu.safety.sn copy.pdu.safety.sn) → is_early sights s.key ≡ true
  early_key i s g copy e h = near_all sights refl s.key i s g (λ first f.
      let o = are_sighted p packets side base sights a 0 first f in
      let up = a.near i 0 s first g f in
      let down = a.near 0 i first s f g in
      omega (arith, e, o.key, keys_by_recent o.copy.pdu.safety.sn copy.pdu.safety.sn base (omega (arith, up, e, o.key)) (omega (arith, down, e, o.key)) (h o.copy o.carried)))

  -- ---- the list

  abbrev unit_of : Sight → Option ResentUnit
  unit_of = unit_at base sights confirmations

  abbrev units : List ResentUnit
  units = filter_map unit_of sights

  listed : (i : ℕ) (u : ResentUnit) → slice_get units i ≡ Some u → IsResentListed p packets side u
  listed i u g =
      let n = picked unit_of sights i u g in
      let o = made_of base sights confirmations n.member u n.made in
      let m = are_sighted p packets side base sights a n.index n.member n.there in
      let sn : ℕ = m.copy.pdu.safety.sn in
      let own = through_settles p packets side base sights a sn o.at.lag (sn_fits p packets side m.copy m.carried) (ap (lag_through sights) (sym m.key) ∙ o.before.stands.lag) in
      record {
        copy = m.copy;
        first = first_of p packets side base sights confirmations a b n.index n.member n.there m;
        before = record {
          is_resent = ap (is_kind RetransmittedData) (sym m.kind) ∙ o.before.is_resent;
          lag = o.at.lag;
          settled = own.settles;
          few = λ from count d. omega (arith, few_up_to p packets side base sights a n.index sn n.member n.there m.key from count d, o.before.few, o.before.stands.count);
          early = early_sn n.index n.member n.there m o.before.early;
        };
        place = sym m.place ∙ o.place;
        messages = sym o.messages ∙ m.messages;
        proof = proof_of n.index n.member n.there m o.at o.before u.proof_place o.proof_place;
      }

  -- the SN of a unit has the key of its sight
  key_of : (u : ResentUnit) (n : IsPicked unit_of sights u) (l : IsResentListed p packets side u) → n.member.key ≡ ahead_by l.copy.pdu.safety.sn base
  key_of u n l =
      let o = made_of base sights confirmations n.member u n.made in
      let m = are_sighted p packets side base sights a n.index n.member n.there in
      m.key ∙ ap (λ k. ahead_by k base) (sn_of_place p packets side m.copy l.copy m.carried l.first.carried (sym m.place ∙ o.place ∙ sym l.place))

  rising : (i : ℕ) (u next : ResentUnit) (l : IsResentListed p packets side u) (m : IsResentListed p packets side next) → slice_get units i ≡ Some u → slice_get units (suc i) ≡ Some next
      → LiesBehind m.copy.pdu.safety.sn l.copy.pdu.safety.sn
  rising i u next l m g h =
      let n = both_picked unit_of sights i (suc i) u next (omega arith) g h in
      let order : n.one.member.key < n.other.member.key = (they_rise p packets side base sights a).apart n.one.index n.other.index n.one.member n.other.member n.order n.one.there n.other.there in
      let near : n.other.member.key < n.one.member.key + 2 ^ 31 = a.near n.other.index n.one.index n.other.member n.one.member n.other.there n.one.there in
      let own = key_of u n.one l in
      let other = key_of next n.other m in (
        key_before l.copy.pdu.safety.sn m.copy.pdu.safety.sn base (omega (arith, order, own, other)) (omega (arith, near, own, other)),
        key_up_to l.copy.pdu.safety.sn m.copy.pdu.safety.sn base (omega (arith, order, own, other)) (omega (arith, near, own, other)),
      )

  all : (copy : FirstCopy) → IsCarried p packets side copy → IsFirstSentBefore p packets side copy
      → (i : ℕ) × (u : ResentUnit) × (slice_get units i ≡ Some u) × IsOfData p packets side copy u.place u.proof_place
  all copy c f =
      let t = sight_of p packets side base sights a copy c in
      let sn : ℕ = copy.pdu.safety.sn in
      let is_resent : is_kind RetransmittedData t.sight.kind ≡ true = ap (is_kind RetransmittedData) t.kind ∙ f.is_resent in
      let lag = resent_lag p packets side base sights a t.index t.sight t.there is_resent sn f.lag t.key f.settled in
      let own = through_settles p packets side base sights a sn f.lag (sn_fits p packets side copy c) (ap (lag_through sights) (sym t.key) ∙ lag.is) in
      let every = all_up_to p packets side base sights a t.index sn f.lag t.sight t.there t.key own in
      let at : Standing = record { key = t.sight.key; data_count = up_to t.sight.key (data_among sights); lag = f.lag } in
      let before : first_sent_before sights t.sight ≡ Some at = sent_before sights t.sight f.lag is_resent (early_key t.index t.sight t.there copy t.key f.early) lag.is (f.few every.0 (up_to t.sight.key (data_among sights)) every.1) in
      let u : ResentUnit = record { place = t.sight.place; proof_place = first_proof base sights at confirmations; messages = t.sight.messages } in
      let made : unit_of t.sight ≡ Some u = ap (unit_with base sights confirmations t.sight) before in
      let n = picked_there unit_of sights t.index t.sight u t.there made in
      let o = are_sighted p packets side base sights a t.index t.sight t.there in
      let k = is_sent_before sights t.sight at before in (
        n.0,
        u,
        n.1,
        record {
          copy = o.copy;
          carried = o.carried;
          place = sym o.place;
          same_sn = same_sn o.copy.pdu.safety.sn sn base (sn_fits p packets side o.copy o.carried) (sn_fits p packets side copy c) (sym o.key ∙ t.key);
          in_time = λ proof s. resent_in_time t.index t.sight t.there copy t.key t.kind at k proof s;
        },
      )

  are_resent : AreResent p packets side units
  are_resent = record { listed = listed; rising = rising; all = all }

-- such a list is what the packets show
pub is_resent_listing : (base : ℕ) (sights : List Sight) (confirmations : List Confirmation) (made : List ResentUnit)
    → (Rise sights → made ≡ filter_map (unit_at base sights confirmations) sights) → IsResentListing base sights confirmations made
is_resent_listing base sights confirmations made e p packets side a b =
    subst (AreResent p packets side) (sym (e (they_rise p packets side base sights a))) (are_resent p packets side base sights confirmations a b)

module _ (base : ℕ) (sights inside : List Sight) (confirmations : List Confirmation) (same : inside ≡ sights) (found : List Resent)
    (found_is : Rise inside → found ≡ filter_map (resent_at inside) inside) (made : List ResentUnit) where
  -- so is the list of what was found among the sights, with what is settled at the confirmations
  pub is_listing_of_found : (settled : List Settlement) → (Rise inside → settled ≡ map (settled_at base inside) confirmations) → made ≡ map (unit_by settled) found
      → IsResentListing base sights confirmations made
  is_listing_of_found settled settled_is made_is =
      subst (λ (xs : List Sight). IsResentListing base xs confirmations made) same
      (is_resent_listing base inside confirmations made
      (λ r. made_is ∙ ap (λ (ss : List Settlement). map (unit_by ss) found) (settled_is r)
      ∙ ap (map (unit_by (map (settled_at base inside) confirmations))) (found_is r) ∙ units_picked base inside confirmations inside))

  -- and the empty one, where nothing was found
  pub is_listing_of_none : found ≡ [] → made ≡ [] → IsResentListing base sights confirmations made
  is_listing_of_none none e =
      is_listing_of_found (map (settled_at base inside) confirmations) (λ r. refl) (e ∙ ap (map (unit_by (map (settled_at base inside) confirmations))) (sym none))
