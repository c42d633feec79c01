-- How many data lie behind an SN, by the sights of data, against the data that were captured behind it.
use Rattle.std.proofs.Common.{◌≡◌, ℕ, zero, suc, ◌+◌, ◌-◌, ◌<◌, ◌≤◌, ◌^◌, true, inl, inr, List, Some, slice_get, refl, ap, sym, ◌∙◌, subst, arith}
use Rattle.std.proofs.lemmas.Bool.{cases_lt}
use Rattle.rasta_pcap.specs.declared.fault.Side.{Side}
use Rattle.rasta_udp.specs.Frame.{Packet}
use Rattle.rasta_pdu.specs.Params.{Parameters}
use Rattle.rasta_pdu.specs.Pdu.{is_kind}
use Rattle.rasta_pdu.specs.declared.kind.Kind.TheVariants.{Data}
use Rattle.rasta_end.specs.State.{ahead_by, wrapped}
use Rattle.rasta_check.proofs.Lists.{slice_get_some}
use Rattle.rasta_check.specs.Model.Middle.{DataBehind, none_behind, one_behind}
use Rattle.rasta_check.specs.declared.sights.Sight.{Sight}
use Rattle.rasta_check.specs.Middle.Sights.{AreSights}
use Rattle.rasta_check.specs.Internals.Conveyed.{Rise, up_to, data_among}
use Rattle.rasta_check.proofs.Middle.Keys.{key_up_to, key_before, before_key, up_to_key, up_to_near}
use Rattle.rasta_check.proofs.Middle.Rising.{data_at, data_kept, data_rise, up_to_low, up_to_high, up_to_within, up_to_more, up_to_below}
use Rattle.rasta_check.proofs.Middle.Sighted.{IsSighted, sn_fits, are_sighted, they_rise, sight_of}
use Rattle.rasta_check.proofs.Middle.Lags.{IsNear, IsSettled, IsAnchored}

-- an SN lies behind the one before it
one_before : (sn : ℕ) → sn < 2 ^ 32 → (0 < ahead_by sn (wrapped (sn + (2 ^ 32 - 1)))) × (ahead_by sn (wrapped (sn + (2 ^ 32 - 1))) < 2 ^ 31)
one_before sn l = (omega arith, omega arith)

module _ (p : Parameters) (packets : List Packet) (side : Side) (base : ℕ) (sights : List Sight) (a : AreSights p packets side base sights) where
  abbrev data_sights : List Sight
  data_sights = data_among sights

  pub rise_too : Rise data_sights
  rise_too = data_rise sights (they_rise p packets side base sights a)

  -- a sight of data is that of data
  pub record IsDataSight (d : Sight) : Type 0 where
    pub index : ℕ
    pub there : slice_get sights index ≡ Some d
    pub sighted : IsSighted p packets side base d
    pub data_copy : is_kind Data sighted.copy.pdu.safety.kind ≡ true

  pub data_sight : (k : ℕ) (d : Sight) → slice_get data_sights k ≡ Some d → IsDataSight d
  data_sight k d g =
      let m = data_at sights k d g in
      let s = are_sighted p packets side base sights a m.0 d m.1 in
      record { index = m.0; there = m.1; sighted = s; data_copy = ap (is_kind Data) (sym s.kind) ∙ m.2 }

  -- sights of data lie within 2^31
  pub near_data : (i j : ℕ) (s t : Sight) → slice_get data_sights i ≡ Some s → slice_get data_sights j ≡ Some t → s.key < t.key + 2 ^ 31
  near_data i j s t g h = (let m = data_sight i s g in let n = data_sight j t h in a.near m.index n.index s t m.there n.there)

  -- and sights before a settled SN as near to it
  near_below : (sn lag : ℕ) → IsSettled p packets side base sights a sn lag → (i : ℕ) (x : Sight) → slice_get sights i ≡ Some x → ahead_by sn base < x.key + 2 ^ 31
  near_below sn lag s i x g =
      let n = a.near s.index i s.sight x s.there g in
      elim s.near [ inl own ↦ omega (arith, own, n) | inr next ↦ omega (arith, next, n) ]

  -- the data behind one are captured
  pub behind : (n k sn : ℕ) (d : Sight) (last lag : ℕ) → IsSettled p packets side base sights a last lag → slice_get data_sights k ≡ Some d → d.key ≡ ahead_by sn base
      → k + n < up_to (ahead_by last base) data_sights → DataBehind p packets side sn last n
  behind zero k sn d last lag s g e l =
      none_behind (key_up_to sn last base (omega (arith, e, up_to_low (ahead_by last base) data_sights k d g (omega (arith, l)))) (let m = data_sight k d g in omega (arith, e, near_below last lag s m.index d m.there)))
  behind (suc n) k sn d last lag s g e l =
      let next = slice_get_some data_sights (suc k) (omega (arith, l, up_to_within (ahead_by last base) data_sights)) in
      let m = data_sight (suc k) next.0 next.1 in
      let c = m.sighted in
      let rise : d.key < next.0.key = rise_too.apart k (suc k) d next.0 (omega arith) g next.1 in
      let near : next.0.key < d.key + 2 ^ 31 = near_data (suc k) k next.0 d next.1 g in
      one_behind c.copy c.carried m.data_copy
      (key_before sn c.copy.pdu.safety.sn base (omega (arith, e, c.key, rise)) (omega (arith, e, c.key, near)))
      (key_up_to sn c.copy.pdu.safety.sn base (omega (arith, e, c.key, rise)) (omega (arith, e, c.key, near)))
      (behind n (suc k) c.copy.pdu.safety.sn next.0 last lag s next.1 c.key (omega (arith, l)))

  -- ---- behind any sight

  -- the data behind one are captured
  pub behind_sight : (n i sn : ℕ) (x : Sight) (last lag : ℕ) → IsSettled p packets side base sights a last lag → slice_get sights i ≡ Some x → x.key ≡ ahead_by sn base
      → x.key ≤ ahead_by last base → up_to x.key data_sights + n ≤ up_to (ahead_by last base) data_sights → DataBehind p packets side sn last n
  behind_sight zero i sn x last lag s g e below l =
      none_behind (key_up_to sn last base (omega (arith, e, below)) (omega (arith, e, near_below last lag s i x g)))
  behind_sight (suc n) i sn x last lag s g e below l =
      let k : ℕ = up_to x.key data_sights in
      let next = slice_get_some data_sights k (omega (arith, l, up_to_within (ahead_by last base) data_sights)) in
      let m = data_sight k next.0 next.1 in
      let c = m.sighted in
      let rise : x.key < next.0.key = beyond x.key k next.0 next.1 refl in
      let near : next.0.key < x.key + 2 ^ 31 = a.near m.index i next.0 x m.there g in
      one_behind c.copy c.carried m.data_copy
      (key_before sn c.copy.pdu.safety.sn base (omega (arith, e, c.key, rise)) (omega (arith, e, c.key, near)))
      (key_up_to sn c.copy.pdu.safety.sn base (omega (arith, e, c.key, rise)) (omega (arith, e, c.key, near)))
      (behind n k c.copy.pdu.safety.sn next.0 last lag s next.1 c.key (omega (arith, l)))
    where
      beyond : (key k : ℕ) (d : Sight) → slice_get data_sights k ≡ Some d → k ≡ up_to key data_sights → key < d.key
      beyond key k d h same =
          elim (cases_lt key d.key) [
            | inl less ↦ less
            | inr more ↦ absurd (omega (arith, same, up_to_high key data_sights k d rise_too h more))
          ]

  -- and no more are captured than have sights; the first lies before the SN
  pub record IsReached (last first total : ℕ) : Type 0 where
    pub below : first ≤ ahead_by last base
    pub most : total ≤ up_to (ahead_by last base) data_sights
    pub anchored : IsAnchored p packets side base sights a (ahead_by last base)

  pub behind_sight_most : (i sn last count : ℕ) (x : Sight) → IsNear sights base last → slice_get sights i ≡ Some x → x.key ≡ ahead_by sn base → DataBehind p packets side sn last count
      → IsReached last x.key (up_to x.key data_sights + count)
  behind_sight_most i sn last count x o g e (none_behind l) =
      let below : ahead_by sn base ≤ ahead_by last base = up_to_key sn last base o.sight.key l o.near
      (omega (arith, e, a.near i o.index x o.sight g o.there)) (omega (arith, e, a.near o.index i o.sight x o.there g)) in
      record {
        below = omega (arith, e, below);
        most = omega (arith, up_to_more x.key (ahead_by last base) data_sights (omega (arith, e, below)));
        anchored = record { index = i; anchor = x; there = g; before = omega (arith, e, below); not_far = omega (arith, e, up_to_near sn last base l below) };
      }
  behind_sight_most i sn last count x o g e (one_behind {count = fewer} copy c f z l r) =
      let t = sight_of p packets side base sights a copy c in
      let kept = data_kept sights t.index t.sight t.there (ap (is_kind Data) t.kind ∙ f) in
      let rise : ahead_by sn base < ahead_by copy.pdu.safety.sn base = before_key sn copy.pdu.safety.sn base z l
      (omega (arith, e, t.key, a.near i t.index x t.sight g t.there)) (omega (arith, e, t.key, a.near t.index i t.sight x t.there g)) in
      let order : up_to x.key data_sights ≤ kept.0 = up_to_below x.key data_sights kept.0 t.sight kept.1 (omega (arith, e, t.key, rise)) in
      let own : kept.0 < up_to t.sight.key data_sights = up_to_high t.sight.key data_sights kept.0 t.sight rise_too kept.1 (omega arith) in
      let rest = behind_sight_most t.index copy.pdu.safety.sn last fewer t.sight o t.there t.key r in
      record { below = omega (arith, e, t.key, rise, rest.below); most = omega (arith, order, own, rest.most); anchored = rest.anchored }

  -- ---- all data up to a sight

  pub few_up_to : (i sn : ℕ) (x : Sight) → slice_get sights i ≡ Some x → x.key ≡ ahead_by sn base → (from count : ℕ) → DataBehind p packets side from sn count
      → count ≤ up_to x.key data_sights
  few_up_to i sn x g e from count (none_behind l) = omega arith
  few_up_to i sn x g e from count (one_behind {count = fewer} copy c f z l r) =
      let t = sight_of p packets side base sights a copy c in
      let kept = data_kept sights t.index t.sight t.there (ap (is_kind Data) t.kind ∙ f) in
      let own : kept.0 < up_to t.sight.key data_sights = up_to_high t.sight.key data_sights kept.0 t.sight rise_too kept.1 (omega arith) in
      let rest = behind_sight_most t.index copy.pdu.safety.sn sn fewer t.sight (record { index = i; sight = x; there = g; near = inl e }) t.there t.key r in
      let most : up_to t.sight.key data_sights + fewer ≤ up_to x.key data_sights = subst (λ k. up_to t.sight.key data_sights + fewer ≤ up_to k data_sights) (sym e) rest.most in
      omega (arith, own, most)

  pub all_up_to : (i sn lag : ℕ) (x : Sight) → slice_get sights i ≡ Some x → x.key ≡ ahead_by sn base → IsSettled p packets side base sights a sn lag
      → (from : ℕ) × DataBehind p packets side from sn (up_to x.key data_sights)
  all_up_to i sn lag x g e s = from_first (up_to x.key data_sights) refl
    where
      from_first : (n : ℕ) → up_to x.key data_sights ≡ n → (from : ℕ) × DataBehind p packets side from sn n
      from_first zero same = (sn, none_behind (omega arith))
      from_first (suc n) same =
          let d = slice_get_some data_sights 0 (omega (arith, same, up_to_within x.key data_sights)) in
          let m = data_sight 0 d.0 d.1 in
          let c = m.sighted in
          let first : ℕ = c.copy.pdu.safety.sn in
          let fits : first < 2 ^ 32 = sn_fits p packets side c.copy c.carried in
          let reach : up_to (ahead_by sn base) data_sights ≡ suc n = ap (λ k. up_to k data_sights) (sym e) ∙ same in
          let rest = behind n 0 first d.0 sn lag s d.1 c.key (omega (arith, reach)) in
          (wrapped (first + (2 ^ 32 - 1)), one_behind c.copy c.carried m.data_copy (one_before first fits).0 (one_before first fits).1 rest)
