-- How many data are conveyed through a confirmed SN, by the sights, against what a PDU of the peer shows.
use Rattle.std.proofs.Common.{◌≡◌, ℕ, suc, ◌+◌, ◌-◌, ◌<◌, true, false, List, Option, Some, None, slice_get, refl, ap, sym, arith}
use Rattle.rasta_pcap.specs.declared.fault.Side.{Side}
use Rattle.rasta_udp.specs.Frame.{Packet}
use Rattle.rasta_pdu.specs.Params.{Parameters}
use Rattle.rasta_pdu.specs.Pdu.{is_kind}
use Rattle.rasta_pdu.specs.declared.kind.Kind.{Kind}
use Rattle.rasta_pdu.specs.declared.kind.Kind.TheVariants.{ConnectionRequest, Data, RetransmittedData}
use Rattle.rasta_end.specs.State.{ahead_by}
use Rattle.rasta_check.specs.Capture.SentLists.{FirstCopy, IsCarried}
use Rattle.rasta_check.specs.Model.World.{other_side}
use Rattle.rasta_check.specs.Model.Middle.{OwnLag, fresh, resent, Shows}
use Rattle.rasta_check.specs.declared.sights.Sight.{Sight}
use Rattle.rasta_check.specs.Middle.Sights.{AreSights}
use Rattle.rasta_check.specs.Internals.Conveyed.{up_to, data_among, lag_through, less_lag, conveyed_through}
use Rattle.rasta_check.proofs.Middle.Lags.{near_settled, least_lag, through_settles}
use Rattle.rasta_check.proofs.Middle.Behind.{data_sight, rise_too, behind, behind_sight_most}
use Rattle.rasta_check.proofs.Middle.Rising.{up_to_own}

-- where some are conveyed, it is told how many lag behind
some_conveyed : (k reach : ℕ) (lag : Option ℕ) → k < less_lag reach lag → (n : ℕ) × (lag ≡ Some n) × (k + n < reach)
some_conveyed k reach None l = absurd (omega arith)
some_conveyed k reach (Some n) l = (n, refl, omega arith)

pub not_both : (k : Kind) → is_kind RetransmittedData k ≡ true → is_kind Data k ≡ true → ⊥
not_both k h g = grind (arith, h, g)

none_own : (p : Parameters) (packets : List Packet) (side : Side) (copy : FirstCopy) (lag : ℕ) → OwnLag p packets side copy lag → is_kind Data copy.pdu.safety.kind ≡ true → lag ≡ 0
none_own p packets side copy lag (fresh k) h = refl
none_own p packets side copy lag (resent k s) h = absurd (not_both copy.pdu.safety.kind k h)

module _ (p : Parameters) (packets : List Packet) (side : Side) (base : ℕ) (sights : List Sight) (a : AreSights p packets side base sights) where
  -- data that are conveyed are shown
  pub shows : (k : ℕ) (d : Sight) (g : slice_get (data_among sights) k ≡ Some d) (proof : FirstCopy) → IsCarried p packets (other_side side) proof
      → is_kind ConnectionRequest proof.pdu.safety.kind ≡ false → k < conveyed_through sights (ahead_by proof.pdu.safety.cs base)
      → Shows p packets side (data_sight p packets side base sights a k d g).sighted.copy proof
  unfolding conveyed_through
  shows k d g proof c r l =
      let cs : ℕ = proof.pdu.safety.cs in
      let m = data_sight p packets side base sights a k d g in
      let n = some_conveyed k (up_to (ahead_by cs base) (data_among sights)) (lag_through sights (ahead_by cs base)) l in
      let s = through_settles p packets side base sights a cs n.0 c.spelled.fits.cs n.1 in
      record {
        carried = m.sighted.carried;
        own_lag = 0;
        own = fresh m.data_copy;
        shown_by = c;
        confirms = r;
        lag = n.0;
        settled = s.settles;
        later = n.0;
        behind = behind p packets side base sights a n.0 k m.sighted.copy.pdu.safety.sn d cs n.0 s g m.sighted.key n.2;
        enough = omega arith;
      }

  -- and data that are shown are conveyed
  pub conveyed : (k : ℕ) (d : Sight) → slice_get (data_among sights) k ≡ Some d → (data_copy proof : FirstCopy) → d.key ≡ ahead_by data_copy.pdu.safety.sn base
      → is_kind Data data_copy.pdu.safety.kind ≡ true → Shows p packets side data_copy proof → k < conveyed_through sights (ahead_by proof.pdu.safety.cs base)
  unfolding conveyed_through
  conveyed k d g data_copy proof e f s =
      let cs : ℕ = proof.pdu.safety.cs in
      let i = data_sight p packets side base sights a k d g in
      let b = behind_sight_most p packets side base sights a i.index data_copy.pdu.safety.sn cs s.later d (near_settled p packets side base sights a cs s.lag s.settled) i.there e s.behind in
      let own : up_to d.key (data_among sights) ≡ suc k = up_to_own d.key (data_among sights) k d (rise_too p packets side base sights a) g refl in
      let m = least_lag p packets side base sights a cs s.lag b.anchored s.settled in
      let none : s.own_lag ≡ 0 = none_own p packets side data_copy s.own_lag s.own f in
      let reach : ℕ = up_to (ahead_by cs base) (data_among sights) in
      let most : k + s.later < reach = omega (arith, own, b.most) in
      let some : k < reach - m.least = omega (arith, most, m.at_most, s.enough, none) in
      let same : less_lag reach (Some m.least) ≡ less_lag reach (lag_through sights (ahead_by cs base)) = ap (less_lag reach) (sym m.is) in
      omega (arith, some, same)
