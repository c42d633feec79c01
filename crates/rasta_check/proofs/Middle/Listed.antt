-- The units are the captured data, and those have a proof that the packets show.
use Rattle.std.proofs.Common.{◌≡◌, ℕ, zero, suc, ◌+◌, ◌<◌, ◌≤◌, ◌^◌, inl, inr, true, List, [], Option, Some, None, IsSome, slice_get, ap, sym, ◌∙◌, arith, subst}
use Rattle.std.proofs.lemmas.Bool.{cases_lt}
use Rattle.std.proofs.lemmas.Option.{slice_get_within}
use Rattle.rasta_pcap.specs.declared.fault.Side.{Side}
use Rattle.rasta_udp.specs.Frame.{Packet}
use Rattle.rasta_pdu.specs.Params.{Parameters}
use Rattle.rasta_pdu.specs.Pdu.{is_kind}
use Rattle.rasta_pdu.specs.declared.kind.Kind.TheVariants.{Data}
use Rattle.rasta_end.specs.State.{ahead_by}
use Rattle.rasta_check.proofs.Lists.{slice_get_some}
use Rattle.rasta_check.specs.Capture.SentLists.{FirstCopy, IsCarried}
use Rattle.rasta_check.specs.Model.World.{other_side}
use Rattle.rasta_check.specs.Model.Middle.{Shows}
use Rattle.rasta_check.specs.declared.sights.Sight.{Sight}
use Rattle.rasta_check.specs.declared.sights.Confirmation.{Confirmation}
use Rattle.rasta_check.specs.declared.sights.ShownUnit.{ShownUnit}
use Rattle.rasta_check.specs.Middle.Sights.{AreSights, AreConfirmations}
use Rattle.rasta_check.specs.Middle.Shown.{IsFirst, IsProofOf, IsOfData, LiesBehind, IsListed, AreShown, IsListing}
use Rattle.rasta_check.specs.Internals.Conveyed.{Rise, data_among, conveyed_through, proofs_by, unit_of, AreUnits}
use Rattle.rasta_check.proofs.Middle.Keys.{same_sn, key_before, key_up_to}
use Rattle.rasta_check.proofs.Middle.Rising.{data_kept, same_place}
use Rattle.rasta_check.proofs.Middle.Sighted.{IsSighted, sn_fits, sn_of_place, they_rise, are_sighted, sight_of}
use Rattle.rasta_check.proofs.Middle.Behind.{data_sight, rise_too, near_data}
use Rattle.rasta_check.proofs.Middle.Conveyed.{shows, conveyed}
use Rattle.rasta_check.proofs.Middle.ProofPlaces.{IsProof, proof_there, proved, IsUnitOf, unit_at, first_proved}

-- confirmations are in the order of their places
pub in_turn : (confirmations : List Confirmation) → ((i : ℕ) (c next : Confirmation) → slice_get confirmations i ≡ Some c → slice_get confirmations (suc i) ≡ Some next → c.place < next.place)
    → (i j : ℕ) (c x : Confirmation) → j ≤ i → slice_get confirmations i ≡ Some c → slice_get confirmations j ≡ Some x → x.place ≤ c.place
in_turn confirmations h i j c x l g f =
    elim (cases_lt j i) [
      | inl less ↦ before i c g less
      | inr more ↦
          let e : i ≡ j = omega arith in
          let both : Some c ≡ Some x = sym g ∙ ap (slice_get confirmations) e ∙ f in
          let one : c ≡ x = cc in
          omega (arith, ap (λ (y : Confirmation). y.place) one)
    ]
  where
    before : (i : ℕ) (c : Confirmation) → slice_get confirmations i ≡ Some c → j < i → x.place ≤ c.place
    before zero c g less = absurd (omega arith)
    before (suc i) c g less =
        let last = slice_get_some confirmations i (omega (arith, slice_get_within confirmations (suc i) c g)) in
        let step : last.0.place < c.place = h i last.0 c last.1 g in
        elim (cases_lt j i) [
          | inl still ↦ omega (arith, step, before i last.0 last.1 still)
          | inr same ↦
              let e : j ≡ i = omega arith in
              let both : Some x ≡ Some last.0 = sym f ∙ ap (slice_get confirmations) e ∙ last.1 in
              let one : x ≡ last.0 = cc in
              omega (arith, step, ap (λ (y : Confirmation). y.place) one)
        ]

module _ (p : Parameters) (packets : List Packet) (side : Side) (base : ℕ) (sights : List Sight) (confirmations : List Confirmation)
    (a : AreSights p packets side base sights) (b : AreConfirmations p packets (other_side side) confirmations) where
  abbrev places : List ℕ
  places = proofs_by base sights [] confirmations

  -- the PDU of a sight is the first with its SN
  pub first_of : (i : ℕ) (s : Sight) → slice_get sights i ≡ Some s → (m : IsSighted p packets side base s) → IsFirst p packets side m.copy
  first_of i s g m =
      record {
        carried = m.carried;
        first = λ other o e.
            let t = sight_of p packets side base sights a other o in
            let keys : t.sight.key ≡ s.key = t.key ∙ ap (λ n. ahead_by n base) e ∙ sym m.key in
            let index : t.index ≡ i = same_place sights t.index i t.sight s (they_rise p packets side base sights a) t.there g keys in
            let both : Some t.sight ≡ Some s = sym t.there ∙ ap (slice_get sights) index ∙ g in
            let one : t.sight ≡ s = cc in
            omega (arith, t.no_later, m.place, ap (λ (x : Sight). x.place) one);
      }

  -- ---- proofs

  -- the place of a proof is that of a PDU that shows the data
  proof_shows : (i : ℕ) (d : Sight) (g : slice_get (data_among sights) i ≡ Some d) (place : ℕ) → slice_get places i ≡ Some place
      → (proof : FirstCopy) × (proof.place ≡ place) × Shows p packets side (data_sight p packets side base sights a i d g).sighted.copy proof
  proof_shows i d g place h =
      let m : IsProof base sights confirmations i place = elim (proof_there base sights confirmations [] i place h) [
        | inl none ↦ absurd (omega (arith, slice_get_within [] i place none))
        | inr there ↦ there
      ] in
      let c = b.confirming m.index m.confirmation m.there in (
        c.0,
        sym c.2 ∙ m.same,
        shows p packets side base sights a i d g c.0 c.1 c.4 (subst (λ n. i < conveyed_through sights (ahead_by n base)) c.3 m.shows),
      )

  -- data that a PDU shows have a proof, which is no later
  shown_in_time : (i : ℕ) (d : Sight) → slice_get (data_among sights) i ≡ Some d → (data_copy proof : FirstCopy) → d.key ≡ ahead_by data_copy.pdu.safety.sn base
      → is_kind Data data_copy.pdu.safety.kind ≡ true → Shows p packets side data_copy proof → (place : ℕ) × (slice_get places i ≡ Some place) × (place ≤ proof.place)
  shown_in_time i d g data_copy proof e f s =
      let c = b.all proof s.shown_by s.confirms in
      let l = conveyed p packets side base sights a i d g data_copy proof e f s in
      let y = proved base sights confirmations [] c.0 c.1 i c.2 (subst (λ n. i < conveyed_through sights (ahead_by n base)) (sym c.4) l)
      (λ j x le h. in_turn confirmations b.rising c.0 j c.1 x le c.2 h) (λ r z h. absurd (omega (arith, slice_get_within [] r z h))) in
      (y.0, y.1, omega (arith, y.2, c.3))

  proof_of : (i : ℕ) (d : Sight) (g : slice_get (data_among sights) i ≡ Some d) (place : Option ℕ) → slice_get places i ≡ place
      → IsProofOf p packets side (data_sight p packets side base sights a i d g).sighted.copy place
  proof_of i d g (Some place) h = proof_shows i d g place h
  proof_of i d g None h = λ proof s.
      let m = data_sight p packets side base sights a i d g in
      let y = shown_in_time i d g m.sighted.copy proof m.sighted.key m.data_copy s in
      absurd (let there = y.1 in cc)

  -- ---- units

  module _ (units : List ShownUnit) (are_units : AreUnits (data_among sights) places units) where
    unit : (i : ℕ) (u : ShownUnit) → slice_get units i ≡ Some u → IsUnitOf (data_among sights) places i u
    unit i u g = unit_at (data_among sights) places units are_units i u g

    listed : (i : ℕ) (u : ShownUnit) → slice_get units i ≡ Some u → IsListed p packets side u
    listed i u g =
        let m = unit i u g in
        let d = data_sight p packets side base sights a i m.sight m.data_there in
        record {
          data_copy = d.sighted.copy;
          first = record { first = first_of d.index m.sight d.there d.sighted; is_data = d.data_copy };
          data_place = sym d.sighted.place ∙ m.data_place;
          messages = sym m.messages ∙ d.sighted.messages;
          proof = proof_of i m.sight m.data_there u.proof_place m.proof_place;
        }

    -- the SN of a unit's data has the key of their sight
    key_of : (i : ℕ) (u : ShownUnit) (g : slice_get units i ≡ Some u) (l : IsListed p packets side u) → (unit i u g).sight.key ≡ ahead_by l.data_copy.pdu.safety.sn base
    key_of i u g l =
        let m = unit i u g in
        let d = data_sight p packets side base sights a i m.sight m.data_there in
        d.sighted.key
        ∙ ap (λ n. ahead_by n base) (sn_of_place p packets side d.sighted.copy l.data_copy d.sighted.carried l.first.first.carried (sym d.sighted.place ∙ m.data_place ∙ sym l.data_place))

    rising : (i : ℕ) (u next : ShownUnit) (l : IsListed p packets side u) (m : IsListed p packets side next) → slice_get units i ≡ Some u → slice_get units (suc i) ≡ Some next
        → LiesBehind m.data_copy.pdu.safety.sn l.data_copy.pdu.safety.sn
    rising i u next l m g h =
        let d = unit i u g in
        let e = unit (suc i) next h in
        let order : d.sight.key < e.sight.key = (rise_too p packets side base sights a).apart i (suc i) d.sight e.sight (omega arith) d.data_there e.data_there in
        let near : e.sight.key < d.sight.key + 2 ^ 31 = near_data p packets side base sights a (suc i) i e.sight d.sight e.data_there d.data_there in
        let own = key_of i u g l in
        let other = key_of (suc i) next h m in (
          key_before l.data_copy.pdu.safety.sn m.data_copy.pdu.safety.sn base (omega (arith, order, own, other)) (omega (arith, near, own, other)),
          key_up_to l.data_copy.pdu.safety.sn m.data_copy.pdu.safety.sn base (omega (arith, order, own, other)) (omega (arith, near, own, other)),
        )

    all : (data_copy : FirstCopy) → IsCarried p packets side data_copy → is_kind Data data_copy.pdu.safety.kind ≡ true
        → (i : ℕ) × (u : ShownUnit) × (slice_get units i ≡ Some u) × IsOfData p packets side data_copy u.data_place u.proof_place
    all data_copy c f =
        let t = sight_of p packets side base sights a data_copy c in
        let k = data_kept sights t.index t.sight t.there (ap (is_kind Data) t.kind ∙ f) in
        let o = are_sighted p packets side base sights a t.index t.sight t.there in (
          k.0,
          unit_of t.sight (slice_get places k.0),
          are_units.each k.0 t.sight k.1,
          record {
            copy = o.copy;
            carried = o.carried;
            place = sym o.place;
            same_sn = same_sn o.copy.pdu.safety.sn data_copy.pdu.safety.sn base (sn_fits p packets side o.copy o.carried) (sn_fits p packets side data_copy c) (sym o.key ∙ t.key);
            in_time = λ proof s. shown_in_time k.0 t.sight k.1 data_copy proof t.key f s;
          },
        )

    proofs_first : (i j : ℕ) (u later : ShownUnit) → i < j → slice_get units i ≡ Some u → slice_get units j ≡ Some later → IsSome later.proof_place → IsSome u.proof_place
    proofs_first i j u later l g h s =
        let m = unit i u g in
        let n = unit j later h in
        subst IsSome m.proof_place (first_proved places i j l (subst IsSome (sym n.proof_place) s))

    are_shown : AreShown p packets side units
    are_shown = record { listed = listed; rising = rising; all = all; proofs_first = proofs_first }

-- such a list is what the packets show
pub is_listing : (base : ℕ) (sights data_sights : List Sight) (confirmations : List Confirmation) (proofs : List ℕ) (units : List ShownUnit)
    → data_sights ≡ data_among sights → (Rise sights → proofs ≡ proofs_by base sights [] confirmations) → AreUnits data_sights proofs units
    → IsListing base sights confirmations units
is_listing base sights data_sights confirmations proofs units d e u p packets side a b =
    are_shown p packets side base sights confirmations a b units
    (subst (λ (xs : List Sight). AreUnits xs (proofs_by base sights [] confirmations) units) d
    (subst (λ (ps : List ℕ). AreUnits data_sights ps units) (e (they_rise p packets side base sights a)) u))
