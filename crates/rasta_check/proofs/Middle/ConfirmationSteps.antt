-- The confirmations of a side, with one packet more.
use Rattle.std.proofs.Common.{◌≡◌, ℕ, suc, ◌<◌, ◌≤◌, false, List, [], ◌∷◌, ◌++◌, length, Some, slice_get, ap, sym, ◌∙◌, arith, ⊎_elim}
use Rattle.rasta_check.proofs.Prelude.{Side, Packet, Parameters, RedundancyPdu, FirstCopy, Spells, is_kind, ConnectionRequest, all_push, get_front, get_push, get_push_cases, slice_get_within}
use Rattle.rasta_check.specs.Capture.SentLists.{IsCarried}
use Rattle.rasta_check.specs.declared.sights.Confirmation.{Confirmation}
use Rattle.rasta_check.specs.Middle.Sights.{AreConfirmations}
use Rattle.rasta_check.proofs.Middle.Carried.{old, new, carried_more, carried_cases, carried_before}

module _ (p : Parameters) (packets : List Packet) (k : Packet) (side : Side) (cs : List Confirmation) (h : AreConfirmations p packets side cs) where
  abbrev IsConfirming : Confirmation → Type 0
  IsConfirming c = (copy : FirstCopy) × IsCarried p (packets ++ k ∷ []) side copy × (c.place ≡ copy.place) × (c.cs ≡ copy.pdu.safety.cs) × (is_kind ConnectionRequest copy.pdu.safety.kind ≡ false)

  still_confirming : (i : ℕ) (c : Confirmation) → slice_get cs i ≡ Some c → IsConfirming c
  still_confirming i c g = (let w = h.confirming i c g in (w.0, carried_more p packets k side w.0 w.1, w.2, w.3, w.4))

  -- the confirmations stay those where the last packet adds none
  confirmations_same : ((copy : FirstCopy) → copy.place ≡ length packets → k.side ≡ side → Spells p side copy.pdu k.payload → is_kind ConnectionRequest copy.pdu.safety.kind ≡ false
      → (i : ℕ) × (c : Confirmation) × (slice_get cs i ≡ Some c) × (c.place ≤ copy.place) × (c.cs ≡ copy.pdu.safety.cs))
      → AreConfirmations p (packets ++ k ∷ []) side cs
  confirmations_same last = record {
    confirming = still_confirming;
    all = λ copy c n. elim (carried_cases p packets k side copy c) [ old b ↦ h.all copy b n | new place of_side spelled ↦ last copy place of_side spelled n ];
    rising = h.rising;
  }

  -- it spells no PDU of the side
  pub confirmations_without : ((pdu : RedundancyPdu) → k.side ≡ side → Spells p side pdu k.payload → ⊥) → AreConfirmations p (packets ++ k ∷ []) side cs
  confirmations_without none = confirmations_same (λ copy place of_side spelled n. absurd (none copy.pdu of_side spelled))

  module _ (pdu : RedundancyPdu) (once : (other : RedundancyPdu) → Spells p side other k.payload → other ≡ pdu) where
    -- it is a connection request
    pub confirmations_with_request : (is_kind ConnectionRequest pdu.safety.kind ≡ false → ⊥) → AreConfirmations p (packets ++ k ∷ []) side cs
    confirmations_with_request request = confirmations_same (λ copy place of_side spelled n. absurd (request (ap (λ (d : RedundancyPdu). is_kind ConnectionRequest d.safety.kind) (sym (once copy.pdu spelled)) ∙ n)))

    -- it repeats a confirmation
    pub confirmations_with_copy : (i : ℕ) (c : Confirmation) → slice_get cs i ≡ Some c → c.cs ≡ pdu.safety.cs → AreConfirmations p (packets ++ k ∷ []) side cs
    confirmations_with_copy i c g same = confirmations_same (λ copy place of_side spelled n.
        let w = h.confirming i c g in
        let l = carried_before p packets k side w.0 w.1 in
        (i, c, g, omega (arith, l, place, w.2), same ∙ ap (λ (d : RedundancyPdu). d.safety.cs) (sym (once copy.pdu spelled))))

    module _ (of_side : k.side ≡ side) (spelled : Spells p side pdu k.payload) (confirms : is_kind ConnectionRequest pdu.safety.kind ≡ false)
        (d : Confirmation) (place : d.place ≡ length packets) (same : d.cs ≡ pdu.safety.cs) where
      abbrev newest : FirstCopy
      newest = record { place = length packets; pdu = pdu }

      rising_more : (i : ℕ) (c next : Confirmation) → slice_get (cs ++ d ∷ []) i ≡ Some c → slice_get (cs ++ d ∷ []) (suc i) ≡ Some next → c.place < next.place
      rising_more i c next g f =
          ⊎_elim
          (λ (b : slice_get cs (suc i) ≡ Some next).
          ⊎_elim
          (λ (a : slice_get cs i ≡ Some c). h.rising i c next a b)
          (λ (a : (i ≡ length cs) × (d ≡ c)). absurd (omega (arith, a.0, slice_get_within cs (suc i) next b)))
          (get_push_cases cs d i c g))
          (λ (b : (suc i ≡ length cs) × (d ≡ next)).
          ⊎_elim
          (λ (a : slice_get cs i ≡ Some c).
          let w = h.confirming i c a in
          omega (arith, w.2, carried_before p packets k side w.0 w.1, place, ap (λ (x : Confirmation). x.place) b.1))
          (λ (a : (i ≡ length cs) × (d ≡ c)). absurd (omega (arith, a.0, b.0)))
          (get_push_cases cs d i c g))
          (get_push_cases cs d (suc i) next f)

      -- it confirms another SN
      pub confirmations_with_new : AreConfirmations p (packets ++ k ∷ []) side (cs ++ d ∷ [])
      confirmations_with_new = record {
        confirming = all_push {P = λ i c. IsConfirming c} cs d still_confirming
            (newest, record { packet = k; there = get_push packets k; of_side = of_side; spelled = spelled }, place, same, confirms);
        all = λ copy c n. elim (carried_cases p packets k side copy c) [
          | old b ↦ (let w = h.all copy b n in (w.0, w.1, get_front cs (d ∷ []) w.0 w.1 w.2, w.3, w.4))
          | new at x said ↦ (length cs, d, get_push cs d, omega (arith, place, at), same ∙ ap (λ (e : RedundancyPdu). e.safety.cs) (sym (once copy.pdu said)))
        ];
        rising = rising_more;
      }
