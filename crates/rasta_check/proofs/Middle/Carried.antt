-- What packets of a side carry, with one packet more.
use Rattle.std.proofs.Common.{◌≡◌, ◌<◌, List, [], ◌∷◌, ◌++◌, length, Some, slice_get, ◌∙◌, ap, ⊎_elim}
use Rattle.rasta_check.proofs.Prelude.{Side, Packet, Parameters, FirstCopy, Spells, get_front, get_push_cases, slice_get_within}
use Rattle.rasta_check.specs.Capture.SentLists.{IsCarried}

-- a PDU of the longer list was there before, or is spelled by the last packet
pub data Carries (p : Parameters) (packets : List Packet) (k : Packet) (side : Side) (copy : FirstCopy) : Type 0 where
  old : IsCarried p packets side copy → Carries p packets k side copy
  new : copy.place ≡ length packets → k.side ≡ side → Spells p side copy.pdu k.payload → Carries p packets k side copy

module _ (p : Parameters) (packets : List Packet) (k : Packet) (side : Side) where
  pub carried_more : (copy : FirstCopy) → IsCarried p packets side copy → IsCarried p (packets ++ k ∷ []) side copy
  carried_more copy c = record { packet = c.packet; there = get_front packets (k ∷ []) copy.place c.packet c.there; of_side = c.of_side; spelled = c.spelled }

  pub carried_cases : (copy : FirstCopy) → IsCarried p (packets ++ k ∷ []) side copy → Carries p packets k side copy
  carried_cases copy c =
      ⊎_elim
      (λ (before : slice_get packets copy.place ≡ Some c.packet). old (record { packet = c.packet; there = before; of_side = c.of_side; spelled = c.spelled }))
      (λ (last : (copy.place ≡ length packets) × (k ≡ c.packet)).
      new last.0 (ap (λ (a : Packet). a.side) last.1 ∙ c.of_side) (rw (last.1) c.spelled))
      (get_push_cases packets k copy.place c.packet c.there)

  -- places lie before the end
  pub carried_before : (copy : FirstCopy) → IsCarried p packets side copy → copy.place < length packets
  carried_before copy c = slice_get_within packets copy.place c.packet c.there
