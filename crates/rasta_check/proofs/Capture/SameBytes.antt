-- Packets with the bytes of a first copy.
use Rattle.std.proofs.Common.{◌≡◌, ◌≤◌, ℕ, length, Bool, true, List, Option, Some, None, Ok, slice_get, refl, ap, sym, ◌∙◌, subst, arith, if◌then◌else◌}
use Rattle.rasta_check.proofs.Prelude.{bytes_eq, bytes_eq-Decides, Side, Packet, redundancy_bytes, decode_of, FirstCopy, Spells, copy_with, packet_fault}
use Rattle.rasta_check.proofs.Prelude.{position_of_number, Crossing, IsCrossing, sent_by, sent_after}
use Rattle.rasta_pcap.specs.Fault.{copy_differs}
use Rattle.rasta_check.specs.Capture.SentLists.{number_in_bytes}
use Rattle.rasta_check.proofs.Capture.Crossings.{few_of, known_by, length_spelled, list_of, number_spelled}
use Rattle.rasta_check.proofs.Capture.FaultlessLists.{ordered}
use Rattle.rasta_check.proofs.Capture.PacketFaults.{copy_found, copy_none, reads}
use Rattle.rasta_check.proofs.Capture.Positions.{number_named, number_once}

module _ (k : Crossing) (h : IsCrossing k) (side : Side) (position : ℕ) (c : FirstCopy) (there : slice_get (sent_by k side) position ≡ Some c) where
  -- its number has its position
  named : position_of_number (sent_by k side) c.pdu.number ≡ Some position
  named = (let few = few_of k h side in number_named (sent_by k side) (ordered (list_of k h side)) (omega arith) position c there)

  -- and it is the first copy with its number
  first : (o : Option FirstCopy) → copy_with (sent_by k side) c.pdu.number ≡ o → o ≡ Some c
  first None e = absurd (copy_none (sent_by k side) c.pdu.number e position c there refl)
  first (Some d) e =
      let few = few_of k h side in
      let f = copy_found (sent_by k side) c.pdu.number d e in
      let at = number_once (sent_by k side) (ordered (list_of k h side)) (omega arith) f.0 position d c f.1 there f.2 in
      (cc)

  module _ (bytes : List ℕ) (same : bytes ≡ redundancy_bytes k.params side c.pdu) where
    -- its bytes spell its PDU
    same_spelled : Spells k.params side c.pdu bytes
    same_spelled = (let w = (list_of k h side).firsts position c there in record { fits = w.3.fits; same = same })

    -- and have its number
    same_number : number_in_bytes bytes ≡ c.pdu.number
    same_number = number_spelled k.params side c.pdu bytes same_spelled

    pub same_length : 8 ≤ length bytes
    same_length = length_spelled k.params side c.pdu bytes same_spelled

    -- so by the number the first copy is found
    pub same_found : position_of_number (sent_by k side) (number_in_bytes bytes) ≡ Some position
    same_found = subst (λ (n : ℕ). position_of_number (sent_by k side) n ≡ Some position) (sym same_number) named

-- a packet with the bytes of a first copy is read, and has no fault
pub same_judged : (k : Crossing) → IsCrossing k → (a : Packet) (position : ℕ) (c : FirstCopy) → slice_get (sent_by k a.side) position ≡ Some c → a.payload ≡ redundancy_bytes k.params a.side c.pdu
    → (decode_of k.params a.side a.payload ≡ Ok c.pdu) × Spells k.params a.side c.pdu a.payload × (packet_fault k.params (sent_by k a.side) a ≡ None) × (sent_after k a ≡ sent_by k a.side)
same_judged k h a position c there same =
    let s = same_spelled k h a.side position c there a.payload same in
    let r = reads k.params a.side c.pdu a.payload h.valid s in
    let w = known_by k a c.pdu (Some c) r (first k h a.side position c there _ refl) in
    let e : bytes_eq (redundancy_bytes k.params a.side c.pdu) a.payload ≡ true = (bytes_eq-Decides _ _).1 (sym same) in
    (r, s, w.0 ∙ ap (λ (b : Bool). if b then None else Some copy_differs) e, w.1)
