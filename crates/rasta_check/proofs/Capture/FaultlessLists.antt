-- Sent lists as the proofs use them: the list and the absence of faults in one record.
use Rattle.std.proofs.Common.{◌≡◌, ℕ, suc, ◌+◌, ◌<◌, ◌≤◌, List, Some, slice_get, sym, ◌∙◌}
use Rattle.rasta_check.proofs.Prelude.{Side, Packet, Parameters, AreParameters, RedundancyPdu, wrapped, FirstCopy, Spells, IsOrdered}
use Rattle.rasta_pdu.proofs.Spellings.{redundancy_bytes-injective}

-- these are the first copies of a side, in the order in which they crossed
pub record IsSent (p : Parameters) (packets : List Packet) (side : Side) (sent : List FirstCopy) : Type 0 where
  pub valid : AreParameters p
  pub firsts : (i : ℕ) (c : FirstCopy) → slice_get sent i ≡ Some c → (k : Packet) × (slice_get packets c.place ≡ Some k) × (k.side ≡ side) × Spells p side c.pdu k.payload
  pub rising : (i : ℕ) (c d : FirstCopy) → slice_get sent i ≡ Some c → slice_get sent (suc i) ≡ Some d → c.place < d.place
  pub numbers : (i : ℕ) (c d : FirstCopy) → slice_get sent 0 ≡ Some c → slice_get sent i ≡ Some d → d.pdu.number ≡ wrapped (c.pdu.number + i)
  pub copies : (k : ℕ) (a : Packet) → slice_get packets k ≡ Some a → a.side ≡ side
      → (i : ℕ) × (c : FirstCopy) × (slice_get sent i ≡ Some c) × (c.place ≤ k) × Spells p side c.pdu a.payload

-- places rise, and numbers go on
pub ordered : {p : Parameters} {packets : List Packet} {side : Side} {sent : List FirstCopy} → IsSent p packets side sent → IsOrdered sent
ordered h = record { places = h.rising; numbers = h.numbers }

-- bytes of a side spell one PDU
pub read_once : (p : Parameters) → AreParameters p → (s : Side) (d e : RedundancyPdu) (bytes : List ℕ) → Spells p s d bytes → Spells p s e bytes → d ≡ e
read_once p valid s d e bytes x y = redundancy_bytes-injective p s d e valid x.fits y.fits (sym x.same ∙ y.same)
