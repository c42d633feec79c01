-- A packet that may come next has no fault.
use Rattle.std.proofs.Common.{◌≡◌, ◌⊎◌, ℕ, suc, ◌+◌, ◌<◌, Bool, true, false, List, [], ◌∷◌, Option, Some, None, Ok, length, slice_get, refl, ap, sym, ◌∙◌, arith, inl, inr}
use Rattle.rasta_check.proofs.Prelude.{◌==◌, if◌then◌else◌, nat_tests, bytes_eq-Decides, Side, Packet, Parameters, RedundancyPdu, decode_of, wrapped, FirstCopy}
use Rattle.rasta_check.proofs.Prelude.{Spells, copy_with, is_next_number, OfConnection}
use Rattle.rasta_pdu.proofs.Spellings.{decode_of-redundancy_bytes}
use Rattle.rasta_check.specs.Capture.PacketFaults.{number_fault, read_fault}
use Rattle.rasta_check.proofs.Capture.FaultlessLists.{IsSent, ordered}
use Rattle.rasta_check.proofs.Capture.NextPackets.{CanFollow}
use Rattle.rasta_check.proofs.Capture.Positions.{next_new, number_once}

-- what is spelled is read back
pub reads : (p : Parameters) (side : Side) (d : RedundancyPdu) (bytes : List ℕ) → OfConnection p → Spells p side d bytes → decode_of p side bytes ≡ Ok d
reads p side d bytes h s = ap (decode_of p side) s.same ∙ decode_of-redundancy_bytes p side d h.valid (grind arith) (grind arith) s.fits

-- ---- the first copy with a number

found_by : (b : Bool) (x : FirstCopy) (own : List FirstCopy) (number : ℕ) (c : FirstCopy) → (b ≡ true → x.pdu.number ≡ number)
    → (copy_with own number ≡ Some c → (i : ℕ) × (slice_get own i ≡ Some c) × (c.pdu.number ≡ number))
    → (if b then Some x else copy_with own number) ≡ Some c → (i : ℕ) × (slice_get (x ∷ own) i ≡ Some c) × (c.pdu.number ≡ number)
found_by true x own number c h rest e = (let same : x ≡ c = cc in (0, e, ap (λ (z : FirstCopy). z.pdu.number) (sym same) ∙ h refl))
found_by false x own number c h rest e = (let r = rest e in (suc r.0, r.1, r.2))

-- it is a member of the list, and has the number
pub copy_found : (own : List FirstCopy) (number : ℕ) (c : FirstCopy) → copy_with own number ≡ Some c → (i : ℕ) × (slice_get own i ≡ Some c) × (c.pdu.number ≡ number)
copy_found [] number c e = absurd (cc)
copy_found (x ∷ own) number c e = found_by (x.pdu.number == number) x own number c (λ h. grind (arith, nat_tests)) (copy_found own number c) e

-- where there is none, no member has the number
pub copy_none : (own : List FirstCopy) (number : ℕ) → copy_with own number ≡ None → (i : ℕ) (c : FirstCopy) → slice_get own i ≡ Some c → c.pdu.number ≡ number → ⊥
copy_none [] number e i c g n = cc
copy_none (x ∷ own) number e i c g n = (let more = copy_none own number in grind (arith, nat_tests))

-- ---- where it may come next, it has no fault

-- a test that gives no fault holds
pub passed : (b : Bool) (fault : ℕ) → (if b then None else Some fault) ≡ None → b ≡ true
passed b fault e = grind arith

is_next : (own : List FirstCopy) (n : ℕ) → ((c : FirstCopy) → slice_get own 0 ≡ Some c → n ≡ wrapped (c.pdu.number + length own)) → is_next_number own n ≡ true
is_next own n h = grind arith

module _ (p : Parameters) (packets : List Packet) (side : Side) (own : List FirstCopy) (a : Packet) (h : OfConnection p) (sent : IsSent p packets side own) (few : length own < 4294967296) where
  none_known : (d : RedundancyPdu) → Spells p side d a.payload
      → ((i : ℕ) × (c : FirstCopy) × (slice_get own i ≡ Some c) × (c.pdu ≡ d))
      ⊎ ((c : FirstCopy) → slice_get own 0 ≡ Some c → d.number ≡ wrapped (c.pdu.number + length own))
      → (o : Option FirstCopy) → copy_with own d.number ≡ o → number_fault p side own a.payload d o ≡ None
  none_known d s (inl w) (Some c) e = grind (arith, copy_found, number_once, ordered, bytes_eq-Decides)
  none_known d s (inr w) (Some c) e = (let f = copy_found own d.number c e in absurd (next_new own (ordered sent) few d.number w f.0 c f.1 f.2))
  none_known d s (inl w) None e = absurd (copy_none own d.number e w.0 w.1 w.2 (ap (λ (z : RedundancyPdu). z.number) w.3))
  none_known d s (inr w) None e = (let test = is_next own d.number w in grind arith)

  pub faultless : CanFollow p packets side own a → read_fault p side own a.payload (decode_of p side a.payload) ≡ None
  faultless f = ap (read_fault p side own a.payload) (reads p side f.0 a.payload h f.1) ∙ none_known f.0 f.1 f.2 (copy_with own f.0.number) refl
