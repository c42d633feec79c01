-- What is worked out from the two ends of scripts that fit is what is surely taken.
use Rattle.std.proofs.Common.{◌≡◌, ℕ, suc, ◌+◌, ◌-◌, ◌^◌, ◌<◌, ◌≤◌, List, [], ◌∷◌, ◌++◌, length, map, replicate, take, Option, Some, None, slice_get, refl, ap, sym, ◌∙◌, arith}
use Rattle.rasta_check.proofs.Prelude.{fold, max, slice_index_or, nat_tests, dec_lt, yes, no, length-append, slice_get-get_or, slice_get_past, slice_get_within, Side, Quiet}
use Rattle.rasta_check.proofs.Prelude.{SafetyPdu, Made, EndState, first_sn, units_at, start_by, FirstCopy, position_with, pdus_of, pdus_made, units_shown, units_taken, units_from}
use Rattle.rasta_check.proofs.Prelude.{data_copies, shown_by, with_proofs, proofs_from, proved_units, get_front, slice_get_some, get_past}
use Rattle.std.proofs.Math.Seq.{take-nil}
use Rattle.std.proofs.lemmas.List.{get_or-replicate, length-replicate}
use Rattle.rasta_end.specs.State.{ahead_by}
use Rattle.rasta_check.specs.Model.Taken.{proof_place}
use Rattle.rasta_check.proofs.Model.NamedPositions.{Numbered, numbered_once, sn_mod}
use Rattle.rasta_check.proofs.Model.ConveyedUnits.{get_or_none}
use Rattle.rasta_check.proofs.Model.Requests.{found_position, named_position}

-- ---- the position that a CS names

-- a position as far after the first SN as an SN has that SN
at_distance : (ms : List Made) (sn i : ℕ) (m : Made) → Numbered ms → first_sn ms < 2 ^ 32 → sn < 2 ^ 32 → slice_get ms i ≡ Some m → ahead_by sn (first_sn ms) ≡ i → m.pdu.sn ≡ sn
at_distance ms sn i m h g k l n = grind arith

-- the units at the position that a CS names are those at its distance
pub units_named : (ms : List Made) (vs : List ℕ) (cs : ℕ) → Numbered ms → length ms ≤ 2147483648 → length vs ≡ length ms → first_sn ms < 2 ^ 32 → cs < 2 ^ 32
    → slice_index_or vs (ahead_by cs (first_sn ms)) 0 ≡ units_at vs (position_with (pdus_made ms) cs)
units_named ms vs cs h b l f small = by (position_with (pdus_made ms) cs) refl
  where
    by : (o : Option ℕ) → position_with (pdus_made ms) cs ≡ o → slice_index_or vs (ahead_by cs (first_sn ms)) 0 ≡ units_at vs o
    by None n =
        let i = ahead_by cs (first_sn ms) in
        let past : i < length ms → ⊥ = λ w.
        (let m = slice_get_some ms i w in
        let named = named_position ms i cs (numbered_once ms b h) (record { m = m.0; there = m.1; same = at_distance ms cs i m.0 h f small m.1 refl }) in
        absurd (cc)) in
        get_or_none vs i (slice_get_past vs i (omega (arith, past)))
    by (Some i) e =
        let s = found_position ms cs i e in
        ap (λ k. slice_index_or vs k 0) (omega (arith, sn_mod ms i cs h s, slice_get_within ms i s.m s.there))

-- the first SN of what an end made has 32 bits
pub first_small : (q : Option Quiet) (s : Side) (ms : List Made) (own : List FirstCopy) → pdus_made ms ≡ pdus_made (start_by q s).made ++ pdus_of own
    → ((i : ℕ) (c : FirstCopy) → slice_get own i ≡ Some c → c.pdu.safety.sn < 2 ^ 32) → first_sn ms < 2 ^ 32
first_small q s [] own e h = omega arith
first_small q s (m ∷ ms) [] e h = grind arith
first_small q s (m ∷ ms) (c ∷ own) e h = (let z = h 0 c refl in grind arith)

-- ---- places of proofs, by what each PDU shows

get_replicated : (m p k : ℕ) → k < m → slice_get (replicate m p) k ≡ Some p
get_replicated m p k l = (let few = length-replicate m p in slice_get-get_or (replicate m p) k 0 (omega arith) ∙ ap Some (get_or-replicate m k p 0 l))

get_after : (places : List ℕ) (m p k : ℕ) → length places ≤ k → k < length places + m → slice_get (places ++ replicate m p) k ≡ Some p
get_after places m p k low high =
    let n : ℕ = k - length places in
    let at : k ≡ length places + n = omega (arith, low) in
    ap (slice_get (places ++ replicate m p)) at ∙ (get_past places (replicate m p) n ∙ get_replicated m p n (omega (arith, low, high)))

length-with_proofs : (places : List ℕ) (n p : ℕ) → length (with_proofs places n p) ≡ max (length places) n
length-with_proofs places n p = grind (arith, length-append, length-replicate)

-- an end by which each PDU shows as much as by these lists
module _ (e : EndState) (own peer : List SafetyPdu) where
  abbrev pub ShowAsMuch : List FirstCopy → Type 0
  ShowAsMuch copies = (i : ℕ) (c : FirstCopy) → slice_get copies i ≡ Some c → shown_by e c.pdu.safety ≡ units_shown own peer c.pdu.safety

  length-places : (places : List ℕ) (copies : List FirstCopy) → ShowAsMuch copies → length (proofs_from e places copies) ≡ fold max (length places) (map (units_shown own peer) (pdus_of copies))
  unfolding proofs_from
  length-places places [] h = refl
  length-places places (c ∷ copies) h = rw (length-places (with_proofs places (shown_by e c.pdu.safety) c.place) copies (λ i d g. h (suc i) d g), length-with_proofs, h 0 c refl) refl

  -- what has a place keeps it
  place_stays : (places : List ℕ) (copies : List FirstCopy) (k v : ℕ) → slice_get places k ≡ Some v → slice_get (proofs_from e places copies) k ≡ Some v
  unfolding proofs_from
  place_stays places [] k v g = g
  place_stays places (c ∷ copies) k v g = place_stays (with_proofs places (shown_by e c.pdu.safety) c.place) copies k v (get_front places (replicate (shown_by e c.pdu.safety - length places) c.place) k v g)

  -- a new unit has the place of its proof
  place_new : (places : List ℕ) (copies : List FirstCopy) → ShowAsMuch copies → (k : ℕ) → length places ≤ k → k < length (proofs_from e places copies)
      → slice_get (proofs_from e places copies) k ≡ Some (proof_place own peer k copies)
  unfolding proofs_from
  place_new places [] h k low high = absurd (omega arith)
  place_new places (c ∷ copies) h k low high =
      let more = with_proofs places (shown_by e c.pdu.safety) c.place in
      let here : k < units_shown own peer c.pdu.safety → slice_get (proofs_from e more copies) k ≡ Some c.place = λ l.
      place_stays more copies k c.place (get_after places (shown_by e c.pdu.safety - length places) c.place k low (omega (arith, l, h 0 c refl))) in
      let later : units_shown own peer c.pdu.safety ≤ k → slice_get (proofs_from e more copies) k ≡ Some (proof_place own peer k copies) = λ l.
      place_new more copies (λ i d g. h (suc i) d g) k (let z = length-with_proofs places (shown_by e c.pdu.safety) c.place in omega (arith, l, z, h 0 c refl)) high in
      grind (arith, nat_tests)

-- ---- the places of the units that are taken

-- as many as are taken, each that of its proof
pub record AreProofs (own : List SafetyPdu) (peer : List FirstCopy) (places : List ℕ) : Type 0 where
  pub count : length places ≡ units_taken own (pdus_of peer)
  pub each : (k : ℕ) → k < length places → slice_get places k ≡ Some (proof_place own (pdus_of peer) k peer)

pub are_proofs : (e : EndState) (own : List SafetyPdu) (peer : List FirstCopy) → ShowAsMuch e own (pdus_of peer) peer → AreProofs own peer (proofs_from e [] peer)
are_proofs e own peer h = record {
  count = length-places e own (pdus_of peer) [] peer h;
  each = λ k l. place_new e own (pdus_of peer) [] peer h k (omega arith) l;
}

-- ---- the units that are taken

module _ (own : List SafetyPdu) (peer : List FirstCopy) (places : List ℕ) (h : AreProofs own peer places) where
  pub units_are : (unit : ℕ) (copies : List FirstCopy) → proved_units places unit copies ≡ units_from own peer unit (take (length places - unit) (data_copies copies))
  unfolding proved_units
  units_are unit [] = ap (units_from own peer unit) (sym (take-nil (length places - unit)))
  units_are unit (c ∷ copies) =
      let r = units_are (suc unit) copies in
      let s = units_are unit copies in
      elim (dec_lt unit (length places)) [
        | yes l ↦ (let n : length places - unit ≡ suc (length places - suc unit) = omega arith in let z = rw n at s in rw (h.each unit l, n) (grind arith))
        | no q ↦ (let n : length places - unit ≡ 0 = omega (arith, q) in let z = rw n at s in rw (slice_get_past places unit (omega (arith, q)), n) (grind arith))
      ]
