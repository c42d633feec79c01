-- What the PDUs of a sent list show of the units of the other side: no more than was handed up.
use Rattle.std.proofs.Common.{◌≡◌, ℕ, suc, ◌+◌, ◌≤◌, false, List, [], ◌∷◌, ◌++◌, length, Option, Some, None, slice_get, refl, ap, ◌∙◌, arith}
use Rattle.rasta_check.proofs.Prelude.{map, fold, max, slice_get_within, slice_get-get_or, SafetyPdu, is_kind, Made, EndState, units_at, position_with, asked_positions, units_along}
use Rattle.rasta_check.proofs.Prelude.{units_shown, units_taken, pdus_made, NamesOne, ConnectionRequest, get_past, get_mapped}
use Rattle.std.proofs.lemmas.List.Elements.{filter-append, filter_map-append}
use Rattle.std.proofs.lemmas.Simd.{map-map}
use Rattle.rasta_end.proofs.Conveying.{more_asks}
use Rattle.rasta_check.proofs.Model.Invariant.{Held}
use Rattle.rasta_check.proofs.Model.NamedPositions.{SnIs}
use Rattle.rasta_check.proofs.Model.ConveyedUnits.{values, length-values, answers_number}
use Rattle.rasta_check.proofs.Model.OfferedUnits.{Valued}
use Rattle.rasta_check.proofs.Model.HandedUnits.{Shown, shown_most}
use Rattle.rasta_check.proofs.Model.Requests.{found_position, in_order}

-- f's units, by lists that tell what f made and what its peer did
module _ (f : EndState) (own peer : List SafetyPdu) (told : pdus_made f.made ≡ own) (along : units_along own peer ≡ values f) (n : ℕ) (x : SafetyPdu)
    (most : is_kind ConnectionRequest x.kind ≡ false → (c v : ℕ) → SnIs f.made c x.cs → slice_get (values f) c ≡ Some v → v ≤ n) where
  at_position : is_kind ConnectionRequest x.kind ≡ false → (o : Option ℕ) → position_with own x.cs ≡ o → units_at (units_along own peer) o ≤ n
  at_position k None e = omega arith
  at_position k (Some c) e =
      let s = found_position f.made x.cs c (ap (λ (ms : List SafetyPdu). position_with ms x.cs) told ∙ e) in
      grind (arith, length-values, slice_get-get_or, slice_get_within)

  -- a PDU shows at most n units where each position that it confirms conveys at most n
  pub shows_most : units_shown own peer x ≤ n
  shows_most = grind (arith, at_position)

-- ---- the most that any of them shows

fold_from : (f : SafetyPdu → ℕ) (a : ℕ) (xs : List SafetyPdu) → a ≤ fold max a (map f xs)
fold_from f a [] = omega arith
fold_from f a (x ∷ xs) = (let r = fold_from f (max a (f x)) xs in omega arith)

-- a member counts
pub fold_member : (f : SafetyPdu → ℕ) (a : ℕ) (xs : List SafetyPdu) (i : ℕ) (x : SafetyPdu) → slice_get xs i ≡ Some x → f x ≤ fold max a (map f xs)
fold_member f a [] i x g = absurd (cc)
fold_member f a (y ∷ xs) i x g = grind (arith, fold_from f (max a (f y)) xs, fold_member f (max a (f y)) xs)

fold_max_le : (ns : List ℕ) (n a : ℕ) → a ≤ n → ((k m : ℕ) → slice_get ns k ≡ Some m → m ≤ n) → fold max a ns ≤ n
fold_max_le [] n a h g = h
fold_max_le (m ∷ ms) n a h g = fold_max_le ms n (max a m) (let z = g 0 m refl in omega (arith, h, z)) (λ k d s. g (suc k) d s)

asked-append : (own xs ys : List SafetyPdu) → asked_positions own (xs ++ ys) ≡ asked_positions own xs ++ asked_positions own ys
asked-append own xs ys = simp (filter-append, filter_map-append)

-- e made the units, f took them. The list of f may leave out first PDUs that ask for nothing
module _ (e f : EndState) (t u : ℕ) (h : Held e t f.made) (peer : Held f u e.made) (w : Valued e) (once : NamesOne e f) (first ps : List SafetyPdu)
    (made : pdus_made f.made ≡ first ++ ps) (none : asked_positions (pdus_made e.made) first ≡ []) where
  -- the units along a list by all requests of its peer are those by the asks
  values_agree : units_along (pdus_made e.made) ps ≡ values e
  values_agree = grind (arith, in_order e f t u h peer w once, answers_number, asked-append, map-map, more_asks)

  -- a PDU of f shows no more units than f has handed up
  shows_handed : Shown f e → (i : ℕ) (x : SafetyPdu) → slice_get ps i ≡ Some x → units_shown (pdus_made e.made) ps x ≤ length f.handed
  shows_handed s i x g =
      let m = get_mapped (λ (n : Made). n.pdu) f.made (length first + i) x (ap (λ (xs : List SafetyPdu). slice_get xs (length first + i)) made ∙ (get_past first ps i ∙ g)) in
      rw m.2 at (shows_most e (pdus_made e.made) ps refl values_agree (length f.handed) m.0.pdu
      (λ k. shown_most e (length f.handed) f.accepted m.0.pdu.cs once w (λ a. grind (arith, s.ready_offer)) (s.shown (length first + i) m.0 m.1 k)))

  -- the units that the lists show were handed up; and they are counted so
  pub necessary : Shown f e → (units_along (pdus_made e.made) ps ≡ values e) × (units_taken (pdus_made e.made) ps ≤ length f.handed)
  necessary s = grind (arith, fold_max_le, get_mapped, shows_handed, values_agree)
