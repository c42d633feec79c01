-- The units conveyed through the positions of an end, as what it made and the asks grow.
use Rattle.std.proofs.Common.{◌≡◌, ℕ, suc, ◌<◌, ◌≤◌, Bool, true, false, List, [], ◌∷◌, ◌++◌, length, Some, None, slice_get, refl, ap, ◌∙◌, arith, Option, sym}
use Rattle.rasta_check.proofs.Prelude.{slice_index_or, slice_get-get_or, unwrap_or-slice_get, Kind, Data, RetransmittedData, RetransmissionResponse, Made, EndState, kinds, units_at}
use Rattle.rasta_check.proofs.Prelude.{last_of}
use Rattle.std.specs.Option.{unwrap_or}
use Rattle.rasta_end.specs.Units.{all_units_conveyed, units_after, responses_in}
use Rattle.rasta_end.proofs.Conveying.{all_units-push, conveyed-responses, length-all_units, length-kinds, more_asks, last-at}
use Rattle.rasta_end.proofs.Pushing.{kinds-push}
use Rattle.rasta_check.proofs.Model.Counts.{answers_in}

-- neither a unit nor a retransmission response
abbrev pub is_plain : Kind → Bool
is_plain Data = false
is_plain RetransmittedData = false
is_plain RetransmissionResponse = false
is_plain _ = true

-- the units conveyed through each position of an end
abbrev pub values : EndState → List ℕ
values e = all_units_conveyed e.asks (kinds e.made)

-- the units at the position that the next retransmission response goes back to
abbrev pub jump : EndState → ℕ
jump e = units_at (values e) (slice_get e.asks (answers_in e.made))

-- The last member.

pub last_push : (vs : List ℕ) (v : ℕ) → last_of (vs ++ v ∷ []) ≡ v
last_push [] v = refl
last_push (x ∷ []) v = refl
last_push (x ∷ y ∷ vs) v = last_push (y ∷ vs) v

pub last_get : (vs : List ℕ) (q : ℕ) → length vs ≡ suc q → slice_get vs q ≡ Some (last_of vs)
last_get vs q e = slice_get-get_or vs q 0 (omega (arith, e)) ∙ ap Some (last-at vs q e)

-- The member at a position, or 0 where there is none.

pub get_or_none : (vs : List ℕ) (c : ℕ) → slice_get vs c ≡ None → slice_index_or vs c 0 ≡ 0
get_or_none vs c g = sym (unwrap_or-slice_get vs c 0) ∙ ap (λ (o : Option ℕ). unwrap_or o 0) g

-- One more PDU appends one value; one more ask changes none.

pub answers_number : (ms : List Made) → responses_in (kinds ms) ≡ answers_in ms
answers_number [] = refl
answers_number (m ∷ ms) = grind (arith, answers_number ms)

pub values_push : (asks : List ℕ) (ms : List Made) (m : Made)
    → all_units_conveyed asks (kinds (ms ++ m ∷ [])) ≡ all_units_conveyed asks (kinds ms) ++ units_after asks (all_units_conveyed asks (kinds ms)) (answers_in ms) m.pdu.kind ∷ []
values_push asks ms m = simp (kinds-push, all_units-push, conveyed-responses, answers_number)

pub length-values : (asks : List ℕ) (ms : List Made) → length (all_units_conveyed asks (kinds ms)) ≡ length ms
length-values asks ms = length-all_units asks (kinds ms) ∙ length-kinds ms

pub values_asks : (asks : List ℕ) (c : ℕ) (ms : List Made) → answers_in ms ≤ length asks → all_units_conveyed (asks ++ c ∷ []) (kinds ms) ≡ all_units_conveyed asks (kinds ms)
values_asks asks c ms h = more_asks asks (c ∷ []) (kinds ms) (omega (arith, answers_number ms, h))

-- What the next position conveys, by its type: u are the units at the ask that is answered next, v those conveyed so far.

abbrev pub units_next : ℕ → ℕ → Kind → ℕ
units_next u v Data = suc v
units_next u v RetransmittedData = suc v
units_next u v RetransmissionResponse = u
units_next u v _ = v

pub after_is : (asks vs : List ℕ) (a : ℕ) (k : Kind) → (is_plain k ≡ false → 0 < length vs) → units_after asks vs a k ≡ units_next (units_at vs (slice_get asks a)) (last_of vs) k
after_is asks vs a k l = grind arith
