-- The values of positions depend on what stands before them alone.
use Rattle.std.proofs.Common.{◌≡◌, ℕ, zero, suc, ◌+◌, ◌<◌, ◌≤◌, true, List, [], ◌∷◌, ◌++◌, length, Option, Some, None, slice_get, refl, ap, ◌∙◌, arith}
use Rattle.std.specs.Prelude.{fold, slice_index_or}
use Rattle.std.proofs.lemmas.List.Sums.{fold-append}
use Rattle.std.proofs.lemmas.List.{length_push, length-map}
use Rattle.rasta_end.specs.State.{Made, kinds}
use Rattle.rasta_pdu.specs.Pdu.{carries_unit}
use Rattle.rasta_pdu.specs.declared.kind.Kind.{Kind}
use Rattle.rasta_pdu.specs.declared.kind.Kind.TheVariants.{RetransmissionResponse, Data, RetransmittedData}
use Rattle.rasta_end.specs.Units.{Conveyed, convey, conveyed, all_units_conveyed, units_after, responses_after, responses_in, units_at, last_of, units_conveyed}
use Rattle.rasta_end.proofs.Lists.{get_front_within}

start : Conveyed
start = record { units = []; responses = 0 }

conveyed-push : (asks : List ℕ) (ks : List Kind) (k : Kind) → conveyed asks (ks ++ k ∷ []) ≡ convey asks (conveyed asks ks) k
conveyed-push asks ks k = fold-append (convey asks) (record { units = []; responses = 0 }) ks (k ∷ [])

pub all_units-push : (asks : List ℕ) (ks : List Kind) (k : Kind) → all_units_conveyed asks (ks ++ k ∷ []) ≡ all_units_conveyed asks ks ++ units_after asks (all_units_conveyed asks ks) (conveyed asks ks).responses k ∷ []
all_units-push asks ks k = ap (λ (c : Conveyed). c.units) (conveyed-push asks ks k)

responses_step : (n m : ℕ) (k : Kind) → responses_after n k + m ≡ n + responses_after m k
responses_step n m RetransmissionResponse = omega arith
responses_step n m _ = refl

responses_from : (asks : List ℕ) (c : Conveyed) (ks : List Kind) → (fold (convey asks) c ks).responses ≡ c.responses + responses_in ks
responses_from asks c [] = omega arith
responses_from asks c (k ∷ ks) = responses_from asks (convey asks c k) ks ∙ responses_step c.responses (responses_in ks) k

pub conveyed-responses : (asks : List ℕ) (ks : List Kind) → (conveyed asks ks).responses ≡ responses_in ks
conveyed-responses asks ks = responses_from asks (record { units = []; responses = 0 }) ks ∙ omega arith

length_from : (asks : List ℕ) (c : Conveyed) (ks : List Kind) → length (fold (convey asks) c ks).units ≡ length c.units + length ks
length_from asks c [] = omega arith
length_from asks c (k ∷ ks) =
    let h = length_from asks (convey asks c k) ks in
    let l = length_push c.units (units_after asks c.units c.responses k) in
    omega (arith, h, l)

pub length-all_units : (asks : List ℕ) (ks : List Kind) → length (all_units_conveyed asks ks) ≡ length ks
length-all_units asks ks = length_from asks (record { units = []; responses = 0 }) ks ∙ omega arith

pub responses_in-push : (ks : List Kind) (k : Kind) → responses_in (ks ++ k ∷ []) ≡ responses_after (responses_in ks) k
responses_in-push [] k = refl
responses_in-push (j ∷ ks) k = ap (λ n. responses_after n j) (responses_in-push ks k) ∙ swapped (responses_in ks) j k
  where
    swapped : (n : ℕ) (j k : Kind) → responses_after (responses_after n k) j ≡ responses_after (responses_after n j) k
    swapped n RetransmissionResponse RetransmissionResponse = refl
    swapped n RetransmissionResponse _ = refl
    swapped n _ RetransmissionResponse = refl
    swapped n _ _ = refl

same_after : (asks more vs : List ℕ) (n : ℕ) (k : Kind) → responses_after n k ≤ length asks → units_after (asks ++ more) vs n k ≡ units_after asks vs n k
same_after asks more [] n k h = refl
same_after asks more (v ∷ vs) n RetransmissionResponse h = ap (units_at (v ∷ vs)) (get_front_within asks more n h)
same_after asks more (v ∷ vs) n Data h = refl
same_after asks more (v ∷ vs) n RetransmittedData h = refl
same_after asks more (v ∷ vs) n _ h = refl

at_most : (n : ℕ) (k : Kind) → n ≤ responses_after n k
at_most n RetransmissionResponse = omega arith
at_most n _ = omega arith

same_from : (asks more : List ℕ) (c : Conveyed) (ks : List Kind) → c.responses + responses_in ks ≤ length asks → fold (convey (asks ++ more)) c ks ≡ fold (convey asks) c ks
same_from asks more c [] h = refl
same_from asks more c (k ∷ ks) h =
    let s = responses_step c.responses (responses_in ks) k in
    let one : convey (asks ++ more) c k ≡ convey asks c k = ap (λ v. convey_with c v k) (same_after asks more c.units c.responses k (omega (arith, s, h))) in
    ap (λ d. fold (convey (asks ++ more)) d ks) one ∙ same_from asks more (convey asks c k) ks (omega (arith, s, h))
  where
    convey_with : Conveyed → ℕ → Kind → Conveyed
    convey_with c v k = record { units = c.units ++ v ∷ []; responses = responses_after c.responses k }

-- a further ask changes no value, where each answer so far has its ask
pub more_asks : (asks more : List ℕ) (ks : List Kind) → responses_in ks ≤ length asks → all_units_conveyed (asks ++ more) ks ≡ all_units_conveyed asks ks
more_asks asks more ks h = ap (λ (c : Conveyed). c.units) (same_from asks more (record { units = []; responses = 0 }) ks (omega (arith, h)))

-- no position conveys more units than there are positions before it
abbrev AreFew : List ℕ → Type 0
AreFew units = (n : ℕ) → length units ≡ suc n → (i : ℕ) → slice_index_or units i 0 ≤ n

index_push : (units : List ℕ) (n m i : ℕ) → ((j : ℕ) → slice_index_or units j 0 ≤ m) → n ≤ m → slice_index_or (units ++ n ∷ []) i 0 ≤ m
index_push [] n m zero h l = l
index_push [] n m (suc i) h l = omega arith
index_push (u ∷ us) n m zero h l = h 0
index_push (u ∷ us) n m (suc i) h l = index_push us n m i (λ j. h (suc j)) l

last_few : (units : List ℕ) (m : ℕ) → ((j : ℕ) → slice_index_or units j 0 ≤ m) → last_of units ≤ m
last_few [] m h = omega arith
last_few (n ∷ []) m h = h 0
last_few (n ∷ k ∷ ns) m h = last_few (k ∷ ns) m (λ j. h (suc j))

after_few : (asks units : List ℕ) (responses : ℕ) (k : Kind) → AreFew units → units_after asks units responses k ≤ length units
after_few asks [] responses k h = omega arith
after_few asks (n ∷ ns) responses RetransmissionResponse h = by (slice_get asks responses)
  where
    by : (o : Option ℕ) → units_at (n ∷ ns) o ≤ length (n ∷ ns)
    by None = omega arith
    by (Some c) = (let l = h (length ns) (omega arith) c in omega arith)
after_few asks (n ∷ ns) responses Data h = (let l = last_few (n ∷ ns) (length ns) (h (length ns) (omega arith)) in omega arith)
after_few asks (n ∷ ns) responses RetransmittedData h = (let l = last_few (n ∷ ns) (length ns) (h (length ns) (omega arith)) in omega arith)
after_few asks (n ∷ ns) responses _ h = (let l = last_few (n ∷ ns) (length ns) (h (length ns) (omega arith)) in omega arith)

old_few : (units : List ℕ) (j : ℕ) → AreFew units → slice_index_or units j 0 ≤ length units
old_few [] j h = omega arith
old_few (u ∷ us) j h = (let l = h (length us) (omega arith) j in omega arith)

few_from : (asks : List ℕ) (c : Conveyed) (ks : List Kind) → AreFew c.units → AreFew (fold (convey asks) c ks).units
few_from asks c [] h = h
few_from asks c (k ∷ ks) h = few_from asks (convey asks c k) ks one
  where
    one : AreFew (c.units ++ units_after asks c.units c.responses k ∷ [])
    one n e i =
        let l = length_push c.units (units_after asks c.units c.responses k) in
        let m = index_push c.units (units_after asks c.units c.responses k) (length c.units) i (λ j. old_few c.units j h) (after_few asks c.units c.responses k h) in
        omega (arith, e, l, m)

none_few : AreFew []
none_few n e i = absurd (omega (arith, e))

pub last_units-few : (asks : List ℕ) (ks : List Kind) (n : ℕ) → length ks ≡ suc n → last_of (all_units_conveyed asks ks) ≤ n
last_units-few asks ks n e =
    last_few (all_units_conveyed asks ks) n (λ j. few_from asks (record { units = []; responses = 0 }) ks none_few n (length-all_units asks ks ∙ e) j)

pub last-at : (units : List ℕ) (n : ℕ) → length units ≡ suc n → slice_index_or units n 0 ≡ last_of units
last-at [] n e = absurd (omega arith)
last-at (u ∷ []) zero e = refl
last-at (u ∷ []) (suc n) e = absurd (omega arith)
last-at (u ∷ v ∷ vs) zero e = absurd (omega arith)
last-at (u ∷ v ∷ vs) (suc n) e = last-at (v ∷ vs) n (omega arith)

-- of PDUs of these types
pub last_units : (asks : List ℕ) (ks : List Kind) (n : ℕ) → length ks ≡ suc n → units_conveyed asks ks n ≡ last_of (all_units_conveyed asks ks)
last_units asks ks n e = last-at (all_units_conveyed asks ks) n (length-all_units asks ks ∙ e)

pub after-response : (asks : List ℕ) (ks : List Kind) (n : ℕ) (k : Kind) → k ≡ RetransmissionResponse → 0 < length ks
    → n ≡ units_at (all_units_conveyed asks ks) (slice_get asks (responses_in ks)) → n ≡ units_after asks (all_units_conveyed asks ks) (conveyed asks ks).responses k
after-response asks ks n k e some h =
    rw (e, conveyed-responses asks ks) (by (all_units_conveyed asks ks) (let l = length-all_units asks ks in omega (arith, l, some)) h)
  where
    by : (units : List ℕ) → 0 < length units → n ≡ units_at units (slice_get asks (responses_in ks)) → n ≡ units_after asks units (responses_in ks) RetransmissionResponse
    by [] l h = absurd (omega arith)
    by (u ∷ us) l h = h

pub after-unit : (asks : List ℕ) (ks : List Kind) (n : ℕ) (k : Kind) → carries_unit k ≡ true → 0 < length ks → n ≡ last_of (all_units_conveyed asks ks)
    → n + 1 ≡ units_after asks (all_units_conveyed asks ks) (conveyed asks ks).responses k
after-unit asks ks n k carries some h = by (all_units_conveyed asks ks) k carries (let l = length-all_units asks ks in omega (arith, l, some)) h
  where
    by : (units : List ℕ) (k : Kind) → carries_unit k ≡ true → 0 < length units → n ≡ last_of units → n + 1 ≡ units_after asks units (conveyed asks ks).responses k
    by [] k e l h = absurd (omega arith)
    by (u ∷ us) Data e l h = omega (arith, h)
    by (u ∷ us) RetransmittedData e l h = omega (arith, h)
    by (u ∷ us) _ e l h = absurd (cc)

pub length-kinds : (ms : List Made) → length (kinds ms) ≡ length ms
length-kinds ms = length-map ms (λ (m : Made). m.pdu.kind)

pub responses_in-few : (ks : List Kind) → responses_in ks ≤ length ks
responses_in-few [] = omega arith
responses_in-few (RetransmissionResponse ∷ ks) = (let l = responses_in-few ks in omega arith)
responses_in-few (_ ∷ ks) = (let l = responses_in-few ks in omega arith)
