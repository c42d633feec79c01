-- What some definitions mean.
use Rattle.std.proofs.Common.{◌≡◌, ℕ, suc, ◌+◌, ◌-◌, ◌%◌, ◌^◌, ◌<◌, ◌≤◌, Bool, true, false, List, [], ◌∷◌, ◌++◌, length, Option, Some, None, slice_get, refl, ap, sym, ◌∙◌, arith, subst}
use Rattle.std.specs.Prelude.{slice_index_or, nat_lt, if◌then◌else◌}
use Rattle.std.proofs.lemmas.Bool.Decides.{nat_tests}
use Rattle.std.proofs.lemmas.Option.{slice_get-get_or, get_or_from_slice_get}
use Rattle.std.proofs.lemmas.List.{get_or_past}
use Rattle.rasta_pdu.specs.declared.kind.Kind.{Kind}
use Rattle.rasta_pdu.specs.declared.kind.Kind.TheVariants.{ConnectionRequest, ConnectionResponse, RetransmissionRequest, RetransmissionResponse, DisconnectionRequest, Heartbeat, Data, RetransmittedData}
use Rattle.rasta_pdu.specs.Params.{Parameters}
use Rattle.rasta_end.specs.State.{ahead_by}
use Rattle.rasta_end.specs.TakeRule.{deadline_from}
use Rattle.rasta_end.specs.Units.{conveyed, all_units_conveyed, units_conveyed, units_after, units_at, last_of}
use Rattle.rasta_end.specs.Meanings.{units_of_ask, units_by_type}
use Rattle.rasta_end.proofs.Lists.{get_front, get_push}
use Rattle.rasta_end.proofs.Conveying.{all_units-push, length-all_units, conveyed-responses, last-at}

append_one : (xs : List Kind) (y : Kind) (ys : List Kind) → xs ++ y ∷ ys ≡ (xs ++ y ∷ []) ++ ys
append_one [] y ys = refl
append_one (x ∷ xs) y ys = ap (λ zs. x ∷ zs) (append_one xs y ys)

append_nil : (vs : List ℕ) → vs ++ [] ≡ vs
append_nil [] = refl
append_nil (v ∷ vs) = ap (λ ws. v ∷ ws) (append_nil vs)

-- more PDUs leave the values so far
all_units-front : (asks : List ℕ) (ys xs : List Kind) → (vs : List ℕ) × (all_units_conveyed asks (xs ++ ys) ≡ all_units_conveyed asks xs ++ vs)
all_units-front asks [] xs = ([], ap (all_units_conveyed asks) (append_none xs) ∙ sym (append_nil (all_units_conveyed asks xs)))
  where
    append_none : (xs : List Kind) → xs ++ [] ≡ xs
    append_none [] = refl
    append_none (x ∷ xs) = ap (λ zs. x ∷ zs) (append_none xs)
all_units-front asks (y ∷ ys) xs =
    let r = all_units-front asks ys (xs ++ y ∷ []) in
    let v = units_after asks (all_units_conveyed asks xs) (conveyed asks xs).responses y in
    (v ∷ r.0, ap (all_units_conveyed asks) (append_one xs y ys) ∙ (r.1 ∙ (ap (λ us. us ++ r.0) (all_units-push asks xs y) ∙ assoc (all_units_conveyed asks xs) (v ∷ []) r.0)))
  where
    assoc : (xs ys zs : List ℕ) → (xs ++ ys) ++ zs ≡ xs ++ (ys ++ zs)
    assoc [] ys zs = refl
    assoc (x ∷ xs) ys zs = ap (λ ps. x ∷ ps) (assoc xs ys zs)

-- a position below has the value that it has in the shorter list
conveyed-front : (asks : List ℕ) (xs ys : List Kind) (c : ℕ) → c < length xs → units_conveyed asks (xs ++ ys) c ≡ units_conveyed asks xs c
conveyed-front asks xs ys c l =
    let r = all_units-front asks ys xs in
    let w : c < length (all_units_conveyed asks xs) = (let z = length-all_units asks xs in omega arith) in
    let at = slice_get-get_or (all_units_conveyed asks xs) c 0 w in
    ap (λ vs. slice_index_or vs c 0) r.1 ∙ get_or_from_slice_get (all_units_conveyed asks xs ++ r.0) c _ 0 (get_front (all_units_conveyed asks xs) r.0 c _ at)

conveyed-here : (asks : List ℕ) (bs rest : List Kind) (k : Kind) → units_conveyed asks (bs ++ k ∷ rest) (length bs) ≡ units_after asks (all_units_conveyed asks bs) (conveyed asks bs).responses k
conveyed-here asks bs rest k =
    let r = all_units-front asks rest (bs ++ k ∷ []) in
    let v = units_after asks (all_units_conveyed asks bs) (conveyed asks bs).responses k in
    let all : all_units_conveyed asks (bs ++ k ∷ rest) ≡ (all_units_conveyed asks bs ++ v ∷ []) ++ r.0 = ap (all_units_conveyed asks) (append_one bs k rest) ∙ (r.1 ∙ ap (λ us. us ++ r.0) (all_units-push asks bs k)) in
    let at : slice_get (all_units_conveyed asks bs ++ v ∷ []) (length bs) ≡ Some v = subst (λ n. slice_get (all_units_conveyed asks bs ++ v ∷ []) n ≡ Some v) (length-all_units asks bs) (get_push (all_units_conveyed asks bs) v) in
    ap (λ vs. slice_index_or vs (length bs) 0) all ∙ get_or_from_slice_get ((all_units_conveyed asks bs ++ v ∷ []) ++ r.0) (length bs) v 0 (get_front (all_units_conveyed asks bs ++ v ∷ []) r.0 (length bs) v at)

last_is : (asks : List ℕ) (b : Kind) (bs rest : List Kind) (k : Kind) → last_of (all_units_conveyed asks (b ∷ bs)) ≡ units_conveyed asks ((b ∷ bs) ++ k ∷ rest) (length bs)
last_is asks b bs rest k =
    sym (conveyed-front asks (b ∷ bs) (k ∷ rest) (length bs) (omega arith) ∙ last-at (all_units_conveyed asks (b ∷ bs)) (length bs) (length-all_units asks (b ∷ bs)))

some_units : (asks vs : List ℕ) (n m : ℕ) → length vs ≡ suc m → (k : Kind) → (v : ℕ) × (us : List ℕ) × (vs ≡ v ∷ us)
some_units asks [] n m e k = absurd (cc)
some_units asks (v ∷ us) n m e k = (v, us, refl)

asked : (asks : List ℕ) (xs ys : List Kind) (o : Option ℕ) → units_at (all_units_conveyed asks xs) o ≡ units_of_ask asks (xs ++ ys) (length xs) o
asked asks xs ys None = refl
asked asks xs ys (Some c) = by (nat_lt c (length xs)) refl
  where
    lt : nat_lt c (length xs) ≡ true → c < length xs
    lt e = grind (arith, nat_tests)

    ge : nat_lt c (length xs) ≡ false → length xs ≤ c
    ge e = grind (arith, nat_tests)

    by : (b : Bool) → nat_lt c (length xs) ≡ b → slice_index_or (all_units_conveyed asks xs) c 0 ≡ (if b then units_conveyed asks (xs ++ ys) c else 0)
    by true e = sym (conveyed-front asks xs ys c (lt e))
    by false e = (let z = length-all_units asks xs in let l = ge e in get_or_past (all_units_conveyed asks xs) c 0 (omega arith))

by_kind : (asks : List ℕ) (b : Kind) (bs rest : List Kind) (k : Kind) → (v : ℕ) (us : List ℕ) → all_units_conveyed asks (b ∷ bs) ≡ v ∷ us → units_after asks (v ∷ us) (conveyed asks (b ∷ bs)).responses k ≡ units_by_type asks ((b ∷ bs) ++ k ∷ rest) (b ∷ bs) k
by_kind asks b bs rest RetransmissionResponse v us e =
    ap (λ vs. units_at vs (slice_get asks (conveyed asks (b ∷ bs)).responses)) (sym e)
    ∙ (ap (λ n. units_at (all_units_conveyed asks (b ∷ bs)) (slice_get asks n)) (conveyed-responses asks (b ∷ bs)) ∙ asked asks (b ∷ bs) (RetransmissionResponse ∷ rest) _)
by_kind asks b bs rest Data v us e = ap (λ vs. suc (last_of vs)) (sym e) ∙ ap suc (last_is asks b bs rest Data)
by_kind asks b bs rest RetransmittedData v us e = ap (λ vs. suc (last_of vs)) (sym e) ∙ ap suc (last_is asks b bs rest RetransmittedData)
by_kind asks b bs rest ConnectionRequest v us e = ap last_of (sym e) ∙ last_is asks b bs rest ConnectionRequest
by_kind asks b bs rest ConnectionResponse v us e = ap last_of (sym e) ∙ last_is asks b bs rest ConnectionResponse
by_kind asks b bs rest RetransmissionRequest v us e = ap last_of (sym e) ∙ last_is asks b bs rest RetransmissionRequest
by_kind asks b bs rest DisconnectionRequest v us e = ap last_of (sym e) ∙ last_is asks b bs rest DisconnectionRequest
by_kind asks b bs rest Heartbeat v us e = ap last_of (sym e) ∙ last_is asks b bs rest Heartbeat

pub conveyed-is : (asks : List ℕ) (bs rest : List Kind) (k : Kind) → units_conveyed asks (bs ++ k ∷ rest) (length bs) ≡ units_by_type asks (bs ++ k ∷ rest) bs k
conveyed-is asks [] rest k = conveyed-here asks [] rest k
conveyed-is asks (b ∷ bs) rest k =
    let s = some_units asks (all_units_conveyed asks (b ∷ bs)) 0 (length bs) (length-all_units asks (b ∷ bs)) k in
    conveyed-here asks (b ∷ bs) rest k ∙ (ap (λ vs. units_after asks vs (conveyed asks (b ∷ bs)).responses k) s.2 ∙ by_kind asks b bs rest k s.0 s.1 s.2)

pub deadline_is : (p : Parameters) (clock cts : ℕ) → (l : ℕ) × (deadline_from p clock cts ≡ l + p.t_max) × (l ≤ clock + 2 ^ 32) × (clock < l) × (l % 2 ^ 32 ≡ cts % 2 ^ 32)
deadline_is p clock cts = (clock + 2 ^ 32 - ahead_by clock cts, refl, omega arith, omega arith, omega arith)
