-- The plain program's loops: what is left to be done is done at one member more.
use Rattle.std.proofs.Common.{◌≡◌, ℕ, zero, suc, ◌+◌, ◌<◌, ◌≤◌, min, max, Bool, true, false, cond, List, [], ◌∷◌, ◌++◌, length, drop, take, get_or, map, Option, Some, None, refl, ap, sym, ◌∙◌, arith, add-one, append_assoc}
use Rattle.std.specs.Prelude.{Result, Ok, Err, IfOk, fold, slice_get, nat_lt, ◌==◌, slice_index_or, if◌then◌else◌}
use Rattle.std.specs.Option.{option_map}
use mir.Val.{bool_byte}
use Rattle.std.proofs.Math.Seq.{drop-cons}
use Rattle.std.proofs.lemmas.List.{append-nil, take_min}
use Rattle.rasta_pdu.specs.declared.kind.Kind.{Kind}
use Rattle.rasta_pdu.specs.declared.kind.Kind.TheVariants.{RetransmissionResponse, Data, RetransmittedData, ConnectionRequest}
use Rattle.rasta_pdu.specs.Pdu.{SafetyPdu, value_of, is_kind}
use Rattle.rasta_pcap.specs.declared.fault.Side.{Side}
use Rattle.rasta_pcap.specs.Fault.{other_side}
use Rattle.rasta_pdu.specs.Params.{Parameters, quiet_of}
use Rattle.rasta_pdu.specs.declared.quiet_point.Quiet.{Quiet}
use Rattle.rasta_end.specs.Starts.{start_of, quiet_pdu}
use Rattle.rasta_end.specs.Units.{Conveyed, convey, units_after, units_at, last_of, responses_after}
use Rattle.trials_plain.specs.declared.taken.FirstCopy.{FirstCopy as PlainCopy}
use Rattle.trials_plain.specs.declared.taken.MadePdu.{MadePdu}
use Rattle.rasta_check.specs.Capture.SentLists.{FirstCopy}
use Rattle.rasta_check.specs.Model.Taken.{pdus_made, position_with, units_along, units_shown, units_taken, pdus_of, proof_place, units_from, TakenUnit, data_copies}
use Rattle.trials_plain.specs.Plain.{copy_of, copies_of, pdus, AreAtMost}

-- the next member, before what is left
pub next_of : {A : Type 0} (xs : List A) (i : ℕ) (d x : A) → i < length xs → x ≡ get_or xs i d → drop i xs ≡ x ∷ drop (i + 1) xs
next_of xs i d x below is = drop-cons xs i d below ∙ ap (λ v. v ∷ drop (suc i) xs) (sym is) ∙ ap (λ n. x ∷ drop n xs) (sym (add-one i))

-- a position among those that are left, counted from the front
abbrev pub moved_by : ℕ → Option ℕ → Option ℕ
moved_by i position = option_map (λ n. i + n) position

-- ---- units conveyed

pub at_most-more : (m n : ℕ) (ns : List ℕ) → m ≤ n → AreAtMost m ns → AreAtMost n ns
at_most-more m n [] l h = tt
at_most-more m n (k ∷ ns) l h = (let first = h.0 in omega arith, at_most-more m n ns l h.1)

pub at_most-push : (m : ℕ) (ns : List ℕ) (n : ℕ) → n ≤ m → AreAtMost m ns → AreAtMost m (ns ++ n ∷ [])
at_most-push m [] n l h = (l, tt)
at_most-push m (k ∷ ns) n l h = (h.0, at_most-push m ns n l h.1)

pub last-at_most : (m : ℕ) (ns : List ℕ) → AreAtMost m ns → last_of ns ≤ m
last-at_most m [] h = omega arith
last-at_most m (n ∷ []) h = h.0
last-at_most m (n ∷ k ∷ ns) h = last-at_most m (k ∷ ns) h.1

index-at_most : (m : ℕ) (ns : List ℕ) (i : ℕ) → AreAtMost m ns → slice_index_or ns i 0 ≤ m
index-at_most m [] i h = omega arith
index-at_most m (n ∷ ns) zero h = h.0
index-at_most m (n ∷ ns) (suc i) h = index-at_most m ns i h.1

pub at-at_most : (m : ℕ) (ns : List ℕ) (o : Option ℕ) → AreAtMost m ns → units_at ns o ≤ m
at-at_most m ns None h = omega arith
at-at_most m ns (Some i) h = index-at_most m ns i h

pub conveys-response : (asks units : List ℕ) (n : ℕ) (kind : Kind) → 0 < length units → kind ≡ RetransmissionResponse → units_at units (slice_get asks n) ≡ units_after asks units n kind
conveys-response asks units n kind h g = grind arith

pub conveys-data : (asks units : List ℕ) (n : ℕ) (kind : Kind) → 0 < length units → kind ≡ Data → last_of units + 1 ≡ units_after asks units n kind
conveys-data asks units n kind h g = grind arith

pub conveys-again : (asks units : List ℕ) (n : ℕ) (kind : Kind) → 0 < length units → kind ≡ RetransmittedData → last_of units + 1 ≡ units_after asks units n kind
conveys-again asks units n kind h g = grind arith

pub conveys-other : (asks units : List ℕ) (n : ℕ) (kind : Kind) → 0 < length units → (kind ≡ RetransmissionResponse → ⊥) → (kind ≡ Data → ⊥) → (kind ≡ RetransmittedData → ⊥)
    → last_of units ≡ units_after asks units n kind
conveys-other asks units n kind h g k l = grind arith

pub not_empty : (units : List ℕ) (b : Bool) → b ≡ (length units == 0) → b ≡ false → 0 < length units
not_empty units b h g = grind arith

pub responses-next : (n : ℕ) (kind : Kind) → responses_after n kind ≡ n + (if is_kind RetransmissionResponse kind then 1 else 0)
responses-next n kind = grind arith

pub one_or_none : (b c : Bool) → b ≡ c → bool_byte b ≡ (if c then 1 else 0)
one_or_none b c h = grind arith

pub one_at_most : (b : Bool) → bool_byte b ≤ 1
one_at_most b = grind arith

abbrev pub kinds_made : List MadePdu → List Kind
kinds_made own = map (λ (x : SafetyPdu). x.kind) (pdus own)

-- one PDU more is conveyed
pub conveyed-more : (asks units more : List ℕ) (own : List MadePdu) (i n responses after : ℕ) (d m : MadePdu) → i < length own → m ≡ get_or own i d
    → n ≡ units_after asks units responses m.kind → more ≡ units ++ n ∷ [] → after ≡ responses + (if is_kind RetransmissionResponse m.kind then 1 else 0)
    → fold (convey asks) (record { units = more; responses = after }) (kinds_made (drop (i + 1) own)) ≡ fold (convey asks) (record { units = units; responses = responses }) (kinds_made (drop i own))
conveyed-more asks units more own i n responses after d m below is conveys pushed counted =
    ap (λ (ns : List ℕ). from ns after) (pushed ∙ ap (λ k. units ++ k ∷ []) conveys)
    ∙ ap (from (units ++ units_after asks units responses m.kind ∷ [])) (counted ∙ sym (responses-next responses m.kind))
    ∙ ap (λ (ms : List MadePdu). fold (convey asks) (record { units = units; responses = responses }) (kinds_made ms)) (sym (next_of own i d m below is))
  where
    from : List ℕ → ℕ → Conveyed
    from ns k = fold (convey asks) (record { units = ns; responses = k }) (kinds_made (drop (i + 1) own))

-- ---- units taken

-- one PDU of the peer more
pub most-more : (shown : SafetyPdu → ℕ) (peer : List PlainCopy) (i most n : ℕ) (d c : PlainCopy) → i < length peer → c ≡ get_or peer i d → n ≡ shown (value_of c.pdu).safety
    → fold max (max most n) (map shown (pdus_of (copies_of (drop (i + 1) peer)))) ≡ fold max most (map shown (pdus_of (copies_of (drop i peer))))
most-more shown peer i most n d c below is same =
    ap (λ k. fold max (max most k) (map shown (pdus_of (copies_of (drop (i + 1) peer))))) same
    ∙ ap (λ (cs : List PlainCopy). fold max most (map shown (pdus_of (copies_of cs)))) (sym (next_of peer i d c below is))

-- the proof place among the PDUs that are left
pub proof-passed : (own peer : List SafetyPdu) (unit : ℕ) (copies : List PlainCopy) (i n : ℕ) (d c : PlainCopy) → i < length copies → c ≡ get_or copies i d
    → n ≡ units_shown own peer (value_of c.pdu).safety → nat_lt unit n ≡ false
    → proof_place own peer unit (copies_of (drop (i + 1) copies)) ≡ proof_place own peer unit (copies_of (drop i copies))
proof-passed own peer unit copies i n d c below is shown test =
    ap (λ (b : Bool). if b then c.place else proof_place own peer unit (copies_of (drop (i + 1) copies))) (sym (ap (nat_lt unit) (sym shown) ∙ test))
    ∙ ap (λ (cs : List PlainCopy). proof_place own peer unit (copies_of cs)) (sym (next_of copies i d c below is))

pub proof-here : (own peer : List SafetyPdu) (unit : ℕ) (copies : List PlainCopy) (i n : ℕ) (d c : PlainCopy) → i < length copies → c ≡ get_or copies i d
    → n ≡ units_shown own peer (value_of c.pdu).safety → nat_lt unit n ≡ true → c.place ≡ proof_place own peer unit (copies_of (drop i copies))
proof-here own peer unit copies i n d c below is shown test =
    ap (λ (b : Bool). if b then c.place else proof_place own peer unit (copies_of (drop (i + 1) copies))) (sym (ap (nat_lt unit) (sym shown) ∙ test))
    ∙ ap (λ (cs : List PlainCopy). proof_place own peer unit (copies_of cs)) (sym (next_of copies i d c below is))

data-apart : (c : FirstCopy) (cs : List FirstCopy) → data_copies (c ∷ cs) ≡ data_copies (c ∷ []) ++ data_copies cs
data-apart c cs = grind arith

pub copies-more : (sent : List PlainCopy) (before more : List FirstCopy) (i : ℕ) (d c : PlainCopy) → i < length sent → c ≡ get_or sent i d → more ≡ before ++ data_copies (copy_of c ∷ [])
    → more ++ data_copies (copies_of (drop (i + 1) sent)) ≡ before ++ data_copies (copies_of (drop i sent))
copies-more sent before more i d c below is pushed =
    ap (λ (cs : List FirstCopy). cs ++ data_copies (copies_of (drop (i + 1) sent))) pushed
    ∙ append_assoc before (data_copies (copy_of c ∷ [])) (data_copies (copies_of (drop (i + 1) sent)))
    ∙ ap (λ (cs : List FirstCopy). before ++ cs) (sym (data-apart (copy_of c) (copies_of (drop (i + 1) sent))))
    ∙ ap (λ (cs : List PlainCopy). before ++ data_copies (copies_of cs)) (sym (next_of sent i d c below is))

-- ---- the listed units

pub copies-take : (n : ℕ) (copies : List PlainCopy) → copies_of (take n copies) ≡ take n (copies_of copies)
copies-take zero copies = refl
copies-take (suc n) [] = refl
copies-take (suc n) (c ∷ copies) = ap (λ (cs : List FirstCopy). copy_of c ∷ cs) (copies-take n copies)

-- units of the data PDUs that are listed
pub listed_units : (own other : List SafetyPdu) (peer : List FirstCopy) (data_pdus copies : List FirstCopy) (listed : List FirstCopy) (taken : List TakenUnit) (count : ℕ)
    → own ≡ other → data_pdus ≡ data_copies copies → count ≡ units_taken own (pdus_of peer) → listed ≡ take count data_pdus
    → taken ≡ units_from own peer 0 listed
    → taken ≡ units_from other peer 0 (take (units_taken other (pdus_of peer)) (data_copies copies))
listed_units own other peer data_pdus copies listed taken count h g k l m = grind arith

pub copies-first : (copies : List PlainCopy) (count least : ℕ) → least ≡ min count (length copies) → copies_of (take least copies) ≡ take count (copies_of copies)
copies-first copies count least is = ap (λ n. copies_of (take n copies)) is ∙ ap copies_of (take_min count copies) ∙ copies-take count copies

-- what follows of a value that is there
pub ok_more : {A E : Type 0} {P Q : A → Type 0} (r : Result A E) → ((x : A) → P x → Q x) → IfOk r P → IfOk r Q
ok_more (Ok x) f h = f x h
ok_more (Err e) f h = tt

-- ---- what is shown

pub shown-at : (own peer : List SafetyPdu) (units : List ℕ) (x : SafetyPdu) (n : ℕ) (o : Option ℕ) → units ≡ units_along own peer → n ≡ units_at units o
    → o ≡ cond (is_kind ConnectionRequest x.kind) None (position_with own x.cs) → n ≡ units_shown own peer x
shown-at own peer units x n o h g k = grind arith

-- ---- the quiet PDU

pub quiet-made : (p : Parameters) (side : Side) (q : Quiet) (x : SafetyPdu) → p.quiet ≡ Some q → x ≡ quiet_pdu (quiet_of q side) (quiet_of q (other_side side)) → x ∷ [] ≡ pdus_made (start_of p side).made
quiet-made p side q x h g = grind arith

-- a PDU that is no data leaves the data PDUs as they are
pub not_pushed : (before : List PlainCopy) (c : PlainCopy) → is_kind Data (value_of c.pdu).safety.kind ≡ false → copies_of before ≡ copies_of before ++ data_copies (copy_of c ∷ [])
not_pushed before c none = sym (append-nil (copies_of before)) ∙ ap (λ (b : Bool). copies_of before ++ cond b (copy_of c ∷ []) []) (sym none)
