-- A datagram's spelling, read and written.
use Rattle.std.proofs.Common.{◌≡◌, ℕ, ◌+◌, ◌-◌, ◌^◌, ◌<◌, ◌≤◌, List, [], ◌++◌, length, drop, slice_range, Bool, true, false, cond, nat_eq, nat_le, ◌&&◌, Option, Some, None, Result, Ok, Err, refl, ap, sym, ◌∙◌, arith, subst, length-take, length-drop, IfOk, MatchResult, IsOkAnd, inl, inr}
use Rattle.std.proofs.lemmas.Bool.{eqb-true, leb-true, and_parts}
use Rattle.std.proofs.lemmas.Bool.Decides.{nat_tests}
use Rattle.std.proofs.lemmas.Slice.Eq.{bytes_eq-Decides}
use Rattle.std.specs.Str.{bytes_eq}
use Rattle.byteorder.specs.Endian.{little_bytes}
use Rattle.byteorder.specs.Numbers.{little_number-reads_back}
use Rattle.rasta_md4.specs.Md4.{md4}
use Rattle.rasta_md4.proofs.Digests.{length-md4}
use Rattle.rasta_pcap.specs.declared.fault.Fault.{Fault}
use Rattle.rasta_pcap.specs.declared.fault.Side.{Side}
use Rattle.rasta_pdu.specs.declared.kind.Kind.{Kind}
use Rattle.rasta_pdu.specs.declared.pdu.Pdu.{Pdu}
use Rattle.rasta_pdu.specs.Params.{Parameters, AreParameters}
use Rattle.rasta_pdu.specs.Pdu.{SafetyBody, SafetyPdu, RedundancyPdu, IsRedundancyPdu, layout_of, type_of, kind_of, payload_of, body_in, body_at, length_of, uncoded_bytes, code_over, code_of, redundancy_bytes, receiver_of, sender_of, little_at, check_at, code_at, has_length, has_fields, has_safety_length, has_code, has_ids, pdu_with_body, refused, decode_body, decode_kind, decode_of, value_of}
use Rattle.rasta_pdu.specs.Lengths.{has_payload_length}
use Rattle.rasta_pdu.specs.Messages.{AreBytes}
use Rattle.rasta_pdu.proofs.Numbers.{AreBytes-drop, AreBytes-take, two_at, four_at, little_at-lt}
use Rattle.rasta_pdu.proofs.Places.{first_part, second_part, third_part, length-three, three_parts, length-slice_range}
use Rattle.rasta_pdu.proofs.Bodies.{kind_of-type_of, type_of-kind_of, type_of-lt, IsBodyOf, body_in-Some, body_in-payload_of, body_at-body_in, has_payload_length-body_in}

-- ---- the lengths of codes

code_most : (p : Parameters) → AreParameters p → p.code_length ≤ 16
code_most p are =
    elim are.lengths.code [ inl none ↦ omega arith | inr some ↦ elim some [ inl eight ↦ omega arith | inr sixteen ↦ omega arith ] ]

pub length-code : (p : Parameters) (xs : List ℕ) → AreParameters p → length (code_over p xs) ≡ p.code_length
length-code p xs are =
    let most = code_most p are in
    let digest = length-md4 p.md4_start xs in
    length-take p.code_length (md4 p.md4_start xs) ∙ omega arith

-- ---- a datagram of eleven numbers, a payload and two codes

-- the safety PDU up to its payload's end
abbrev uncoded : (d e f g h i j k : ℕ) (b : List ℕ) → List ℕ
uncoded d e f g h i j k b = little_bytes 2 d ++ (little_bytes 2 e ++ (little_bytes 4 f ++ (little_bytes 4 g
    ++ (little_bytes 4 h ++ (little_bytes 4 i ++ (little_bytes 4 j ++ (little_bytes 4 k ++ b)))))))

abbrev datagram : (a b c : ℕ) (safety check : List ℕ) → List ℕ
datagram a b c safety check = little_bytes 2 a ++ (little_bytes 2 b ++ (little_bytes 4 c ++ (safety ++ check)))

-- the first eight bytes and the safety PDU up to its payload's end
abbrev front : (a b c : ℕ) (u : List ℕ) → List ℕ
front a b c u = little_bytes 2 a ++ (little_bytes 2 b ++ (little_bytes 4 c ++ u))

-- what a datagram of these parts has at its places; the length fields say what they should
record HasParts (p : Parameters) (xs u b c k : List ℕ) : Type 0 where
  payload : slice_range xs 36 (code_at p xs) ≡ b
  covered : slice_range xs 8 (code_at p xs) ≡ u
  code : slice_range xs (code_at p xs) (check_at p xs) ≡ c
  check : drop (check_at p xs) xs ≡ k
  size : length xs ≡ 36 + length b + p.code_length + p.check_length

has_parts : (p : Parameters) (l reserve number d e f g h i j n : ℕ) (b c k : List ℕ) → length c ≡ p.code_length → length k ≡ p.check_length
    → HasParts p (datagram l reserve number (uncoded d e f g h i j n b ++ c) k) (uncoded d e f g h i j n b) b c k
has_parts p l reserve number d e f g h i j n b c k lc lk =
    let u : List ℕ = uncoded d e f g h i j n b in
    let w : List ℕ = front l reserve number u in
    let xs : List ℕ = datagram l reserve number (u ++ c) k in
    let whole : length xs ≡ length w + length c + length k = length-three w c k in
    let wide : length w ≡ 36 + length b = omega arith in
    let some : length u ≡ 28 + length b = omega arith in
    let at : code_at p xs ≡ length w = omega arith in
    let end : check_at p xs ≡ length w + length c = omega arith in
    record {
      payload = first_part (code_at p xs - 36) b c k (omega arith);
      covered = first_part (code_at p xs - 8) u c k (omega arith);
      code = second_part (code_at p xs) (check_at p xs) w c k at end;
      check = third_part (check_at p xs) w c k end;
      size = omega arith;
    }

-- ---- the tests of reading, one after another

abbrev Answer : Type 0
Answer = Result RedundancyPdu Fault

-- what the tests of a datagram find
record IsPassed (p : Parameters) (side : Side) (xs : List ℕ) (kind : Kind) (body : SafetyBody) : Type 0 where
  length : has_length xs ≡ true
  fields : has_fields p xs ≡ true
  safety : has_safety_length p xs ≡ true
  type : kind_of (little_at 2 10 xs) ≡ Some kind
  payload : body_in (layout_of kind) (slice_range xs 36 (code_at p xs)) ≡ Some body
  code : has_code p xs ≡ true
  ids : has_ids p side xs ≡ true

pass : (b : Bool) (x y : Answer) → b ≡ true → cond b x y ≡ x
pass b x y h = ap (λ (t : Bool). cond t x y) h

abbrev after_code : Parameters → Side → List ℕ → Kind → SafetyBody → Answer
after_code p side xs kind body = cond (has_ids p side xs) (Ok (pdu_with_body kind body (check_at p xs) xs)) (refused 26)

abbrev after_fields : Parameters → Side → List ℕ → Answer
after_fields p side xs = cond (has_safety_length p xs) (decode_kind p side xs (kind_of (little_at 2 10 xs))) (refused 22)

abbrev after_length : Parameters → Side → List ℕ → Answer
after_length p side xs = cond (has_fields p xs) (after_fields p side xs) (refused 21)

-- a datagram that passes is read
passed : (p : Parameters) (side : Side) (xs : List ℕ) (kind : Kind) (body : SafetyBody) → IsPassed p side xs kind body
    → decode_of p side xs ≡ Ok (pdu_with_body kind body (check_at p xs) xs)
unfolding decode_of
passed p side xs kind body is =
    pass (has_length xs) (after_length p side xs) (refused 20) is.length
    ∙ pass (has_fields p xs) (after_fields p side xs) (refused 21) is.fields
    ∙ pass (has_safety_length p xs) (decode_kind p side xs (kind_of (little_at 2 10 xs))) (refused 22) is.safety
    ∙ ap (decode_kind p side xs) is.type
    ∙ ap (decode_body p side xs kind) is.payload
    ∙ pass (has_code p xs) (after_code p side xs kind body) (refused 25) is.code
    ∙ pass (has_ids p side xs) (Ok (pdu_with_body kind body (check_at p xs) xs)) (refused 26) is.ids

guard : (b : Bool) (x : Answer) (n : ℕ) (r : RedundancyPdu) → cond b x (refused n) ≡ Ok r → (b ≡ true) × (x ≡ Ok r)
guard true x n r h = (refl, h)
guard false x n r h = absurd (cc)

-- a kind, and what is read of it
record IsKind (p : Parameters) (side : Side) (xs : List ℕ) (r : RedundancyPdu) (o : Option Kind) : Type 0 where
  known : Kind
  is : o ≡ Some known
  rest : decode_kind p side xs (Some known) ≡ Ok r

some_kind : (p : Parameters) (side : Side) (xs : List ℕ) (r : RedundancyPdu) (o : Option Kind) → decode_kind p side xs o ≡ Ok r → IsKind p side xs r o
some_kind p side xs r None h = absurd (cc)
some_kind p side xs r (Some kind) h = record { known = kind; is = refl; rest = h }

record IsBody (p : Parameters) (side : Side) (xs : List ℕ) (r : RedundancyPdu) (kind : Kind) (o : Option SafetyBody) : Type 0 where
  body : SafetyBody
  is : o ≡ Some body
  rest : decode_body p side xs kind (Some body) ≡ Ok r

some_body : (p : Parameters) (side : Side) (xs : List ℕ) (r : RedundancyPdu) (kind : Kind) (o : Option SafetyBody)
    → decode_body p side xs kind o ≡ Ok r → IsBody p side xs r kind o
some_body p side xs r kind None h = absurd (cc)
some_body p side xs r kind (Some body) h = record { body = body; is = refl; rest = h }

inside : {x y : RedundancyPdu} → ◌≡◌ {A = Answer} (Ok x) (Ok y) → x ≡ y
inside {x} {y} h = cc

-- what was read
record IsFound (p : Parameters) (side : Side) (xs : List ℕ) (r : RedundancyPdu) : Type 0 where
  kind : Kind
  body : SafetyBody
  tests : IsPassed p side xs kind body
  value : pdu_with_body kind body (check_at p xs) xs ≡ r

-- a datagram that is read has passed
found : (p : Parameters) (side : Side) (xs : List ℕ) (r : RedundancyPdu) → decode_of p side xs ≡ Ok r → IsFound p side xs r
unfolding decode_of
found p side xs r h =
    let g1 = guard (has_length xs) (after_length p side xs) 20 r h in
    let g2 = guard (has_fields p xs) (after_fields p side xs) 21 r g1.1 in
    let g3 = guard (has_safety_length p xs) (decode_kind p side xs (kind_of (little_at 2 10 xs))) 22 r g2.1 in
    let g4 = some_kind p side xs r (kind_of (little_at 2 10 xs)) g3.1 in
    let g5 = some_body p side xs r g4.known (body_in (layout_of g4.known) (slice_range xs 36 (code_at p xs))) g4.rest in
    let g6 = guard (has_code p xs) (after_code p side xs g4.known g5.body) 25 r g5.rest in
    let g7 = guard (has_ids p side xs) (Ok (pdu_with_body g4.known g5.body (check_at p xs) xs)) 26 r g6.1 in
    record {
      kind = g4.known;
      body = g5.body;
      tests = record { length = g1.0; fields = g2.0; safety = g3.0; type = g4.is; payload = g5.is; code = g6.0; ids = g7.0 };
      value = inside g7.1;
    }

-- what is known of a datagram that decodes
pub record IsDecoded (p : Parameters) (side : Side) (xs : List ℕ) : Type 0 where
  pub long : 36 + p.code_length + p.check_length ≤ length xs
  pub short : AreBytes xs → length xs < 2 ^ 16
  pub kind : kind_of (little_at 2 10 xs) ≡ None → ⊥
  pub payload : (known : Kind) → kind_of (little_at 2 10 xs) ≡ Some known → has_payload_length known (code_at p xs - 36) ≡ true
  pub value : (known : Kind) → kind_of (little_at 2 10 xs) ≡ Some known
      → decode_of p side xs ≡ Ok (pdu_with_body known (body_at (layout_of known) (slice_range xs 36 (code_at p xs))) (check_at p xs) xs)

-- what the tests found, for the kind that is known
is_decoded_by : (p : Parameters) (side : Side) (xs : List ℕ) (kind known : Kind) (body : SafetyBody) → IsPassed p side xs kind body → kind ≡ known
    → (has_payload_length known (length (slice_range xs 36 (code_at p xs))) ≡ true)
    × (decode_of p side xs ≡ Ok (pdu_with_body known (body_at (layout_of known) (slice_range xs 36 (code_at p xs))) (check_at p xs) xs))
is_decoded_by p side xs kind known body is e =
    let b : List ℕ = slice_range xs 36 (code_at p xs) in
    let P : Kind → Type 0 = λ k. (has_payload_length k (length b) ≡ true)
    × (decode_of p side xs ≡ Ok (pdu_with_body k (body_at (layout_of k) b) (check_at p xs) xs)) in
    subst P e (
      has_payload_length-body_in kind b body is.payload,
      passed p side xs kind body is
          ∙ ap (λ (o : SafetyBody). Ok (pdu_with_body kind o (check_at p xs) xs)) (sym (body_at-body_in (layout_of kind) b body is.payload)),
    )

pub is_decoded : (p : Parameters) (side : Side) (xs : List ℕ) (r : RedundancyPdu) → decode_of p side xs ≡ Ok r → IsDecoded p side xs
is_decoded p side xs r h =
    let f = found p side xs r h in
    let long : 36 + p.code_length + p.check_length ≤ length xs = leb-true (36 + p.code_length + p.check_length) (length xs) f.tests.fields in
    let size : length (slice_range xs 36 (code_at p xs)) ≡ code_at p xs - 36 = length-slice_range xs 36 (code_at p xs) (omega arith) (omega arith) in
    record {
      long = long;
      short = λ are.
          let low = little_at-lt 2 0 xs are in
          let whole = eqb-true (little_at 2 0 xs) (length xs) (and_parts (nat_le 2 (length xs)) (nat_eq (little_at 2 0 xs) (length xs)) f.tests.length).1 in
          omega arith;
      kind = λ none. clash_kind (sym none ∙ f.tests.type);
      payload = λ known some. ap (has_payload_length known) (sym size) ∙ (is_decoded_by p side xs f.kind known f.body f.tests (same_kind (sym f.tests.type ∙ some))).0;
      value = λ known some. (is_decoded_by p side xs f.kind known f.body f.tests (same_kind (sym f.tests.type ∙ some))).1;
    }
  where
    clash_kind : {k : Kind} → ◌≡◌ {A = Option Kind} None (Some k) → ⊥
    clash_kind {k} h = cc

    same_kind : {x y : Kind} → ◌≡◌ {A = Option Kind} (Some x) (Some y) → x ≡ y
    same_kind {x} {y} h = cc

-- ---- from the value to its bytes and back

same_bytes : (xs ys : List ℕ) → xs ≡ ys → bytes_eq xs ys ≡ true
same_bytes xs ys e = grind (arith, bytes_eq-Decides)

bytes_same : (xs ys : List ℕ) → bytes_eq xs ys ≡ true → xs ≡ ys
bytes_same xs ys h = grind (arith, bytes_eq-Decides)

are_same : (R r S s : ℕ) → R ≡ r → S ≡ s → (nat_eq R r && nat_eq S s) ≡ true
are_same R r S s e f = grind (arith, nat_tests)

is_whole : (n l : ℕ) → 2 ≤ l → n ≡ l → (nat_le 2 l && nat_eq n l) ≡ true
is_whole n l h e = grind (arith, nat_tests)

is_most : (a b : ℕ) → a ≤ b → nat_le a b ≡ true
is_most a b h = grind (arith, nat_tests)

is_same : (a b : ℕ) → a ≡ b → nat_eq a b ≡ true
is_same a b e = grind (arith, nat_tests)

-- the value of these fields
abbrev value : (kind : Kind) (body : SafetyBody) (reserve number sn cs ts cts : ℕ) (check : List ℕ) → RedundancyPdu
value kind body reserve number sn cs ts cts check = record {
  reserve = reserve;
  number = number;
  safety = record { kind = kind; sn = sn; cs = cs; ts = ts; cts = cts; body = body };
  check_bytes = check;
}

same_value : (kind : Kind) (body : SafetyBody) (a b c d e f a' b' c' d' e' f' : ℕ) (k k' : List ℕ) → a ≡ a' → b ≡ b' → c ≡ c' → d ≡ d' → e ≡ e' → f ≡ f'
    → k ≡ k' → value kind body a b c d e f k ≡ value kind body a' b' c' d' e' f' k'
same_value kind body a b c d e f a' b' c' d' e' f' k k' ea eb ec ed ee ef ek = rw (ea, eb, ec, ed, ee, ef, ek) refl

-- what the spelling of a value shows of it, whatever the ids
record IsSpelled (p : Parameters) (r : RedundancyPdu) (xs : List ℕ) : Type 0 where
  type : kind_of (little_at 2 10 xs) ≡ Some r.safety.kind
  payload : body_in (layout_of r.safety.kind) (slice_range xs 36 (code_at p xs)) ≡ Some r.safety.body
  value : pdu_with_body r.safety.kind r.safety.body (check_at p xs) xs ≡ r

parts_of : (p : Parameters) (side : Side) (r : RedundancyPdu) → AreParameters p → IsRedundancyPdu p r
    → HasParts p (redundancy_bytes p side r) (uncoded_bytes p side r.safety) (payload_of r.safety.body) (code_of p side r.safety) r.check_bytes
unfolding redundancy_bytes
parts_of p side r are is =
    let s : SafetyPdu = r.safety in
    has_parts p (length_of p r) r.reserve r.number (28 + length (payload_of s.body) + p.code_length) (type_of s.kind) (receiver_of p side) (sender_of p side)
    s.sn s.cs s.ts s.cts (payload_of s.body) (code_of p side s) r.check_bytes (length-code p (uncoded_bytes p side s) are) is.check_bytes

-- how many bytes a datagram has
pub length-redundancy_bytes : (p : Parameters) (side : Side) (r : RedundancyPdu) → AreParameters p → IsRedundancyPdu p r
    → length (redundancy_bytes p side r) ≡ length_of p r
length-redundancy_bytes p side r are is =
    let parts = parts_of p side r are is in
    let size = parts.size in
    let check = is.check_bytes in
    omega arith

is_spelled : (p : Parameters) (side : Side) (r : RedundancyPdu) → AreParameters p → IsRedundancyPdu p r → IsSpelled p r (redundancy_bytes p side r)
unfolding redundancy_bytes
is_spelled p side r are is =
    let s : SafetyPdu = r.safety in
    let xs : List ℕ = redundancy_bytes p side r in
    let parts = parts_of p side r are is in
    let n10 : little_at 2 10 xs ≡ type_of s.kind = little_number-reads_back 2 (type_of s.kind) [] (type_of-lt s.kind) in
    record {
      type = ap kind_of n10 ∙ kind_of-type_of s.kind;
      payload = ap (body_in (layout_of s.kind)) parts.payload ∙ body_in-payload_of (layout_of s.kind) s.body is.body;
      value = same_value s.kind s.body _ _ _ _ _ _ r.reserve r.number s.sn s.cs s.ts s.cts _ r.check_bytes
          (little_number-reads_back 2 r.reserve [] is.reserve) (little_number-reads_back 4 r.number [] is.number)
          (little_number-reads_back 4 s.sn [] is.sn) (little_number-reads_back 4 s.cs [] is.cs)
          (little_number-reads_back 4 s.ts [] is.ts) (little_number-reads_back 4 s.cts [] is.cts) parts.check;
    }

-- the value is what is read of its spelling
pub decode_of-redundancy_bytes : (p : Parameters) (side : Side) (r : RedundancyPdu) → AreParameters p
    → receiver_of p side < 2 ^ 32 → sender_of p side < 2 ^ 32 → IsRedundancyPdu p r
    → decode_of p side (redundancy_bytes p side r) ≡ Ok r
unfolding redundancy_bytes
decode_of-redundancy_bytes p side r are to from is =
    let s : SafetyPdu = r.safety in
    let d : ℕ = 28 + length (payload_of s.body) + p.code_length in
    let xs : List ℕ = redundancy_bytes p side r in
    let parts = parts_of p side r are is in
    let spelled = is_spelled p side r are is in
    let size : length xs ≡ length_of p r = length-redundancy_bytes p side r are is in
    let n0 : little_at 2 0 xs ≡ length_of p r = little_number-reads_back 2 (length_of p r) [] is.size in
    let n8 : little_at 2 8 xs ≡ d = little_number-reads_back 2 d [] (omega arith) in
    let n12 : little_at 4 12 xs ≡ receiver_of p side = little_number-reads_back 4 (receiver_of p side) [] to in
    let n16 : little_at 4 16 xs ≡ sender_of p side = little_number-reads_back 4 (sender_of p side) [] from in
    passed p side xs s.kind s.body (record {
      length = is_whole (little_at 2 0 xs) (length xs) (omega arith) (omega arith);
      fields = is_most (36 + p.code_length + p.check_length) (length xs) (omega arith);
      safety = is_same (little_at 2 8 xs) (check_at p xs - 8) (omega arith);
      type = spelled.type;
      payload = spelled.payload;
      code = same_bytes _ _ (ap (code_over p) parts.covered ∙ sym parts.code);
      ids = are_same (little_at 4 12 xs) (receiver_of p side) (little_at 4 16 xs) (sender_of p side) n12 n16;
    })
    ∙ ap (λ (v : RedundancyPdu). Ok v) spelled.value

-- no bytes are the spelling of two values
unique : (p : Parameters) (xs : List ℕ) (r s : RedundancyPdu) → IsSpelled p r xs → IsSpelled p s xs → r ≡ s
unique p xs r s a b =
    let kinds : r.safety.kind ≡ s.safety.kind = same_kind (sym a.type ∙ b.type) in
    let bodies : r.safety.body ≡ s.safety.body = same_body (sym a.payload
    ∙ ap (λ (k : Kind). body_in (layout_of k) (slice_range xs 36 (code_at p xs))) kinds ∙ b.payload) in
    sym a.value ∙ ap (λ (k : Kind). pdu_with_body k r.safety.body (check_at p xs) xs) kinds
    ∙ ap (λ (o : SafetyBody). pdu_with_body s.safety.kind o (check_at p xs) xs) bodies ∙ b.value
  where
    same_kind : {x y : Kind} → ◌≡◌ {A = Option Kind} (Some x) (Some y) → x ≡ y
    same_kind {x} {y} h = cc

    same_body : {x y : SafetyBody} → ◌≡◌ {A = Option SafetyBody} (Some x) (Some y) → x ≡ y
    same_body {x} {y} h = cc

-- no two values share a spelling
pub redundancy_bytes-injective : (p : Parameters) (side : Side) (r s : RedundancyPdu) → AreParameters p → IsRedundancyPdu p r → IsRedundancyPdu p s
    → redundancy_bytes p side r ≡ redundancy_bytes p side s → r ≡ s
redundancy_bytes-injective p side r s are ir is e =
    unique p (redundancy_bytes p side s) r s (subst (λ (xs : List ℕ). IsSpelled p r xs) e (is_spelled p side r are ir)) (is_spelled p side s are is)

-- ---- from the bytes to the value and back

-- what a datagram of this side is, where it is read
pub record IsRead (p : Parameters) (side : Side) (xs : List ℕ) (r : RedundancyPdu) : Type 0 where
  pub is : IsRedundancyPdu p r
  pub spelled : xs ≡ redundancy_bytes p side r
  pub code : slice_range xs (code_at p xs) (check_at p xs) ≡ code_of p side r.safety

-- thirty-six bytes are eleven numbers, one after the other
numbers : (xs b c k : List ℕ) → AreBytes xs → 36 ≤ length xs → drop 36 xs ≡ (b ++ c) ++ k
    → xs ≡ datagram (little_at 2 0 xs) (little_at 2 2 xs) (little_at 4 4 xs) (uncoded (little_at 2 8 xs) (little_at 2 10 xs) (little_at 4 12 xs)
    (little_at 4 16 xs) (little_at 4 20 xs) (little_at 4 24 xs) (little_at 4 28 xs) (little_at 4 32 xs) b ++ c) k
numbers xs b c k are long rest =
    let here : (n at : ℕ) → List ℕ → List ℕ = λ n at l. little_bytes n (little_at n at xs) ++ l in
    two_at 0 xs are (omega arith) ∙ ap (here 2 0) (two_at 2 xs are (omega arith) ∙ ap (here 2 2) (four_at 4 xs are (omega arith)
    ∙ ap (here 4 4) (two_at 8 xs are (omega arith) ∙ ap (here 2 8) (two_at 10 xs are (omega arith) ∙ ap (here 2 10) (four_at 12 xs are (omega arith)
    ∙ ap (here 4 12) (four_at 16 xs are (omega arith) ∙ ap (here 4 16) (four_at 20 xs are (omega arith) ∙ ap (here 4 20) (four_at 24 xs are (omega arith)
    ∙ ap (here 4 24) (four_at 28 xs are (omega arith) ∙ ap (here 4 28) (four_at 32 xs are (omega arith) ∙ ap (here 4 32) rest))))))))))

same_uncoded : (d e f g h i j k d' e' f' g' : ℕ) (b b' : List ℕ) → d ≡ d' → e ≡ e' → f ≡ f' → g ≡ g' → b ≡ b'
    → uncoded d e f g h i j k b ≡ uncoded d' e' f' g' h i j k b'
same_uncoded d e f g h i j k d' e' f' g' b b' ed ee ef eg eb =
    ap (λ x. uncoded x e f g h i j k b) ed ∙ ap (λ x. uncoded d' x f g h i j k b) ee ∙ ap (λ x. uncoded d' e' x g h i j k b) ef
    ∙ ap (λ x. uncoded d' e' f' x h i j k b) eg ∙ ap (λ x. uncoded d' e' f' g' h i j k x) eb

spelled_value : (p : Parameters) (side : Side) (xs : List ℕ) (kind : Kind) (body : SafetyBody) → AreParameters p → AreBytes xs
    → IsPassed p side xs kind body → IsRead p side xs (pdu_with_body kind body (check_at p xs) xs)
unfolding redundancy_bytes
spelled_value p side xs kind body valid are is =
    let long : 36 + p.code_length + p.check_length ≤ length xs = leb-true (36 + p.code_length + p.check_length) (length xs) is.fields in
    let at : ℕ = code_at p xs in
    let end : ℕ = check_at p xs in
    let b : List ℕ = slice_range xs 36 at in
    let c : List ℕ = slice_range xs at end in
    let k : List ℕ = drop end xs in
    let lb : length b ≡ at - 36 = length-slice_range xs 36 at (omega arith) (omega arith) in
    let lc : length c ≡ p.code_length = length-slice_range xs at end (omega arith) (omega arith) ∙ omega arith in
    let lk : length k ≡ p.check_length = length-drop end xs ∙ omega arith in
    let rest : drop 36 xs ≡ (b ++ c) ++ k = three_parts xs 36 at end (omega arith) (omega arith) in
    let n : ℕ → ℕ → ℕ = λ w i. little_at w i xs in
    let u : List ℕ = uncoded (n 2 8) (n 2 10) (n 4 12) (n 4 16) (n 4 20) (n 4 24) (n 4 28) (n 4 32) b in
    let whole : xs ≡ datagram (n 2 0) (n 2 2) (n 4 4) (u ++ c) k = numbers xs b c k are (omega arith) rest in
    let parts = has_parts p (n 2 0) (n 2 2) (n 4 4) (n 2 8) (n 2 10) (n 4 12) (n 4 16) (n 4 20) (n 4 24) (n 4 28) (n 4 32) b c k lc lk in
    let Covers : List ℕ → Type 0 = λ ys. slice_range ys 8 (code_at p ys) ≡ u in
    let covered : slice_range xs 8 at ≡ u = subst Covers (sym whole) parts.covered in
    let payload : IsBodyOf (layout_of kind) b body = body_in-Some (layout_of kind) b body (AreBytes-take (at - 36) (drop 36 xs) (AreBytes-drop 36 xs are)) is.payload in
    let same : length b ≡ length (payload_of body) = ap length payload.spelled in
    let size : n 2 0 ≡ length xs = eqb-true (n 2 0) (length xs) (and_parts (nat_le 2 (length xs)) (nat_eq (n 2 0) (length xs)) is.length).1 in
    let part : n 2 8 ≡ end - 8 = eqb-true (n 2 8) (end - 8) is.safety in
    let ids = and_parts (nat_eq (n 4 12) (receiver_of p side)) (nat_eq (n 4 16) (sender_of p side)) is.ids in
    let r : RedundancyPdu = pdu_with_body kind body end xs in
    let v : List ℕ = uncoded_bytes p side r.safety in
    let uv : u ≡ v = same_uncoded (n 2 8) (n 2 10) (n 4 12) (n 4 16) (n 4 20) (n 4 24) (n 4 28) (n 4 32) (28 + length (payload_of body) + p.code_length)
    (type_of kind) (receiver_of p side) (sender_of p side) b (payload_of body) (omega arith) (sym (type_of-kind_of (n 2 10) kind is.type))
    (eqb-true _ _ ids.0) (eqb-true _ _ ids.1) payload.spelled in
    let cv : c ≡ code_over p v = sym (bytes_same (code_over p (slice_range xs 8 at)) c is.code) ∙ ap (code_over p) (covered ∙ uv) in
    let total : n 2 0 ≡ length_of p r = omega arith in
    record {
      is = record {
        reserve = little_at-lt 2 2 xs are;
        number = little_at-lt 4 4 xs are;
        sn = little_at-lt 4 20 xs are;
        cs = little_at-lt 4 24 xs are;
        ts = little_at-lt 4 28 xs are;
        cts = little_at-lt 4 32 xs are;
        body = payload.has;
        size = let low = little_at-lt 2 0 xs are in omega arith;
        check_bytes = lk;
      };
      spelled = whole ∙ ap (λ (m : ℕ). datagram m (n 2 2) (n 4 4) (u ++ c) k) total ∙ ap (λ (l : List ℕ). datagram (length_of p r) (n 2 2) (n 4 4) (l ++ c) k) uv
          ∙ ap (λ (l : List ℕ). datagram (length_of p r) (n 2 2) (n 4 4) (v ++ l) k) cv;
      code = cv;
    }

-- what is read is spelled so
pub decode_of-Ok : (p : Parameters) (side : Side) (xs : List ℕ) (r : RedundancyPdu) → AreParameters p → AreBytes xs
    → decode_of p side xs ≡ Ok r → IsRead p side xs r
decode_of-Ok p side xs r valid are h =
    let f = found p side xs r h in
    subst (λ (x : RedundancyPdu). IsRead p side xs x) f.value (spelled_value p side xs f.kind f.body valid are f.tests)

-- ---- the clauses of decode

abbrev Answers : Parameters → Side → List ℕ → Result Pdu Fault → Type 0
Answers p side xs a = MatchResult a (λ d. decode_of p side xs ≡ Ok (value_of d)) (λ f. decode_of p side xs ≡ Err f)

pub spelled_by : (p : Parameters) (side : Side) (xs : List ℕ) (a : Result Pdu Fault) → AreParameters p → AreBytes xs → Answers p side xs a
    → IfOk a (λ d. IsRead p side xs (value_of d))
spelled_by p side xs (Ok d) valid are h = decode_of-Ok p side xs (value_of d) valid are h
spelled_by p side xs (Err f) valid are h = tt

pub if_ok : (a : Result Pdu Fault) (P Q : Pdu → Type 0) → ((d : Pdu) → P d → Q d) → IfOk a P → IfOk a Q
if_ok (Ok d) P Q f h = f d h
if_ok (Err e) P Q f h = tt

pub if_ok_both : (a : Result Pdu Fault) (P Q R : Pdu → Type 0) → ((d : Pdu) → P d → Q d → R d) → IfOk a P → IfOk a Q → IfOk a R
if_ok_both (Ok d) P Q R f h k = f d h k
if_ok_both (Err e) P Q R f h k = tt

pub read_back_by : (p : Parameters) (side : Side) (xs : List ℕ) (a : Result Pdu Fault) (r : RedundancyPdu) → AreParameters p
    → receiver_of p side < 2 ^ 32 → sender_of p side < 2 ^ 32 → IsRedundancyPdu p r → xs ≡ redundancy_bytes p side r
    → Answers p side xs a → IsOkAnd a (λ d. value_of d ≡ r)
read_back_by p side xs (Ok d) r valid to from is e h = inside (sym h ∙ ap (decode_of p side) e ∙ decode_of-redundancy_bytes p side r valid to from is)
read_back_by p side xs (Err f) r valid to from is e h =
    let clash : ◌≡◌ {A = Answer} (Err f) (Ok r) = sym h ∙ ap (decode_of p side) e ∙ decode_of-redundancy_bytes p side r valid to from is in absurd (cc)
