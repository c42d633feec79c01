-- Kinds and bodies, read and spelled.
use Rattle.std.proofs.Common.{◌≡◌, ℕ, ◌^◌, ◌<◌, List, [], ◌∷◌, ◌++◌, length, take, drop, Bool, true, false, cond, nat_eq, ◌&&◌, Option, Some, None, subst, refl, ap, sym, ◌∙◌, arith, length-drop}
use Rattle.std.proofs.lemmas.List.{take-append-drop, drop_all, nil_from_length}
use Rattle.std.proofs.lemmas.Bool.{eqb-true, and_parts}
use Rattle.std.proofs.lemmas.Bool.Decides.{nat_tests}
use Rattle.byteorder.specs.Endian.{little_bytes}
use Rattle.byteorder.specs.Numbers.{little_number-reads_back}
use Rattle.rasta_pdu.specs.declared.kind.Kind.{Kind}
use Rattle.rasta_pdu.specs.declared.kind.Kind.TheVariants.{ConnectionRequest, ConnectionResponse, RetransmissionRequest, RetransmissionResponse, DisconnectionRequest, Heartbeat, Data, RetransmittedData}
use Rattle.rasta_pdu.specs.Pdu.{SafetyBody, Opening, Bye, Messages, Empty, Layout, OpeningFields, ByeFields, MessageList, Nothing, HasLayout, payload_of, layout_of, body_in, body_at, little_at, is_version, type_of, kind_of}
use Rattle.rasta_pdu.specs.Lengths.{has_payload_length}
use Rattle.rasta_pdu.specs.Messages.{are_messages}
use Rattle.rasta_pdu.specs.Messages.{AreBytes}
use Rattle.rasta_pdu.proofs.Numbers.{two_at, little_at-lt}

-- a type number is that of its kind alone
pub kind_of-type_of : (kind : Kind) → kind_of (type_of kind) ≡ Some kind
kind_of-type_of ConnectionRequest = refl
kind_of-type_of ConnectionResponse = refl
kind_of-type_of RetransmissionRequest = refl
kind_of-type_of RetransmissionResponse = refl
kind_of-type_of DisconnectionRequest = refl
kind_of-type_of Heartbeat = refl
kind_of-type_of Data = refl
kind_of-type_of RetransmittedData = refl

-- a type number fits its field
pub type_of-lt : (kind : Kind) → type_of kind < 2 ^ 16
type_of-lt ConnectionRequest = omega arith
type_of-lt ConnectionResponse = omega arith
type_of-lt RetransmissionRequest = omega arith
type_of-lt RetransmissionResponse = omega arith
type_of-lt DisconnectionRequest = omega arith
type_of-lt Heartbeat = omega arith
type_of-lt Data = omega arith
type_of-lt RetransmittedData = omega arith

-- a number that was compared, or a later one
among : (n t : ℕ) (k kind : Kind) (rest : Option Kind) → type_of k ≡ t → (rest ≡ Some kind → type_of kind ≡ n)
    → cond (nat_eq n t) (Some k) rest ≡ Some kind → type_of kind ≡ n
among n t k kind rest e later h = cases (nat_eq n t) refl h
  where
    cases : (b : Bool) → nat_eq n t ≡ b → cond b (Some k) rest ≡ Some kind → type_of kind ≡ n
    cases true d g = let same : k ≡ kind = cc in ap type_of (sym same) ∙ e ∙ sym (eqb-true n t d)
    cases false d g = later g

no_kind : (n : ℕ) (kind : Kind) → ◌≡◌ {A = Option Kind} None (Some kind) → type_of kind ≡ n
no_kind n kind h = absurd (cc)

-- the kind of a type number has that number
pub type_of-kind_of : (n : ℕ) (kind : Kind) → kind_of n ≡ Some kind → type_of kind ≡ n
type_of-kind_of n kind =
    among n 6200 ConnectionRequest kind _ refl (among n 6201 ConnectionResponse kind _ refl
    (among n 6212 RetransmissionRequest kind _ refl (among n 6213 RetransmissionResponse kind _ refl
    (among n 6216 DisconnectionRequest kind _ refl (among n 6220 Heartbeat kind _ refl
    (among n 6240 Data kind _ refl (among n 6241 RetransmittedData kind _ refl (no_kind n kind))))))))

-- what a payload spells
pub record IsBodyOf (layout : Layout) (payload : List ℕ) (body : SafetyBody) : Type 0 where
  pub has : HasLayout layout body
  pub spelled : payload ≡ payload_of body

some_if : (b : Bool) (x y : SafetyBody) → cond b (Some x) None ≡ Some y → (b ≡ true) × (x ≡ y)
some_if true x y h = (refl, cc)
some_if false x y h = absurd (cc)

same_if : (b : Bool) (x y : SafetyBody) → cond b (Some x) None ≡ Some y → x ≡ y
same_if b x y h = (some_if b x y h).1

opening_length : (xs : List ℕ) (body : SafetyBody) → body_in OpeningFields xs ≡ Some body → nat_eq (length xs) 14 ≡ true
opening_length xs body h =
    let read = some_if (nat_eq (length xs) 14 && is_version (take 4 xs)) (body_at OpeningFields xs) body h in
    (and_parts (nat_eq (length xs) 14) (is_version (take 4 xs)) read.0).0

-- two numbers fill four bytes
two_numbers : (xs : List ℕ) → AreBytes xs → length xs ≡ 4 → xs ≡ little_bytes 2 (little_at 2 0 xs) ++ little_bytes 2 (little_at 2 2 xs)
two_numbers xs are size =
    two_at 0 xs are (omega arith)
    ∙ ap (λ (l : List ℕ). little_bytes 2 (little_at 2 0 xs) ++ l) (two_at 2 xs are (omega arith)
    ∙ ap (λ (l : List ℕ). little_bytes 2 (little_at 2 2 xs) ++ l) (drop_all 4 xs (omega arith)))

-- a version, N_sendmax and eight reserved bytes fill fourteen
opening_spelled : (xs : List ℕ) → AreBytes xs → length xs ≡ 14 → xs ≡ payload_of (body_at OpeningFields xs)
opening_spelled xs are size = sym (take-append-drop 4 xs) ∙ ap (λ (l : List ℕ). take 4 xs ++ l) (two_at 4 xs are (omega arith))

-- a payload whose length its kind can have is the spelling of the body that stands there
pub payload_of-body_at : (kind : Kind) (xs : List ℕ) → AreBytes xs → has_payload_length kind (length xs) ≡ true → payload_of (body_at (layout_of kind) xs) ≡ xs
payload_of-body_at ConnectionRequest xs are h = sym (opening_spelled xs are (eqb-true (length xs) 14 h))
payload_of-body_at ConnectionResponse xs are h = sym (opening_spelled xs are (eqb-true (length xs) 14 h))
payload_of-body_at RetransmissionRequest xs are h = sym (nil_from_length xs (eqb-true (length xs) 0 h))
payload_of-body_at RetransmissionResponse xs are h = sym (nil_from_length xs (eqb-true (length xs) 0 h))
payload_of-body_at DisconnectionRequest xs are h = sym (two_numbers xs are (eqb-true (length xs) 4 h))
payload_of-body_at Heartbeat xs are h = sym (nil_from_length xs (eqb-true (length xs) 0 h))
payload_of-body_at Data xs are h = refl
payload_of-body_at RetransmittedData xs are h = refl

-- a payload that is read has its body where bodies stand
pub body_at-body_in : (layout : Layout) (xs : List ℕ) (body : SafetyBody) → body_in layout xs ≡ Some body → body_at layout xs ≡ body
body_at-body_in OpeningFields xs body h = same_if _ (body_at OpeningFields xs) body h
body_at-body_in ByeFields xs body h = same_if _ (body_at ByeFields xs) body h
body_at-body_in MessageList xs body h = same_if _ (body_at MessageList xs) body h
body_at-body_in Nothing xs body h = same_if _ (body_at Nothing xs) body h

-- it has a length of its kind
pub has_payload_length-body_in : (kind : Kind) (xs : List ℕ) (body : SafetyBody) → body_in (layout_of kind) xs ≡ Some body
    → has_payload_length kind (length xs) ≡ true
has_payload_length-body_in ConnectionRequest xs body h = opening_length xs body h
has_payload_length-body_in ConnectionResponse xs body h = opening_length xs body h
has_payload_length-body_in RetransmissionRequest xs body h = (some_if (nat_eq (length xs) 0) Empty body h).0
has_payload_length-body_in RetransmissionResponse xs body h = (some_if (nat_eq (length xs) 0) Empty body h).0
has_payload_length-body_in DisconnectionRequest xs body h = (some_if (nat_eq (length xs) 4) (body_at ByeFields xs) body h).0
has_payload_length-body_in Heartbeat xs body h = (some_if (nat_eq (length xs) 0) Empty body h).0
has_payload_length-body_in Data xs body h = refl
has_payload_length-body_in RetransmittedData xs body h = refl

-- a payload that is read is the spelling of its body
pub body_in-Some : (layout : Layout) (xs : List ℕ) (body : SafetyBody) → AreBytes xs → body_in layout xs ≡ Some body → IsBodyOf layout xs body
body_in-Some OpeningFields xs body are h =
    let opening : SafetyBody = Opening (take 4 xs) (little_at 2 4 xs) (drop 6 xs) in
    let read = some_if _ opening body h in
    let tests = and_parts (nat_eq (length xs) 14) (is_version (take 4 xs)) read.0 in
    let size : length xs ≡ 14 = eqb-true (length xs) 14 tests.0 in
    let left : length (drop 6 xs) ≡ 8 = rw length-drop (omega arith) in
    let P : SafetyBody → Type 0 = IsBodyOf OpeningFields xs in
    subst P read.1 (record {
      has = (tests.1, little_at-lt 2 4 xs are, left);
      spelled = opening_spelled xs are size;
    })
body_in-Some ByeFields xs body are h =
    let bye : SafetyBody = Bye (little_at 2 0 xs) (little_at 2 2 xs) in
    let read = some_if _ bye body h in
    let P : SafetyBody → Type 0 = IsBodyOf ByeFields xs in
    subst P read.1 (record {
      has = (little_at-lt 2 0 xs are, little_at-lt 2 2 xs are);
      spelled = two_numbers xs are (eqb-true (length xs) 4 read.0);
    })
body_in-Some MessageList xs body are h =
    let read = some_if (are_messages xs) (Messages xs) body h in
    let P : SafetyBody → Type 0 = IsBodyOf MessageList xs in
    subst P read.1 (record { has = read.0; spelled = refl })
body_in-Some Nothing xs body are h =
    let read = some_if _ Empty body h in
    let P : SafetyBody → Type 0 = IsBodyOf Nothing xs in
    subst P read.1 (record { has = tt; spelled = nil_from_length xs (eqb-true (length xs) 0 read.0) })

if_true : (b : Bool) (x : SafetyBody) → b ≡ true → cond b (Some x) None ≡ Some x
if_true b x h = ap (λ (t : Bool). cond t (Some x) None) h

-- a version, N_sendmax and reserved bytes
abbrev opening_bytes : List ℕ → ℕ → List ℕ → List ℕ
opening_bytes version sendmax reserved = version ++ (little_bytes 2 sendmax ++ reserved)

opening_read : (version : List ℕ) (sendmax : ℕ) (reserved : List ℕ) → is_version version ≡ true → length version ≡ 4 → sendmax < 2 ^ 16 → length reserved ≡ 8
    → body_in OpeningFields (opening_bytes version sendmax reserved) ≡ Some (Opening version sendmax reserved)
opening_read (a ∷ b ∷ c ∷ d ∷ []) sendmax reserved digits four max eight =
    let number = little_number-reads_back 2 sendmax reserved max in
    let size : nat_eq (length (opening_bytes (a ∷ b ∷ c ∷ d ∷ []) sendmax reserved)) 14 ≡ true = grind (arith, nat_tests) in
    if_true (nat_eq (length (opening_bytes (a ∷ b ∷ c ∷ d ∷ []) sendmax reserved)) 14 && is_version (a ∷ b ∷ c ∷ d ∷ [])) _ (rw (size, digits) refl)
    ∙ ap (λ (n : ℕ). Some (Opening (a ∷ b ∷ c ∷ d ∷ []) n reserved)) number
opening_read _ sendmax reserved digits four max eight = absurd (omega arith)

-- the spelling of a body is read as that body
pub body_in-payload_of : (layout : Layout) (body : SafetyBody) → HasLayout layout body → body_in layout (payload_of body) ≡ Some body
body_in-payload_of OpeningFields (Opening version sendmax reserved) h =
    let tests = and_parts (nat_eq (length version) 4) _ h.0 in
    opening_read version sendmax reserved h.0 (eqb-true (length version) 4 tests.0) h.1 h.2
body_in-payload_of ByeFields (Bye detail reason) h =
    let first = little_number-reads_back 2 detail (little_bytes 2 reason) h.0 in
    let second = little_number-reads_back 2 reason [] h.1 in
    ap (λ (n : ℕ). Some (Bye n (little_at 2 2 (little_bytes 2 detail ++ little_bytes 2 reason)))) first ∙ ap (λ (n : ℕ). Some (Bye detail n)) second
body_in-payload_of MessageList (Messages payload) h = if_true (are_messages payload) (Messages payload) h
body_in-payload_of Nothing Empty h = refl
body_in-payload_of OpeningFields (Bye detail reason) h = absurd h
body_in-payload_of OpeningFields (Messages payload) h = absurd h
body_in-payload_of OpeningFields Empty h = absurd h
body_in-payload_of ByeFields (Opening version sendmax reserved) h = absurd h
body_in-payload_of ByeFields (Messages payload) h = absurd h
body_in-payload_of ByeFields Empty h = absurd h
body_in-payload_of MessageList (Opening version sendmax reserved) h = absurd h
body_in-payload_of MessageList (Bye detail reason) h = absurd h
body_in-payload_of MessageList Empty h = absurd h
body_in-payload_of Nothing (Opening version sendmax reserved) h = absurd h
body_in-payload_of Nothing (Bye detail reason) h = absurd h
body_in-payload_of Nothing (Messages payload) h = absurd h
