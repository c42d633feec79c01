-- How many PDUs of a kind are made, and how many things of a kind are owed.
use Rattle.std.proofs.Common.{◌≡◌, ℕ, zero, suc, ◌+◌, ◌≤◌, Bool, true, false, List, [], ◌∷◌, ◌++◌, Some, slice_get, take, refl, arith}
use Rattle.rasta_check.proofs.Prelude.{Kind, RetransmissionRequest, RetransmissionResponse, is_kind, Owed, OweRetransmissionResponse, OweRetransmissionRequest, Made}

-- one more where the test holds
abbrev pub tally : Bool → ℕ → ℕ
tally true n = suc n
tally false n = n

-- how many of these PDUs have such a type
abbrev pub number : (Kind → Bool) → List Made → ℕ
number f [] = 0
number f (m ∷ ms) = tally (f m.pdu.kind) (number f ms)

-- how many of them are retransmission requests, and how many are responses
abbrev pub requests_in : List Made → ℕ
requests_in ms = number (is_kind RetransmissionRequest) ms

abbrev pub answers_in : List Made → ℕ
answers_in ms = number (is_kind RetransmissionResponse) ms

abbrev pub IsRequest : Made → Type 0
IsRequest m = is_kind RetransmissionRequest m.pdu.kind ≡ true

abbrev pub IsAnswer : Made → Type 0
IsAnswer m = is_kind RetransmissionResponse m.pdu.kind ≡ true

-- how many such things are owed
abbrev pub owes : (Owed → Bool) → List Owed → ℕ
owes f [] = 0
owes f (o ∷ os) = tally (f o) (owes f os)

-- a retransmission response is owed
abbrev pub is_answer_owed : Owed → Bool
is_answer_owed OweRetransmissionResponse = true
is_answer_owed _ = false

-- a retransmission request is owed
abbrev pub is_request_owed : Owed → Bool
is_request_owed OweRetransmissionRequest = true
is_request_owed _ = false

-- ---- counts as lists grow

pub number_push : (f : Kind → Bool) (ms : List Made) (m : Made) → number f (ms ++ m ∷ []) ≡ tally (f m.pdu.kind) (number f ms)
number_push f [] m = refl
number_push f (x ∷ ms) m = grind (arith, number_push f ms m)

pub number_take_more : (f : Kind → Bool) (ms : List Made) (i j : ℕ) → i ≤ j → number f (take i ms) ≤ number f (take j ms)
number_take_more f ms zero j h = omega arith
number_take_more f ms (suc i) zero h = absurd (omega arith)
number_take_more f [] (suc i) (suc j) h = omega arith
number_take_more f (m ∷ ms) (suc i) (suc j) h = grind (arith, number_take_more f ms i j)

pub number_take_all : (f : Kind → Bool) (ms : List Made) (i : ℕ) → number f (take i ms) ≤ number f ms
number_take_all f ms zero = omega arith
number_take_all f [] (suc i) = omega arith
number_take_all f (m ∷ ms) (suc i) = grind (arith, number_take_all f ms i)

-- after a PDU of the type there is one more than before it
pub number_take_at : (f : Kind → Bool) (ms : List Made) (p : ℕ) (m : Made) → slice_get ms p ≡ Some m → f m.pdu.kind ≡ true → number f (take (suc p) ms) ≡ suc (number f (take p ms))
number_take_at f [] p m e h = absurd (cc)
number_take_at f (x ∷ ms) zero m e h = grind arith
number_take_at f (x ∷ ms) (suc p) m e h = grind (arith, number_take_at f ms p m e h)

-- ---- what is owed

pub owes-append : (f : Owed → Bool) (os ps : List Owed) → owes f (os ++ ps) ≡ owes f os + owes f ps
owes-append f [] ps = omega arith
owes-append f (o ∷ os) ps = grind (arith, owes-append f os ps)
