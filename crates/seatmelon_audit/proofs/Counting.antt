-- How many messages an end sent.
use Rattle.std.proofs.Common.{◌≡◌, ◌∙◌, ℕ, zero, suc, ◌+◌, ◌*◌, ◌<◌, ◌≤◌, ◌^◌, List, [], ◌∷◌, ◌++◌, length, length-append, cond, drop, take, slice_get, flat_map, Bool, true, false, Option, None, Some, ap, refl, sym, subst, zero-add, arith}
use Rattle.std.proofs.lemmas.List.{take_all}
use Rattle.std.proofs.lemmas.List.Elements.{filter_map-append}
use Rattle.std.specs.List.{cons_option}
use Rattle.std.specs.Option.{option_or}
use Rattle.std.specs.Prelude.{filter_map}
use Rattle.rasta_pcap.specs.declared.fault.Side.{Side}
use Rattle.rasta_udp.specs.Frame.{Packet}
use Rattle.rasta_pdu.specs.declared.kind.Kind.TheVariants.{Data}
use Rattle.rasta_pdu.specs.Messages.{after_message, first_message, has_message, messages_of, messages_up_to}
use Rattle.rasta_pdu.specs.Params.{Parameters}
use Rattle.rasta_pdu.specs.Pdu.{Bye, Empty, Messages, Opening, SafetyBody, is_kind, messages_in, payload_of}
use Rattle.rasta_check.specs.Capture.SentLists.{FirstCopy, Sent}
use Rattle.rasta_check.specs.Capture.Crossing.{Crossing, IsCrossing}
use Rattle.rasta_check.specs.Model.Taken.{data_copies}
use Rattle.rasta_check.proofs.Lists.{take_one_more}
use Rattle.rasta_check.proofs.Verdict.ListSteps.{left_at}
use Rattle.seatmelon_middle.specs.Course.{disconnection_at, disconnection_in, first_disconnection}
use Rattle.seatmelon_middle.specs.declared.course.Disconnection.{Disconnection}
use Rattle.seatmelon_audit.specs.Messages as sent
use Rattle.seatmelon_audit.specs.Messages.{added_by, messages_sent}

-- ---- copy by copy

by_kind : (b : Bool) (x : FirstCopy) (rest : List FirstCopy)
    → length (flat_map sent.messages_of (cond b (x ∷ rest) rest)) ≡ cond b (length (sent.messages_of x)) 0 + length (flat_map sent.messages_of rest)
by_kind true x rest = length-append (sent.messages_of x) (flat_map sent.messages_of rest)
by_kind false x rest = sym (zero-add _)

pub sent_one : (x : FirstCopy) (xs : List FirstCopy) → length (messages_sent (x ∷ xs)) ≡ added_by x.pdu + length (messages_sent xs)
sent_one x xs = by_kind (is_kind Data x.pdu.safety.kind) x (data_copies xs)

pub sent_left : (xs : List FirstCopy) (i : ℕ) (x : FirstCopy) → slice_get xs i ≡ Some x
    → length (messages_sent (drop i xs)) ≡ added_by x.pdu + length (messages_sent (drop (i + 1) xs))
sent_left xs i x g = ap (λ l. length (messages_sent l)) (left_at xs i x g) ∙ sent_one x (drop (i + 1) xs)

pub none_left : (i : ℕ) (xs : List FirstCopy) → length xs ≤ i → length (messages_sent (drop i xs)) ≡ 0
none_left i [] h = by i
  where
    by : (n : ℕ) → length (messages_sent (drop n [])) ≡ 0
    by zero = refl
    by (suc n) = refl
none_left zero (x ∷ xs) h = absurd (omega (arith, h))
none_left (suc i) (x ∷ xs) h = none_left i xs (omega (arith, h))

-- ---- there are few enough

one_more : (b : Bool) (n : ℕ) (m : List ℕ) (rest : List (List ℕ)) → length rest ≤ n → length (cond b (m ∷ rest) []) ≤ suc n
one_more true n m rest h = omega (arith, h)
one_more false n m rest h = omega arith

few_up_to : (n : ℕ) (bytes : List ℕ) → length (messages_up_to n bytes) ≤ n
few_up_to zero bytes = omega arith
few_up_to (suc n) bytes = one_more (has_message bytes) n (first_message bytes) (messages_up_to n (after_message bytes)) (few_up_to n (after_message bytes))

few_of : (payload : List ℕ) → length (messages_of payload) ≤ length payload
unfolding messages_of
few_of payload = few_up_to (length payload) payload

few_in : (b : SafetyBody) → length (messages_in b) ≤ length (payload_of b)
few_in (Opening version sendmax reserved) = omega arith
few_in (Bye detail reason) = omega arith
few_in (Messages payload) = few_of payload
few_in Empty = omega arith

-- each first copy has so few
abbrev AreFew : List FirstCopy → Type 0
AreFew sent = (i : ℕ) (copy : FirstCopy) → slice_get sent i ≡ Some copy → length (messages_in copy.pdu.safety.body) ≤ 65536

added_few : (b : Bool) (n : ℕ) → n ≤ 65536 → cond b n 0 ≤ 65536
added_few true n h = h
added_few false n h = omega arith

few_sent : (sent : List FirstCopy) → AreFew sent → length (messages_sent sent) ≤ 65536 * length sent
few_sent [] few = omega arith
few_sent (x ∷ xs) few =
    let one = sent_one x xs in
    let first = added_few (is_kind Data x.pdu.safety.kind) (length (messages_in x.pdu.safety.body)) (few 0 x refl) in
    let rest = few_sent xs (λ i copy e. few (suc i) copy e) in
    omega (arith, one, first, rest)

copies_few : (p : Parameters) (packets : List Packet) (side : Side) (copies : List FirstCopy) → Sent p packets side copies → AreFew copies
copies_few p packets side copies h i copy e =
    let size = (h.list.carried i copy e).spelled.fits.size in
    let few = few_in copy.pdu.safety.body in
    omega (arith, size, few)

few_by : (p : Parameters) (packets : List Packet) (side : Side) (copies : List FirstCopy) → Sent p packets side copies → length copies ≤ 1000000
    → length (messages_sent copies) < 2 ^ 64
few_by p packets side copies h most =
    let few = few_sent copies (copies_few p packets side copies h) in
    omega (arith, few, most)

pub few_client : (k : Crossing) (copies : List FirstCopy) → IsCrossing k → copies ≡ k.client → length (messages_sent copies) < 2 ^ 64
few_client k copies h e = subst (λ l. length (messages_sent l) < 2 ^ 64) (sym e) (few_by k.params k.packets _ k.client h.sent.client_sent h.sent.few_client)

pub few_server : (k : Crossing) (copies : List FirstCopy) → IsCrossing k → copies ≡ k.server → length (messages_sent copies) < 2 ^ 64
few_server k copies h e = subst (λ l. length (messages_sent l) < 2 ^ 64) (sym e) (few_by k.params k.packets _ k.server h.sent.server_sent h.sent.few_server)

-- ---- the first disconnection request

get_with : (xs : List Disconnection) (o : Option Disconnection) → slice_get (xs ++ cons_option o []) 0 ≡ option_or (slice_get xs 0) o
get_with [] None = refl
get_with [] (Some d) = refl
get_with (x ∷ xs) o = refl

pub first_more : (side : Side) (copies : List FirstCopy) (i : ℕ) (c : FirstCopy) → slice_get copies i ≡ Some c
    → first_disconnection side (take (i + 1) copies) ≡ option_or (first_disconnection side (take i copies)) (disconnection_at side c.place c.pdu)
first_more side copies i c at =
    ap (first_disconnection side) (sym (take_one_more i copies c at))
    ∙ ap (λ l. slice_get l 0) (filter_map-append (disconnection_in side) (take i copies) (c ∷ []))
    ∙ get_with (filter_map (disconnection_in side) (take i copies)) (disconnection_in side c)

pub first_all : (side : Side) (copies : List FirstCopy) (i : ℕ) → length copies ≤ i → first_disconnection side (take i copies) ≡ first_disconnection side copies
first_all side copies i past = ap (first_disconnection side) (take_all i copies past)
