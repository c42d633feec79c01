-- The messages that are told, and those that a report lists.
use Rattle.std.proofs.Common.{◌≡◌, ◌∙◌, ℕ, zero, suc, ◌+◌, List, [], ◌∷◌, ◌++◌, length, map, take, drop, filter_map, flat_map, slice_get, Some, is_some, nat_lt, ap, refl, sym, arith, append_assoc, take-append-drop}
use lib.Seq.{take-append_seam}
use Rattle.std.proofs.lemmas.Bool.Decides.{nat_tests}
use Rattle.std.proofs.lemmas.List.{append-nil, length-map, map-append}
use Rattle.rasta_check.proofs.Lists.{all_push, map_push}
use Rattle.rasta_check.proofs.Verdict.ListSteps.{left_at}
use Rattle.rasta_pcap.specs.declared.fault.Side.{Side}
use Rattle.rasta_pdu.specs.Params.{Parameters}
use Rattle.rasta_pdu.specs.Pdu.{SafetyPdu, messages_in}
use Rattle.rasta_check.specs.Capture.SentLists.{FirstCopy}
use Rattle.rasta_check.specs.Model.Taken.{all_made, data_copies, pdus_of, surely_taken, units_from, units_taken}
use Rattle.rasta_check.specs.Verdict.Listed.{ListedMessage, TakenMessage, listed, messages_of_unit, messages_taken, numbered_from}
use Rattle.seatmelon_account.specs.Messages.{AreFirst, Placed, ProvedBy, listed_placed, messages_of_copy, messages_sent, placed_at, placed_of, proof_in, taken_of}
use Rattle.seatmelon_account.specs.declared.messages.Message.{Message}

-- ---- what is listed are the first of the messages that were sent

abbrev placed_taken : TakenMessage → Placed
placed_taken t = record { data_place = t.data_place; message = t.message }

placed_unit : (place proof : ℕ) (messages : List (List ℕ))
    → map placed_taken (messages_of_unit (record { messages = messages; data_place = place; proof_place = proof })) ≡ map (placed_at place) messages
placed_unit place proof [] = refl
placed_unit place proof (m ∷ ms) = ap (λ l. placed_at place m ∷ l) (placed_unit place proof ms)

placed_units : (made : List SafetyPdu) (peer : List FirstCopy) (unit : ℕ) (copies : List FirstCopy)
    → map placed_taken (messages_taken (units_from made peer unit copies)) ≡ flat_map messages_of_copy copies
placed_units made peer unit [] = refl
placed_units made peer unit (c ∷ copies) =
    map-append placed_taken (messages_of_unit _) (messages_taken (units_from made peer (suc unit) copies))
    ∙ ap (λ l. l ++ map placed_taken (messages_taken (units_from made peer (suc unit) copies))) (placed_unit c.place _ (messages_in c.pdu.safety.body))
    ∙ ap (λ l. messages_of_copy c ++ l) (placed_units made peer (suc unit) copies)

placed_numbered : (n : ℕ) (taken : List TakenMessage) → map listed_placed (numbered_from n taken) ≡ map placed_taken taken
placed_numbered n [] = refl
placed_numbered n (t ∷ taken) = ap (λ l. placed_taken t ∷ l) (placed_numbered (suc n) taken)

numbers : (n : ℕ) (taken : List TakenMessage) (i : ℕ) (l : ListedMessage) → slice_get (numbered_from n taken) i ≡ Some l → l.number ≡ n + i
numbers n [] i l e = absurd (cc)
numbers n (t ∷ taken) zero l e = (let h : n ≡ l.number = cc in omega arith)
numbers n (t ∷ taken) (suc i) l e = numbers (suc n) taken i l e ∙ omega arith

flat_map-append : (xs ys : List FirstCopy) → flat_map messages_of_copy (xs ++ ys) ≡ flat_map messages_of_copy xs ++ flat_map messages_of_copy ys
flat_map-append [] ys = refl
flat_map-append (x ∷ xs) ys = ap (λ l. messages_of_copy x ++ l) (flat_map-append xs ys) ∙ sym (append_assoc (messages_of_copy x) (flat_map messages_of_copy xs) (flat_map messages_of_copy ys))

front : (t : ℕ) (copies : List FirstCopy) → flat_map messages_of_copy (take t copies) ≡ take (length (flat_map messages_of_copy (take t copies))) (flat_map messages_of_copy copies)
front t copies =
    let whole = ap (flat_map messages_of_copy) (sym (take-append-drop t copies)) ∙ flat_map-append (take t copies) (drop t copies) in
    sym (ap (take (length (flat_map messages_of_copy (take t copies)))) whole ∙ take-append_seam (flat_map messages_of_copy (take t copies)) (flat_map messages_of_copy (drop t copies)))

pub listed_first : (p : Parameters) (side : Side) (own peer : List FirstCopy) → AreFirst (messages_sent own) (listed p side own peer)
listed_first p side own peer =
    let made = all_made p side own in
    let units = take (units_taken made (pdus_of peer)) (data_copies own) in
    let taken = messages_taken (surely_taken p side own peer) in
    let placed = placed_numbered 0 taken ∙ placed_units made peer 0 units in
    let size = sym (length-map (listed p side own peer) listed_placed) ∙ ap length placed in record {
      numbered = λ i l e. numbers 0 taken i l e ∙ omega arith;
      first = placed ∙ front (units_taken made (pdus_of peer)) (data_copies own) ∙ ap (λ n. take n (messages_sent own)) (sym size);
    }

-- as many have a proof as are listed
pub is_listed : (listed : List ListedMessage) (i : ℕ) → is_some (proof_in listed i) ≡ nat_lt i (length listed)
is_listed [] i = grind (arith, nat_tests)
is_listed (l ∷ ls) zero = grind (arith, nat_tests)
is_listed (l ∷ ls) (suc i) = is_listed ls i ∙ grind (arith, nat_tests)

-- ---- messages are added

pub placed_push : (messages all : List Message) (m : Message) → all ≡ messages ++ m ∷ [] → map placed_of all ≡ map placed_of messages ++ placed_of m ∷ []
placed_push messages all m e = map_push placed_of messages all m e

pub proved_push : (listed : List ListedMessage) (messages all : List Message) (m : Message) → all ≡ messages ++ m ∷ [] → m.number ≡ length messages
    → m.proof ≡ proof_in listed (length messages) → ProvedBy listed messages → ProvedBy listed all
proved_push listed messages all m e number proof proved =
    rw e (all_push {P = λ i x. (x.number ≡ i) × (x.proof ≡ proof_in listed i)} messages m proved (number, proof))

-- ---- what is told as taken

-- so many messages from this number on, and those that are listed of them
taken_from : (listed : List ListedMessage) (n : ℕ) (messages : List Message)
    → ((i : ℕ) (m : Message) → slice_get messages i ≡ Some m → (m.number ≡ n + i) × (m.proof ≡ proof_in listed i))
    → ((i : ℕ) (l : ListedMessage) → slice_get listed i ≡ Some l → l.number ≡ n + i)
    → map listed_placed listed ≡ take (length listed) (map placed_of messages)
    → filter_map taken_of messages ≡ listed
taken_from [] n [] proved numbered first = refl
taken_from (l ∷ ls) n [] proved numbered first = absurd (cc)
taken_from [] n (m ∷ messages) proved numbered first =
    let none = (proved 0 m refl).1 in
    let rest = taken_from [] (suc n) messages (λ i k e. (let h = proved (suc i) k e in (h.0 ∙ omega arith, h.1))) (λ i k e. absurd (cc)) refl in
    grind arith
taken_from (l ∷ ls) n (m ∷ messages) proved numbered first =
    let some = proved 0 m refl in
    let number = numbered 0 l refl in
    let rest = taken_from ls (suc n) messages
    (λ i k e. (let h = proved (suc i) k e in (h.0 ∙ omega arith, h.1)))
    (λ i k e. numbered (suc i) k e ∙ omega arith)
    (cc) in
    grind arith

pub told_as_taken : (sent : List Placed) (told : List ListedMessage) (messages : List Message) → AreFirst sent told → ProvedBy told messages
    → map placed_of messages ≡ sent → filter_map taken_of messages ≡ told
told_as_taken sent told messages are proved all =
    taken_from told 0 messages (λ i m e. (let h = proved i m e in (h.0 ∙ omega arith, h.1))) (λ i l e. are.numbered i l e ∙ omega arith) (are.first ∙ ap (take (length told)) (sym all))

-- ---- the messages of a sent list, copy by copy

sent_one : (x : FirstCopy) (xs : List FirstCopy) → messages_sent (x ∷ xs) ≡ messages_sent (x ∷ []) ++ messages_sent xs
sent_one x xs = grind (arith, append-nil, append_assoc)

pub sent_more : (xs : List FirstCopy) (i : ℕ) (x : FirstCopy) → slice_get xs i ≡ Some x
    → messages_sent (drop i xs) ≡ messages_sent (x ∷ []) ++ messages_sent (drop (i + 1) xs)
sent_more xs i x g = rw (left_at xs i x g) (sent_one x (drop (i + 1) xs))

pub copies_more : (xs : List FirstCopy) (i : ℕ) (x : FirstCopy) (old new : List Placed) → slice_get xs i ≡ Some x → new ≡ old ++ messages_sent (x ∷ [])
    → new ++ messages_sent (drop (i + 1) xs) ≡ old ++ messages_sent (drop i xs)
copies_more xs i x old new g e = rw (e, sent_more xs i x g) (append_assoc old (messages_sent (x ∷ [])) (messages_sent (drop (i + 1) xs)))
