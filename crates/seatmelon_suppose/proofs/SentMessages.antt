-- The messages that an end sent, one by one.
use Rattle.std.proofs.Common.{◌≡◌, ◌∙◌, ℕ, suc, ◌+◌, ◌-◌, ◌≤◌, List, [], ◌∷◌, ◌++◌, append-nil, append_assoc, length, drop, Option, Some, slice_get, ap, arith}
use Rattle.std.proofs.lemmas.List.{length_push}
use Rattle.rasta_check.proofs.Verdict.ListSteps.{left_at}
use Rattle.rasta_check.specs.Capture.SentLists.{FirstCopy}
use Rattle.seatmelon_suppose.specs.Sent.{messages_from, sent_messages}
use Rattle.seatmelon_suppose.specs.declared.sent.SentMessage.{SentMessage}

-- ---- the messages of data

abbrev message_at : Option ℕ → ℕ → SentMessage
message_at place number = record { «data» = place; index = number }

-- one message more, where so many of other data stand before
pub message-more : (place : Option ℕ) (before count : ℕ) (old new : List SentMessage) (m : List ℕ) (messages : List (List ℕ)) → before ≤ length old
    → count ≡ length old → new ≡ old ++ message_at place (count - before) ∷ []
    → new ++ messages_from place (length new - before) messages ≡ old ++ messages_from place (length old - before) (m ∷ messages)
message-more place before count old new m messages within so_many pushed =
    let x = message_at place (length old - before) in
    let added : new ≡ old ++ x ∷ [] = pushed ∙ ap (λ n. old ++ message_at place (n - before) ∷ []) so_many in
    let size : length new ≡ length old + 1 = ap length added ∙ length_push old x in
    let next : length new - before ≡ suc (length old - before) = omega (arith, size, within) in
    ap (λ l. l ++ messages_from place (length new - before) messages) added
    ∙ append_assoc old (x ∷ []) (messages_from place (length new - before) messages)
    ∙ ap (λ n. old ++ x ∷ messages_from place n messages) next

-- those that stand before stand before what is longer
pub still-within : (before : ℕ) (old new : List SentMessage) (x : SentMessage) → before ≤ length old → new ≡ old ++ x ∷ [] → before ≤ length new
still-within before old new x within pushed = omega (arith, ap length pushed, length_push old x)

-- ---- a sent list, copy by copy

module _ (origins : List (Option ℕ)) where
  sent-one : (x : FirstCopy) (xs : List FirstCopy) → sent_messages origins (x ∷ xs) ≡ sent_messages origins (x ∷ []) ++ sent_messages origins xs
  sent-one x xs = grind (arith, append-nil, append_assoc)

  sent-more : (xs : List FirstCopy) (i : ℕ) (x : FirstCopy) → slice_get xs i ≡ Some x
      → sent_messages origins (drop i xs) ≡ sent_messages origins (x ∷ []) ++ sent_messages origins (drop (i + 1) xs)
  sent-more xs i x g = rw (left_at xs i x g) (sent-one x (drop (i + 1) xs))

  pub copies-more : (xs : List FirstCopy) (i : ℕ) (x : FirstCopy) (old new : List SentMessage) → slice_get xs i ≡ Some x
      → new ≡ old ++ sent_messages origins (x ∷ []) → new ++ sent_messages origins (drop (i + 1) xs) ≡ old ++ sent_messages origins (drop i xs)
  copies-more xs i x old new g e =
      rw (e, sent-more xs i x g) (append_assoc old (sent_messages origins (x ∷ [])) (sent_messages origins (drop (i + 1) xs)))
