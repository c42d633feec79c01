-- The messages of a supposition, one by one.
use Rattle.std.proofs.Common.{◌≡◌, ◌∙◌, ℕ, suc, ◌+◌, ◌<◌, List, [], ◌∷◌, ◌++◌, length, map, get_or, take, true, Option, None, Some, Result, Ok, Err, ap, arith, refl, sym}
use Rattle.std.specs.Prelude.{slice_get, unwrap_or, option_map}
use Rattle.std.specs.List.{cons_option}
use Rattle.std.proofs.lemmas.List.{length-take-le, take_more}
use Rattle.std.proofs.lemmas.Bool.Decides.{nat_tests}
use Rattle.std.proofs.lemmas.Option.{slice_get-get_or, slice_get-map}
use lib.Dec.{ltb}
use Rattle.rasta_pcap.specs.declared.fault.Fault.{Fault}
use Rattle.rasta_pdu.specs.Params.{Parameters}
use Rattle.rasta_pdu.specs.Pdu.{RedundancyPdu, decode_of, messages_in}
use Rattle.seatmelon_reading.specs.Tapes.{NumberedPacket, taped_as}
use Rattle.seatmelon_reading.specs.declared.tape.Taped.{Taped}
use Rattle.seatmelon_suppose.specs.Spelling.{messages_of_packet, messages_read}
use Rattle.seatmelon_suppose.specs.declared.sent.SentMessage.{SentMessage}
use Rattle.seatmelon_account.specs.Hypotheses.{Numbered, captured_as, captured_from, message_in}

cons_append : {A : Type 0} (o : Option A) (xs ys : List A) → cons_option o (xs ++ ys) ≡ cons_option o xs ++ ys
cons_append None xs ys = refl
cons_append (Some x) xs ys = refl

-- one message more
pub captured_push : (p : Parameters) (packets : List NumberedPacket) (number : ℕ) (sent : List SentMessage) (s : SentMessage)
    → captured_from p packets number (sent ++ s ∷ [])
    ≡ captured_from p packets number sent ++ cons_option (captured_as p packets (number + length sent) s) []
captured_push p packets number [] s = ap (λ (n : ℕ). cons_option (captured_as p packets n s) []) (omega arith)
captured_push p packets number (x ∷ sent) s =
    ap (cons_option (captured_as p packets number x)) (captured_push p packets (suc number) sent s
    ∙ ap (λ (n : ℕ). captured_from p packets (suc number) sent ++ cons_option (captured_as p packets n s) []) (omega arith))
    ∙ cons_append (captured_as p packets number x) (captured_from p packets (suc number) sent)
    (cons_option (captured_as p packets (number + length (x ∷ sent)) s) [])

pub told_next : (p : Parameters) (packets : List NumberedPacket) (sent : List SentMessage) (i : ℕ) (d : SentMessage) (old new : List Numbered)
    → i < length sent → old ≡ captured_from p packets 0 (take i sent) → new ≡ old ++ cons_option (captured_as p packets i (get_or sent i d)) []
    → new ≡ captured_from p packets 0 (take (i + 1) sent)
told_next p packets sent i d old new within so_far more =
    let count : length (take i sent) ≡ i = length-take-le i sent (omega (arith, within)) in
    let at : 0 + length (take i sent) ≡ i = omega (arith, count) in
    more ∙ ap (λ (l : List Numbered). l ++ cons_option (captured_as p packets i (get_or sent i d)) []) so_far
    ∙ sym (ap (captured_from p packets 0) (take_more sent i d within)
    ∙ captured_push p packets 0 (take i sent) (get_or sent i d)
    ∙ ap (λ (n : ℕ). captured_from p packets 0 (take i sent) ++ cons_option (captured_as p packets n (get_or sent i d)) []) at)

-- an element that is looked up
pub at_place : {A : Type 0} (xs : List A) (i : ℕ) (x d : A) → true ≡ ltb i (length xs) → x ≡ get_or xs i d → slice_get xs i ≡ Some x
at_place xs i x d within is = slice_get-get_or xs i d (grind (arith, nat_tests)) ∙ ap Some (sym is)

-- a message of a packet that decodes
pub message_there : (p : Parameters) (packets : List Taped) (place index : ℕ) (t : Taped) (d : RedundancyPdu) → slice_get packets place ≡ Some t
    → decode_of p t.sender t.datagram.items ≡ Ok d
    → message_in p (map taped_as packets) place index ≡ unwrap_or (slice_get (messages_in d.safety.body) index) []
message_there p packets place index t d there decodes =
    let same : slice_get (map taped_as packets) place ≡ Some (taped_as t) = slice_get-map taped_as packets place ∙ ap (option_map taped_as) there in
    ap (λ (o : Option NumberedPacket). unwrap_or (slice_get (messages_of_packet p o) index) []) same
    ∙ ap (λ (r : Result RedundancyPdu Fault). unwrap_or (slice_get (messages_read r) index) []) decodes

-- one that doesn't has none
pub message_unread : (p : Parameters) (packets : List Taped) (place index : ℕ) (t : Taped) (f : Fault) → slice_get packets place ≡ Some t
    → decode_of p t.sender t.datagram.items ≡ Err f → message_in p (map taped_as packets) place index ≡ []
message_unread p packets place index t f there decodes =
    let same : slice_get (map taped_as packets) place ≡ Some (taped_as t) = slice_get-map taped_as packets place ∙ ap (option_map taped_as) there in
    ap (λ (o : Option NumberedPacket). unwrap_or (slice_get (messages_of_packet p o) index) []) same
    ∙ ap (λ (r : Result RedundancyPdu Fault). unwrap_or (slice_get (messages_read r) index) []) decodes
