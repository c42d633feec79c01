-- Appending a datagram.
use Rattle.std.proofs.Common.{◌≡◌, ℕ, ◌+◌, ◌^◌, ◌<◌, ◌≤◌, List, [], ◌∷◌, ◌++◌, length, drop, true, nat_eq, refl, ap, sym, ◌∙◌, arith, append_assoc, length-append}
use Rattle.std.specs.Borrow.{Bor}
use Rattle.std.proofs.lemmas.Bool.{eqb-true, ltb-true, and_parts}
use Rattle.rasta_pdu.specs.declared.body.Body.{Body}
use Rattle.rasta_pdu.specs.declared.body.Body.TheVariants.{Opening as OpeningBody, Bye as ByeBody, Messages as MessagesBody, Empty as EmptyBody}
use Rattle.rasta_pdu.specs.declared.parts.PduParts.{PduParts}
use Rattle.rasta_pdu.specs.Params.{Parameters}
use Rattle.rasta_pdu.specs.Pdu.{IsRedundancyPdu, Layout, OpeningFields, ByeFields, MessageList, Nothing, HasLayout, layout_of, length_of, payload_of}
use Rattle.rasta_pdu.specs.Parts.{lists_of, parts_body, value_of_parts, body_fits, parts_fit, BodyHasWidths, HaveWidths, most_bytes}
use Rattle.rasta_pdu.proofs.Payloads.{AreShort-few, are_messages-payload}
use Rattle.std.proofs.Math.Seq.{drop-append_seam}

-- leading bytes, a safety PDU's bytes, the code over them, and a check code, one after the other
pub appended : (old f u k : List ℕ) (n : ℕ) (code : List ℕ → List ℕ) → n ≡ length old + length f
    → (((old ++ f) ++ u) ++ code (drop n ((old ++ f) ++ u))) ++ k ≡ old ++ (f ++ ((u ++ code u) ++ k))
appended old f u k n code e =
    let size = length-append old f in
    let after : drop n ((old ++ f) ++ u) ≡ u = ap (λ (m : ℕ). drop m ((old ++ f) ++ u)) (e ∙ sym size) ∙ drop-append_seam (old ++ f) u in
    ap (λ (l : List ℕ). (((old ++ f) ++ u) ++ code l) ++ k) after
    ∙ simp append_assoc

-- three lists after a list
pub after_old : (old a b c : List ℕ) → ((old ++ a) ++ b) ++ c ≡ old ++ (a ++ (b ++ c))
after_old old a b c = simp append_assoc

length-lists : (ms : List (Bor (List ℕ))) → length (lists_of ms) ≡ length ms
length-lists [] = refl
length-lists (m ∷ ms) = let more = length-lists ms in omega arith

-- a body that fits has the layout
has_layout : (layout : Layout) (body : Body (Bor (List (Bor (List ℕ))))) → body_fits layout body ≡ true → BodyHasWidths body
    → length (payload_of (parts_body body)) < 2 ^ 16 → HasLayout layout (parts_body body)
has_layout OpeningFields (OpeningBody version sendmax reserved) h w few = (h, w.0, w.1)
has_layout OpeningFields (ByeBody detail reason) h w few = absurd (cc)
has_layout OpeningFields (MessagesBody messages) h w few = absurd (cc)
has_layout OpeningFields EmptyBody h w few = absurd (cc)
has_layout ByeFields (OpeningBody version sendmax reserved) h w few = absurd (cc)
has_layout ByeFields (ByeBody detail reason) h w few = w
has_layout ByeFields (MessagesBody messages) h w few = absurd (cc)
has_layout ByeFields EmptyBody h w few = absurd (cc)
has_layout MessageList (OpeningBody version sendmax reserved) h w few = absurd (cc)
has_layout MessageList (ByeBody detail reason) h w few = absurd (cc)
has_layout MessageList (MessagesBody messages) h w few =
    let some : 0 < length messages.now = ltb-true 0 (length messages.now) h in
    let count = length-lists messages.now in
    are_messages-payload (lists_of messages.now) (AreShort-few (lists_of messages.now) few) (omega arith)
has_layout MessageList EmptyBody h w few = absurd (cc)
has_layout Nothing (OpeningBody version sendmax reserved) h w few = absurd (cc)
has_layout Nothing (ByeBody detail reason) h w few = absurd (cc)
has_layout Nothing (MessagesBody messages) h w few = absurd (cc)
has_layout Nothing EmptyBody h w few = tt

-- parts that fit and aren't too many bytes are a value that is spelled
pub are_spelled : (p : Parameters) (d : PduParts) → parts_fit p d ≡ true → HaveWidths d → length_of p (value_of_parts d) ≤ most_bytes
    → IsRedundancyPdu p (value_of_parts d)
are_spelled p d fits w few =
    let tests = and_parts (body_fits (layout_of d.kind) d.body) (nat_eq (length d.check_bytes.now) p.check_length) fits in
    record {
      reserve = w.reserve;
      number = w.number;
      sn = w.sn;
      cs = w.cs;
      ts = w.ts;
      cts = w.cts;
      body = has_layout (layout_of d.kind) d.body tests.0 w.body (omega arith);
      size = omega arith;
      check_bytes = eqb-true (length d.check_bytes.now) p.check_length tests.1;
    }
