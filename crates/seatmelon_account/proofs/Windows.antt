-- What the packets of a window tell: their PDUs by place, and messages one by one.
use Rattle.std.proofs.Common.{◌≡◌, ◌∙◌, ℕ, zero, suc, ◌+◌, Bool, true, false, List, [], ◌∷◌, ◌++◌, length, map, filter, flat_map, slice_get, Option, None, Some, is_some, nat_lt, take, Result, Ok, Err, cond, ap, refl, sym, subst, arith}
use Rattle.std.specs.Prelude.{IsSome, MatchResult, option_map}
use Rattle.std.specs.Result.{result_ok}
use Rattle.std.specs.Option.{option_and_then}
use Rattle.std.proofs.lemmas.Bool.Decides.{nat_tests}
use Rattle.std.proofs.lemmas.List.{append_assoc}
use Rattle.rasta_check.proofs.Capture.PacketFaults.{reads}
use Rattle.rasta_check.proofs.Lists.{all_push, map_at, map_push, take_one_more}
use Rattle.rasta_pcap.specs.declared.fault.Fault.{Fault}
use Rattle.rasta_udp.specs.Frame.{Packet}
use Rattle.rasta_pdu.specs.Params.{Parameters}
use Rattle.rasta_pdu.specs.Pdu.{RedundancyPdu, decode_of, value_of}
use Rattle.rasta_pdu.specs.declared.pdu.Pdu.{Pdu}
use Rattle.rasta_check.specs.Capture.Crossing.{Crossing, IsCrossing}
use Rattle.rasta_check.specs.Capture.SentLists.{Spells}
use Rattle.rasta_check.specs.Middle.Seen.{IsSeen}
use Rattle.rasta_check.specs.declared.shown.Shown.{Shown}
use Rattle.rasta_check.specs.declared.sights.ShownUnit.{ShownUnit}
use Rattle.seatmelon_middle.specs.Packets.{pdu_of, pdu_read, pdu_there}
use Rattle.seatmelon_reading.specs.Tapes.{taped_as}
use Rattle.seatmelon_reading.specs.declared.tape.Taped.{Taped}
use Rattle.seatmelon_account.specs.Messages.{AreFirstTaken}
use Rattle.seatmelon_account.specs.Middle.{AreNumbered, HaveProofsFirst, Told, data_told, is_proved, messages_of, packet_of_numbered, told_of, told_with}
use Rattle.seatmelon_account.specs.declared.messages.Message.{Message}

-- ---- the PDU at a place

there : (p : Parameters) (packets : List Packet) (place : ℕ) (k : Packet) (pdu : RedundancyPdu) → slice_get packets place ≡ Some k
    → decode_of p k.side k.payload ≡ Ok pdu → pdu_there p packets place ≡ Some pdu
there p packets place k pdu at decodes = ap (option_and_then (pdu_of p)) at ∙ ap pdu_read decodes

-- a packet that spells none has none
unread : (p : Parameters) (packets : List Packet) (place : ℕ) (k : Packet) (f : Fault) → slice_get packets place ≡ Some k
    → decode_of p k.side k.payload ≡ Err f → pdu_there p packets place ≡ None
unread p packets place k f at decodes = ap (option_and_then (pdu_of p)) at ∙ ap pdu_read decodes

-- what crossed spells it
pub crossed_there : (k : Crossing) (place : ℕ) (packet : Packet) (pdu : RedundancyPdu) → IsCrossing k → slice_get k.packets place ≡ Some packet
    → Spells k.params packet.side pdu packet.payload → pdu_there k.params k.packets place ≡ Some pdu
crossed_there k place packet pdu is at spelled =
    there k.params k.packets place packet pdu at (reads k.params packet.side pdu packet.payload is.valid spelled)

-- and so does what was kept behind it, where it is read
mapped_at : (packets : List Taped) (place : ℕ) (t : Taped) → slice_get packets place ≡ Some t
    → slice_get (map packet_of_numbered (map taped_as packets)) place ≡ Some (packet_of_numbered (taped_as t))
mapped_at packets place t at = map_at packet_of_numbered (map taped_as packets) place (taped_as t) (map_at taped_as packets place t at)

pub taped_there : (p : Parameters) (packets : List Taped) (place : ℕ) (t : Taped) (bytes : List ℕ) (r : Result Pdu Fault) → slice_get packets place ≡ Some t
    → bytes ≡ t.datagram.items → MatchResult r (λ d. decode_of p t.sender bytes ≡ Ok (value_of d)) (λ f. decode_of p t.sender bytes ≡ Err f)
    → option_map value_of (result_ok r) ≡ pdu_there p (map packet_of_numbered (map taped_as packets)) place
taped_there p packets place t bytes (Ok d) at same decodes =
    sym (there p (map packet_of_numbered (map taped_as packets)) place (packet_of_numbered (taped_as t)) (value_of d) (mapped_at packets place t at)
    (ap (decode_of p t.sender) (sym same) ∙ decodes))
taped_there p packets place t bytes (Err f) at same decodes =
    sym (unread p (map packet_of_numbered (map taped_as packets)) place (packet_of_numbered (taped_as t)) f (mapped_at packets place t at)
    (ap (decode_of p t.sender) (sym same) ∙ decodes))

-- ---- packets are taken in

pub taken_next : (p : Parameters) (first : List Packet) (items : List Taped) (i : ℕ) (t : Taped) (shown : Shown) → slice_get items i ≡ Some t
    → IsSeen p ((first ++ map packet_of_numbered (map taped_as (take i items))) ++ packet_of_numbered (taped_as t) ∷ []) shown
    → IsSeen p (first ++ map packet_of_numbered (map taped_as (take (i + 1) items))) shown
taken_next p first items i t shown at seen =
    let more : map taped_as (take (i + 1) items) ≡ map taped_as (take i items) ++ taped_as t ∷ [] = map_push taped_as (take i items) (take (i + 1) items) t (sym (take_one_more i items t at)) in
    let packets = map_push packet_of_numbered (map taped_as (take i items)) (map taped_as (take (i + 1) items)) (taped_as t) more in
    subst (λ (l : List Packet). IsSeen p l shown)
    (append_assoc first (map packet_of_numbered (map taped_as (take i items))) (packet_of_numbered (taped_as t) ∷ []) ∙ ap (λ (l : List Packet). first ++ l) (sym packets))
    seen

-- ---- messages are added

pub told_push : (messages all : List Message) (m : Message) → all ≡ messages ++ m ∷ [] → map told_of all ≡ map told_of messages ++ told_of m ∷ []
told_push messages all m e = map_push told_of messages all m e

pub numbered_push : (messages all : List Message) (m : Message) → all ≡ messages ++ m ∷ [] → m.number ≡ length messages
    → AreNumbered messages → AreNumbered all
numbered_push messages all m e number numbered = rw e (all_push {P = λ i x. x.number ≡ i} messages m numbered number)

-- ---- those with a proof come first

abbrev is_told_proved : Told → Bool
is_told_proved t = is_some t.proof

abbrev AllFalse : List Bool → Type 0
AllFalse [] = Unit {0}
AllFalse (b ∷ bs) = (b ≡ false) × AllFalse bs

-- behind one that is false all are
abbrev Falls : List Bool → Type 0
Falls [] = Unit {0}
Falls (b ∷ bs) = (b ≡ false → AllFalse bs) × Falls bs

falls_false : (bs : List Bool) → AllFalse bs → Falls bs
falls_false [] h = tt
falls_false (b ∷ bs) h = (λ e. h.1, falls_false bs h.1)

falls_behind : (place proof : ℕ) (messages : List (List ℕ)) (rest : List Told) → Falls (map is_told_proved rest)
    → Falls (map is_told_proved (map (told_with place (Some proof)) messages ++ rest))
falls_behind place proof [] rest h = h
falls_behind place proof (m ∷ messages) rest h = (λ e. absurd (cc), falls_behind place proof messages rest h)

false_behind : (place : ℕ) (messages : List (List ℕ)) (rest : List Told) → AllFalse (map is_told_proved rest)
    → AllFalse (map is_told_proved (map (told_with place None) messages ++ rest))
false_behind place [] rest h = h
false_behind place (m ∷ messages) rest h = (refl, false_behind place messages rest h)

nothing : IsSome {T = ℕ} None → ⊥
nothing some = cc

none_of : (o : Option ℕ) → (IsSome o → ⊥) → o ≡ None
none_of None lacks = refl
none_of (Some x) lacks = absurd (lacks refl)

module _ (p : Parameters) (packets : List Packet) where
  abbrev proved_in : List ShownUnit → List Bool
  proved_in units = map is_told_proved (flat_map (data_told p packets) units)

  abbrev proved_with : ShownUnit → Option ℕ → List ShownUnit → List Bool
  proved_with u proof units =
      map is_told_proved (map (told_with u.data_place proof) (messages_of (pdu_there p packets u.data_place)) ++ flat_map (data_told p packets) units)

  all_false : (units : List ShownUnit) → ((i : ℕ) (u : ShownUnit) → slice_get units i ≡ Some u → u.proof_place ≡ None) → AllFalse (proved_in units)
  all_false [] none = tt
  all_false (u ∷ units) none =
      subst (λ (o : Option ℕ). AllFalse (proved_with u o units)) (sym (none 0 u refl))
      (false_behind u.data_place (messages_of (pdu_there p packets u.data_place)) (flat_map (data_told p packets) units) (all_false units (λ i v e. none (suc i) v e)))

  falls_by : (u : ShownUnit) (units : List ShownUnit) (o : Option ℕ) → u.proof_place ≡ o → HaveProofsFirst (u ∷ units) → Falls (proved_in units)
      → Falls (proved_with u o units)
  falls_by u units (Some proof) is first rest =
      falls_behind u.data_place proof (messages_of (pdu_there p packets u.data_place)) (flat_map (data_told p packets) units) rest
  falls_by u units None is first rest =
      falls_false (proved_with u None units)
      (false_behind u.data_place (messages_of (pdu_there p packets u.data_place)) (flat_map (data_told p packets) units)
      (all_false units (λ i v at. none_of v.proof_place (λ some. nothing (subst IsSome is (first 0 (suc i) u v (omega arith) refl at some))))))

  falls : (units : List ShownUnit) → HaveProofsFirst units → Falls (proved_in units)
  falls [] first = tt
  falls (u ∷ units) first =
      falls_by u units u.proof_place refl first
      (falls units (λ i j a later l e f some. first (suc i) (suc j) a later (omega (arith, l)) e f some))

-- so many are first, as have a proof
none_first : (messages : List Message) → AllFalse (map is_proved messages)
    → (length (filter is_proved messages) ≡ 0) × ((i : ℕ) (m : Message) → slice_get messages i ≡ Some m → is_proved m ≡ false)
none_first [] h = (refl, λ i m e. absurd (cc))
none_first (x ∷ messages) h =
    let rest = none_first messages h.1 in
    (ap (λ (b : Bool). length (cond b (x ∷ filter is_proved messages) (filter is_proved messages))) h.0 ∙ rest.0, each rest.1)
  where
    each : ((i : ℕ) (m : Message) → slice_get messages i ≡ Some m → is_proved m ≡ false)
        → (i : ℕ) (m : Message) → slice_get (x ∷ messages) i ≡ Some m → is_proved m ≡ false
    each rest zero m e = (let same : x ≡ m = cc in ap is_proved (sym same) ∙ h.0)
    each rest (suc i) m e = rest i m e

abbrev count_of : Bool → Message → List Message → ℕ
count_of b x messages = length (cond b (x ∷ filter is_proved messages) (filter is_proved messages))

first_by : (b : Bool) (x : Message) (messages : List Message) → is_proved x ≡ b → (b ≡ false → AllFalse (map is_proved messages))
    → AreFirstTaken (length (filter is_proved messages)) messages → AreFirstTaken (count_of b x messages) (x ∷ messages)
first_by true x messages is none rest zero m e = (let same : x ≡ m = cc in ap is_proved (sym same) ∙ is ∙ grind (arith, nat_tests))
first_by true x messages is none rest (suc i) m e = rest i m e ∙ grind (arith, nat_tests)
first_by false x messages is none rest i m e =
    let all : AllFalse (map is_proved (x ∷ messages)) = (is, none refl) in
    let few = none_first messages (none refl) in
    (none_first (x ∷ messages) all).1 i m e ∙ sym (ap (nat_lt i) few.0 ∙ grind (arith, nat_tests))

first_taken : (messages : List Message) → Falls (map is_proved messages) → AreFirstTaken (length (filter is_proved messages)) messages
first_taken [] h = λ i m e. absurd (cc)
first_taken (x ∷ messages) h = first_by (is_proved x) x messages refl h.0 (first_taken messages h.1)

told_proved : (messages : List Message) → map is_told_proved (map told_of messages) ≡ map is_proved messages
told_proved [] = refl
told_proved (m ∷ messages) = ap (λ l. is_proved m ∷ l) (told_proved messages)

pub proved_first : (p : Parameters) (packets : List Packet) (units : List ShownUnit) (messages : List Message) → HaveProofsFirst units
    → map told_of messages ≡ flat_map (data_told p packets) units → AreFirstTaken (length (filter is_proved messages)) messages
proved_first p packets units messages first all =
    first_taken messages (subst Falls (sym (ap (map is_told_proved) all) ∙ told_proved messages) (falls p packets units first))

-- ---- the first ones of them

in_front : (units : List ShownUnit) (n i : ℕ) (u : ShownUnit) → slice_get (take n units) i ≡ Some u → slice_get units i ≡ Some u
in_front [] zero i u e = e
in_front [] (suc n) i u e = e
in_front (x ∷ units) zero i u e = absurd (cc)
in_front (x ∷ units) (suc n) zero u e = e
in_front (x ∷ units) (suc n) (suc i) u e = in_front units n i u e

pub front_first : (units : List ShownUnit) (n : ℕ) → HaveProofsFirst units → HaveProofsFirst (take n units)
front_first units n first i j u later below a b some = first i j u later below (in_front units n i u a) (in_front units n j later b) some
