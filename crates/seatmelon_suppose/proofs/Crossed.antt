-- What crosses together with supposed PDUs, packet by packet.
use Rattle.std.proofs.Common.{◌≡◌, ◌∙◌, ℕ, suc, ◌+◌, ◌<◌, List, [], ◌∷◌, ◌++◌, append-nil, append_assoc, length, map, filter, get_or, take, Option, Result, Ok, Err, ap, sym, refl, subst, arith}
use Rattle.std.proofs.lemmas.List.{length-map, length-take-le, map-append, map_push, take_more}
use Rattle.rasta_check.specs.Capture.Building.{crossed_in}
use Rattle.std.proofs.lemmas.List.Elements.{filter-append}
use Rattle.rasta_pcap.specs.declared.fault.Fault.{Fault}
use Rattle.rasta_pdu.specs.Params.{Parameters}
use Rattle.rasta_check.specs.Capture.Crossing.{Crossing, nothing_crossed}
use Rattle.rasta_check.specs.Capture.Reading.{after_packet, then_crossing}
use Rattle.seatmelon_reading.specs.Tapes.{NumberedPacket, taped_as}
use Rattle.seatmelon_reading.specs.declared.tape.Taped.{Taped}
use Rattle.seatmelon_suppose.specs.Mending.{IsMended, Takes, after_packets, is_before, mended_at, mended_from, no_place, origins_at, origins_from, supposed_at}
use Rattle.seatmelon_suppose.specs.declared.mending.Mending.{Mending}
use Rattle.seatmelon_suppose.specs.declared.supposed.Supposed.{Supposed}

-- ---- packets one after the other

abbrev crossed_so : Crossing → Result Crossing Fault
crossed_so k = Ok k

then_more : (r : Result Crossing Fault) (more rest : List NumberedPacket)
    → ((k : Crossing) → after_packets k (more ++ rest) ≡ then_crossing (after_packets k more) (λ n. after_packets n rest))
    → then_crossing r (λ n. after_packets n (more ++ rest)) ≡ then_crossing (then_crossing r (λ n. after_packets n more)) (λ n. after_packets n rest)
then_more (Ok k) more rest same = same k
then_more (Err fault) more rest same = refl

after-append : (first rest : List NumberedPacket) (k : Crossing) → after_packets k (first ++ rest) ≡ then_crossing (after_packets k first) (λ n. after_packets n rest)
after-append [] rest k = refl
after-append (n ∷ first) rest k = then_more (after_packet k n.number n.packet) first rest (after-append first rest)

pub after-then : (k m n : Crossing) (first rest : List NumberedPacket) → after_packets k first ≡ Ok m → after_packets m rest ≡ Ok n
    → after_packets k (first ++ rest) ≡ Ok n
after-then k m n first rest to on =
    after-append first rest k ∙ ap (λ (r : Result Crossing Fault). then_crossing r (λ x. after_packets x rest)) to ∙ on

after-one : (k m : Crossing) (n : NumberedPacket) (r : Result Crossing Fault) → r ≡ crossed_so m → then_crossing r (λ next. after_packets next []) ≡ Ok m
after-one k m n r is = ap (λ (x : Result Crossing Fault). then_crossing x (λ next. after_packets next [])) is

pub after-packet : (k m : Crossing) (n : NumberedPacket) → after_packet k n.number n.packet ≡ Ok m → after_packets k (n ∷ []) ≡ Ok m
after-packet k m n is = after-one k m n (after_packet k n.number n.packet) is

pub takes-none : (m : Mending) → Takes m m [] []
takes-none m = record { crossed = refl; origins = sym (append-nil m.origins.items) }

pub takes-then : (old mid new : Mending) (first rest : List NumberedPacket) (from more : List (Option ℕ)) → Takes old mid first from → Takes mid new rest more
    → Takes old new (first ++ rest) (from ++ more)
takes-then old mid new first rest from more a b = record {
  crossed = after-then _ _ _ first rest a.crossed b.crossed;
  origins = b.origins ∙ ap (λ l. l ++ more) a.origins ∙ append_assoc old.origins.items from more;
}

-- ---- one packet more

plus-zero : (n : ℕ) → n ≡ n + 0
plus-zero n = omega arith

moved : (n m : ℕ) → suc n + m ≡ n + suc m
moved n m = omega arith

module _ (p : Parameters) (packets : List NumberedPacket) (supposed : List Supposed) where
  pub mended-push : (first : List NumberedPacket) (place : ℕ) (n : NumberedPacket)
      → mended_from p packets supposed place (first ++ n ∷ []) ≡ mended_from p packets supposed place first ++ mended_at p packets supposed (place + length first) n
  mended-push [] place n = append-nil (mended_at p packets supposed place n) ∙ ap (λ k. mended_at p packets supposed k n) (plus-zero place)
  mended-push (x ∷ first) place n =
      ap (λ l. mended_at p packets supposed place x ++ l) (mended-push first (suc place) n ∙ ap (λ k. mended_from p packets supposed (suc place) first ++ mended_at p packets supposed k n) (moved place (length first)))
      ∙ sym (append_assoc (mended_at p packets supposed place x) (mended_from p packets supposed (suc place) first) (mended_at p packets supposed (place + suc (length first)) n))

  pub origins-push : (first : List NumberedPacket) (place : ℕ) (n : NumberedPacket)
      → origins_from supposed place (first ++ n ∷ []) ≡ origins_from supposed place first ++ origins_at supposed (place + length first)
  origins-push [] place n = append-nil (origins_at supposed place) ∙ ap (origins_at supposed) (plus-zero place)
  origins-push (x ∷ first) place n =
      ap (λ l. origins_at supposed place ++ l) (origins-push first (suc place) n ∙ ap (λ k. origins_from supposed (suc place) first ++ origins_at supposed k) (moved place (length first)))
      ∙ sym (append_assoc (origins_at supposed place) (origins_from supposed (suc place) first) (origins_at supposed (place + suc (length first))))

-- ---- one supposed PDU more

supposed-more : (supposed : List Supposed) (place i : ℕ) (d : Supposed) → i < length supposed
    → supposed_at (take (i + 1) supposed) place ≡ supposed_at (take i supposed) place ++ supposed_at (get_or supposed i d ∷ []) place
supposed-more supposed place i d within =
    ap (filter (is_before place)) (take_more supposed i d within) ∙ filter-append (is_before place) (take i supposed) (get_or supposed i d ∷ [])

pub takes-more : (old mid new : Mending) (f : Supposed → NumberedPacket) (place : ℕ) (supposed : List Supposed) (i : ℕ) (d : Supposed) → i < length supposed
    → Takes old mid (map f (supposed_at (take i supposed) place)) (map no_place (supposed_at (take i supposed) place))
    → Takes mid new (map f (supposed_at (get_or supposed i d ∷ []) place)) (map no_place (supposed_at (get_or supposed i d ∷ []) place))
    → Takes old new (map f (supposed_at (take (i + 1) supposed) place)) (map no_place (supposed_at (take (i + 1) supposed) place))
takes-more old mid new f place supposed i d within a b =
    let first = supposed_at (take i supposed) place in
    let next = supposed_at (get_or supposed i d ∷ []) place in
    let both = takes-then old mid new (map f first) (map f next) (map no_place first) (map no_place next) a b in
    subst (λ l. Takes old new (map f l) (map no_place l)) (sym (supposed-more supposed place i d within))
    (subst (λ l. Takes old new l (map no_place (first ++ next))) (sym (map-append f first next))
    (subst (λ l. Takes old new (map f first ++ map f next) l) (sym (map-append no_place first next)) both))

-- ---- one captured packet more

pub mended-next : (p : Parameters) (packets : List NumberedPacket) (supposed : List Supposed) (first : List Taped) (i : ℕ) (t : Taped) (old new : Mending)
    → i < length first → t ≡ get_or first i t → IsMended p packets supposed (map taped_as (take i first)) (crossed_in old.builder) old.origins.items
    → Takes old new (mended_at p packets supposed i (taped_as t)) (origins_at supposed i)
    → IsMended p packets supposed (map taped_as (take (i + 1) first)) (crossed_in new.builder) new.origins.items
mended-next p packets supposed first i t old new within is so_far next =
    let before = map taped_as (take i first) in
    let more : map taped_as (take (i + 1) first) ≡ before ++ taped_as t ∷ [] =
    ap (map taped_as) (take_more first i t within ∙ ap (λ x. take i first ++ x ∷ []) (sym is)) ∙ map_push taped_as (take i first) t in
    let count : length before ≡ i = length-map (take i first) taped_as ∙ length-take-le i first (omega (arith, within)) in
    let size : 0 + length before ≡ i = omega (arith, count) in
    let crossed = after-then _ _ _ (mended_from p packets supposed 0 before) (mended_at p packets supposed i (taped_as t)) so_far.crossed next.crossed in
    let same : mended_from p packets supposed 0 (map taped_as (take (i + 1) first)) ≡ mended_from p packets supposed 0 before ++ mended_at p packets supposed i (taped_as t) =
    ap (mended_from p packets supposed 0) more ∙ mended-push p packets supposed before 0 (taped_as t)
    ∙ ap (λ k. mended_from p packets supposed 0 before ++ mended_at p packets supposed k (taped_as t)) size in
    let from : origins_from supposed 0 (map taped_as (take (i + 1) first)) ≡ origins_from supposed 0 before ++ origins_at supposed i =
    ap (origins_from supposed 0) more ∙ origins-push p packets supposed before 0 (taped_as t) ∙ ap (λ k. origins_from supposed 0 before ++ origins_at supposed k) size in record {
      crossed = ap (after_packets (nothing_crossed p)) same ∙ crossed;
      origins = next.origins ∙ ap (λ l. l ++ origins_at supposed i) so_far.origins ∙ sym from;
    }
