-- Nothing of the first 12 bytes of a frame is read: frames that are alike from there on are read alike.
use Rattle.std.proofs.Common.{◌≡◌, ◌∙◌, ℕ, ◌+◌, ◌-◌, ◌≤◌, List, length, take, drop, get_or, cond, Bool, true, false, ◌&&◌, ◌||◌, ◌==◌, nat_le, Option, None, Some, Result, Ok, Err, ap, refl, sym, subst, arith}
use Rattle.std.proofs.lemmas.Bool.Decides.{nat_tests}
use Rattle.std.proofs.lemmas.List.{drop-drop, drop_at, get_or-drop, length-append, length-drop, length-take-le}
use Rattle.byteorder.specs.Endian.{big_number}
use Rattle.rasta_pcap.specs.declared.fault.Fault.{Fault}
use Rattle.rasta_udp.specs.declared.channel.Channel.{Channel}
use Rattle.rasta_udp.specs.Frame.{Fields, Found, datagram_of, fields_of, found_by, header_length_of, is_tagged, map_found, moved_on, big_at, packet_at, packet_in, untagged_of, without_tag}
use Rattle.seatmelon_reading.specs.PassedOver.{has_outer_tag, is_behind_tag, is_of_channels}

-- as long, and the same from byte 12 on
pub record AreAlike (x y : List ℕ) : Type 0 where
  pub sized : length x ≡ length y
  pub rest : drop 12 x ≡ drop 12 y

module _ (x y : List ℕ) (alike : AreAlike x y) where
  drop_alike : (n : ℕ) → 12 ≤ n → drop n x ≡ drop n y
  drop_alike n h =
      let e : 12 + (n - 12) ≡ n = omega arith in
      subst (λ m. drop m x ≡ drop m y) e (sym (drop-drop (n - 12) 12 x) ∙ ap (drop (n - 12)) alike.rest ∙ drop-drop (n - 12) 12 y)

  number_alike : (m n : ℕ) → 12 ≤ n → big_at m n x ≡ big_at m n y
  unfolding big_at
  number_alike m n h = ap (big_number m) (drop_alike n h)

  byte_alike : (n : ℕ) → 12 ≤ n → get_or x n 0 ≡ get_or y n 0
  byte_alike n h =
      let e : n + 0 ≡ n = omega arith in
      ap (λ m. get_or x m 0) (sym e) ∙ sym (get_or-drop n x 0 0) ∙ ap (λ l. get_or l 0 0) (drop_alike n h) ∙ get_or-drop n y 0 0 ∙ ap (λ m. get_or y m 0) e

  pub fields_alike : fields_of x ≡ fields_of y
  fields_alike =
      let size : length x ≡ length y = alike.sized in
      let first : get_or x 14 0 ≡ get_or y 14 0 = byte_alike 14 (omega arith) in
      let protocol : get_or x 23 0 ≡ get_or y 23 0 = byte_alike 23 (omega arith) in
      let n12 : big_at 2 12 x ≡ big_at 2 12 y = number_alike 2 12 (omega arith) in
      let n16 : big_at 2 16 x ≡ big_at 2 16 y = number_alike 2 16 (omega arith) in
      let n20 : big_at 2 20 x ≡ big_at 2 20 y = number_alike 2 20 (omega arith) in
      let n26 : big_at 4 26 x ≡ big_at 4 26 y = number_alike 4 26 (omega arith) in
      let n30 : big_at 4 30 x ≡ big_at 4 30 y = number_alike 4 30 (omega arith) in
      let h = header_length_of x in
      let p14 : big_at 2 (14 + h) x ≡ big_at 2 (14 + h) y = number_alike 2 (14 + h) (omega arith) in
      let p16 : big_at 2 (16 + h) x ≡ big_at 2 (16 + h) y = number_alike 2 (16 + h) (omega arith) in
      let p18 : big_at 2 (18 + h) x ≡ big_at 2 (18 + h) y = number_alike 2 (18 + h) (omega arith) in
      cc

  tagged_alike : is_tagged x ≡ is_tagged y
  tagged_alike = ap (λ n. nat_le 16 n && big_at 2 12 x == 0x8100) alike.sized ∙ ap (λ n. nat_le 16 (length y) && n == 0x8100) (number_alike 2 12 (omega arith))

  pub outer_alike : has_outer_tag x ≡ has_outer_tag y
  outer_alike = ap (λ n. nat_le 16 n && (big_at 2 12 x == 0x8100 || big_at 2 12 x == 0x88a8)) alike.sized
      ∙ ap (λ n. nat_le 16 (length y) && (n == 0x8100 || n == 0x88a8)) (number_alike 2 12 (omega arith))

-- a frame without its tag
module _ (f : List ℕ) (whole : 16 ≤ length f) where
  front : length (take 12 f) ≡ 12
  front = length-take-le 12 f (omega arith)

  rest_without : drop 12 (without_tag f) ≡ drop 16 f
  rest_without = drop_at (take 12 f) (drop 16 f) 12 front

  length_without : length (without_tag f) ≡ length f - 4
  length_without = omega (arith, length-append (take 12 f) (drop 16 f), front, length-drop 16 f)

  -- is read like the frame 4 bytes on
  pub without_alike : AreAlike (without_tag f) (drop 4 f)
  without_alike = record { sized = length_without ∙ sym (length-drop 4 f); rest = rest_without ∙ sym (drop-drop 12 4 f) }

tags_alike : (x y : List ℕ) → AreAlike x y → 16 ≤ length x → AreAlike (without_tag x) (without_tag y)
tags_alike x y h whole =
    let other : 16 ≤ length y = (let sized = h.sized in omega (arith, sized, whole)) in record {
      sized = length_without x whole ∙ ap (λ n. n - 4) h.sized ∙ sym (length_without y other);
      rest = rest_without x whole ∙ drop_alike x y h 16 (omega arith) ∙ sym (rest_without y other);
    }

alike-then : (x y z : List ℕ) → AreAlike x y → AreAlike y z → AreAlike x z
alike-then x y z first second = record { sized = first.sized ∙ second.sized; rest = first.rest ∙ second.rest }

-- ---- whether a frame is of the channels

abbrev is_found : Result (Option Found) Fault → Bool
is_found (Ok None) = false
is_found (Ok (Some d)) = true
is_found (Err fault) = true

packet_found : (f : List ℕ) (r : Result (Option Found) Fault) → is_of_channels (map_found (packet_at f) r) ≡ is_found r
packet_found f (Ok None) = refl
packet_found f (Ok (Some d)) = refl
packet_found f (Err fault) = refl

moved_found : (r : Result (Option Found) Fault) → is_found (map_found (moved_on 4) r) ≡ is_found r
moved_found (Ok None) = refl
moved_found (Ok (Some d)) = refl
moved_found (Err fault) = refl

found_tagged : (channels : List Channel) (f : List ℕ) → is_tagged f ≡ true → is_of_channels (packet_in channels f) ≡ is_found (untagged_of channels (without_tag f))
unfolding packet_in datagram_of
found_tagged channels f e =
    packet_found f _ ∙ ap (λ b. is_found (cond b (map_found (moved_on 4) (untagged_of channels (without_tag f))) (untagged_of channels f))) e
    ∙ moved_found (untagged_of channels (without_tag f))

found_untagged : (channels : List Channel) (f : List ℕ) → is_tagged f ≡ false → is_of_channels (packet_in channels f) ≡ is_found (untagged_of channels f)
unfolding packet_in datagram_of
found_untagged channels f e =
    packet_found f _ ∙ ap (λ b. is_found (cond b (map_found (moved_on 4) (untagged_of channels (without_tag f))) (untagged_of channels f))) e

tagged_whole : (f : List ℕ) → is_tagged f ≡ true → 16 ≤ length f
tagged_whole f e = grind (arith, nat_tests)

pub outer_whole : (f : List ℕ) → has_outer_tag f ≡ true → 16 ≤ length f
outer_whole f e = grind (arith, nat_tests)

same_by : (channels : List Channel) (x y : List ℕ) → AreAlike x y → (b : Bool) → is_tagged x ≡ b → is_of_channels (packet_in channels x) ≡ is_of_channels (packet_in channels y)
same_by channels x y h true e =
    found_tagged channels x e ∙ ap (λ (fields : Fields). is_found (found_by channels fields)) (fields_alike _ _ (tags_alike x y h (tagged_whole x e)))
    ∙ sym (found_tagged channels y (sym (tagged_alike x y h) ∙ e))
same_by channels x y h false e =
    found_untagged channels x e ∙ ap (λ (fields : Fields). is_found (found_by channels fields)) (fields_alike x y h)
    ∙ sym (found_untagged channels y (sym (tagged_alike x y h) ∙ e))

of_alike : (channels : List Channel) (x y : List ℕ) → AreAlike x y → is_of_channels (packet_in channels x) ≡ is_of_channels (packet_in channels y)
of_alike channels x y h = same_by channels x y h (is_tagged x) refl

-- a frame is behind a tag where what lies 4 bytes on is of the channels
pub behind_tag : (channels : List Channel) (f : List ℕ) → has_outer_tag f ≡ true → is_behind_tag channels f ≡ is_of_channels (packet_in channels (drop 4 f))
behind_tag channels f e =
    ap (λ b. b && is_of_channels (packet_in channels (without_tag f))) e ∙ of_alike channels (without_tag f) (drop 4 f) (without_alike f (outer_whole f e))

behind_by : (channels : List Channel) (x y : List ℕ) → AreAlike x y → (b : Bool) → has_outer_tag x ≡ b → is_behind_tag channels x ≡ is_behind_tag channels y
behind_by channels x y h true e =
    let other = sym (outer_alike x y h) ∙ e in
    ap (λ b. b && is_of_channels (packet_in channels (without_tag x))) e
    ∙ of_alike channels (without_tag x) (without_tag y) (tags_alike x y h (outer_whole x e))
    ∙ ap (λ b. b && is_of_channels (packet_in channels (without_tag y))) (sym other)
behind_by channels x y h false e =
    ap (λ b. b && is_of_channels (packet_in channels (without_tag x))) e ∙ ap (λ b. b && is_of_channels (packet_in channels (without_tag y))) (sym (sym (outer_alike x y h) ∙ e))

-- the same behind a second tag
pub behind_second : (channels : List Channel) (f : List ℕ) → has_outer_tag f ≡ true → is_behind_tag channels (without_tag f) ≡ is_behind_tag channels (drop 4 f)
behind_second channels f e = behind_by channels _ _ (without_alike f (outer_whole f e)) _ refl

pub udp_without : (f : List ℕ) → is_tagged f ≡ true → fields_of (without_tag f) ≡ fields_of (drop 4 f)
udp_without f e = fields_alike _ _ (without_alike f (tagged_whole f e))
