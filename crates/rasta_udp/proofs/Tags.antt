-- A tagged frame without its tag is read like the frame 4 bytes on: nothing of the first 12 bytes is
-- read.
use Rattle.std.proofs.Common.{◌≡◌, true, false, ℕ, ◌+◌, ◌-◌, ◌≤◌, List, length, take, drop, get_or, slice_range, refl, ap, ◌∙◌, sym, subst, arith, Result, Ok, Err, Option, Some, None}
use Rattle.std.proofs.lemmas.List.{drop-drop, drop_at, take_rest, length-take-le, length-append, length-drop, get_or-drop}
use Rattle.byteorder.specs.Endian.{big_number}
use Rattle.rasta_pcap.specs.declared.fault.Fault.{Fault}
use Rattle.rasta_udp.specs.declared.channel.Channel.{Channel}
use Rattle.rasta_udp.specs.Frame.{big_at, fields_of, header_length_of, without_tag, map_found, moved_on, packet_at, Fields, Found, found_by, untagged_of, is_tagged, datagram_of, packet_in}

module _ (f : List ℕ) (whole : 16 ≤ length f) where
  front : length (take 12 f) ≡ 12
  front = length-take-le 12 f (omega arith)

  drop-without_tag : (k : ℕ) → drop (12 + k) (without_tag f) ≡ drop (12 + k) (drop 4 f)
  drop-without_tag k =
      let shift : 16 + k ≡ 4 + (12 + k) = omega arith in
      sym (drop-drop k 12 (without_tag f)) ∙ ap (drop k) (drop_at (take 12 f) (drop 16 f) 12 front)
      ∙ drop-drop k 16 f ∙ ap (λ n. drop n f) shift ∙ sym (drop-drop (12 + k) 4 f)

  drop_after : (n : ℕ) → 12 ≤ n → drop n (without_tag f) ≡ drop n (drop 4 f)
  drop_after n h =
      let e : 12 + (n - 12) ≡ n = omega arith in
      subst (λ m. drop m (without_tag f) ≡ drop m (drop 4 f)) e (drop-without_tag (n - 12))

  number_after : (m n : ℕ) → 12 ≤ n → big_at m n (without_tag f) ≡ big_at m n (drop 4 f)
  unfolding big_at
  number_after m n h = ap (big_number m) (drop_after n h)

  byte_after : (n : ℕ) → 12 ≤ n → get_or (without_tag f) n 0 ≡ get_or (drop 4 f) n 0
  byte_after n h =
      let e : n + 0 ≡ n = omega arith in
      ap (λ m. get_or (without_tag f) m 0) (sym e) ∙ sym (get_or-drop n (without_tag f) 0 0)
      ∙ ap (λ l. get_or l 0 0) (drop_after n h) ∙ get_or-drop n (drop 4 f) 0 0 ∙ ap (λ m. get_or (drop 4 f) m 0) e

  length-without_tag : length (without_tag f) ≡ length (drop 4 f)
  length-without_tag = omega (arith, length-append (take 12 f) (drop 16 f), front, length-drop 16 f, length-drop 4 f)

  fields_after : fields_of (without_tag f) ≡ fields_of (drop 4 f)
  fields_after =
      let size : length (without_tag f) ≡ length (drop 4 f) = length-without_tag in
      let first : get_or (without_tag f) 14 0 ≡ get_or (drop 4 f) 14 0 = byte_after 14 (omega arith) in
      let protocol : get_or (without_tag f) 23 0 ≡ get_or (drop 4 f) 23 0 = byte_after 23 (omega arith) in
      let n12 : big_at 2 12 (without_tag f) ≡ big_at 2 12 (drop 4 f) = number_after 2 12 (omega arith) in
      let n16 : big_at 2 16 (without_tag f) ≡ big_at 2 16 (drop 4 f) = number_after 2 16 (omega arith) in
      let n20 : big_at 2 20 (without_tag f) ≡ big_at 2 20 (drop 4 f) = number_after 2 20 (omega arith) in
      let n26 : big_at 4 26 (without_tag f) ≡ big_at 4 26 (drop 4 f) = number_after 4 26 (omega arith) in
      let n30 : big_at 4 30 (without_tag f) ≡ big_at 4 30 (drop 4 f) = number_after 4 30 (omega arith) in
      let h = header_length_of (without_tag f) in
      let p14 : big_at 2 (14 + h) (without_tag f) ≡ big_at 2 (14 + h) (drop 4 f) = number_after 2 (14 + h) (omega arith) in
      let p16 : big_at 2 (16 + h) (without_tag f) ≡ big_at 2 (16 + h) (drop 4 f) = number_after 2 (16 + h) (omega arith) in
      let p18 : big_at 2 (18 + h) (without_tag f) ≡ big_at 2 (18 + h) (drop 4 f) = number_after 2 (18 + h) (omega arith) in
      cc

  slice_after : (a b : ℕ) → slice_range f (a + 4) (b + 4) ≡ slice_range (drop 4 f) a b
  slice_after a b =
      let size : (b + 4) - (a + 4) ≡ b - a = omega arith in
      let place : a + 4 ≡ 4 + a = omega arith in
      ap (λ n. take n (drop (a + 4) f)) size ∙ ap (λ n. take (b - a) (drop n f)) place
      ∙ ap (take (b - a)) (sym (drop-drop a 4 f))

  -- what is found without the tag, moved on, is what is found 4 bytes on
  packet_moved : (r : Result (Option Found) Fault) →
      map_found (packet_at f) (map_found (moved_on 4) r) ≡ map_found (packet_at (drop 4 f)) r
  packet_moved (Ok None) = refl
  packet_moved (Ok (Some d)) =
      ap (λ (bytes : List ℕ). Ok (Some (record { channel = d.channel; side = d.side; payload = bytes }))) (slice_after d.start d.end)
  packet_moved (Err e) = refl

-- what a tagged frame holds is read 4 bytes on
pub packet_in_tagged : (channels : List Channel) (f : List ℕ) → 16 ≤ length f → big_at 2 12 f ≡ 0x8100 →
    packet_in channels f ≡ map_found (packet_at (take (length f - 4) (drop 4 f))) (untagged_of channels (take (length f - 4) (drop 4 f)))
unfolding packet_in datagram_of
packet_in_tagged channels f whole type_is =
    let tagged : is_tagged f ≡ true = grind arith in
    rw tagged (rw (take_rest f 4)
    (packet_moved f whole _ ∙ ap (λ (x : Fields). map_found (packet_at (drop 4 f)) (found_by channels x)) (fields_after f whole)))

-- what a frame without a tag holds is read where it stands
pub packet_in_untagged : (channels : List Channel) (f : List ℕ) → is_tagged f ≡ false →
    packet_in channels f ≡ map_found (packet_at f) (untagged_of channels f)
unfolding packet_in datagram_of
packet_in_untagged channels f plain = rw plain refl
