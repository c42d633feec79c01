-- What is spelled of a packet with a cooked header.
use Rattle.std.proofs.Common.{◌≡◌, ◌∙◌, ℕ, ◌+◌, ◌-◌, ◌<◌, ◌≤◌, List, [], ◌∷◌, ◌++◌, append-nil, append_assoc, length, length-drop, length-take, min, slice_range, drop, ap, sym, arith}
use Rattle.std.specs.List.{flat_map}
use Rattle.std.proofs.lemmas.List.Concat.{flat_map-cons}
use Rattle.byteorder.specs.Endian.{little_bytes}
use Rattle.seatmelon_cooked.specs.declared.form.Kind.{Kind}
use Rattle.seatmelon_cooked.specs.Frames.{excess, frame_header, frame_of, header_length}
use Rattle.seatmelon_cooked.proofs.FrameLengths.{frame_of-cut, frame_of-whole, header_length-least, length-frame_of}
use Rattle.seatmelon_pcapng.specs.Readings.{StandsWithin, cooked_in, front_by, packet_bytes}
use Rattle.seatmelon_pcapng.specs.declared.block.Found.{Found}

module _ (block : List ℕ) (found : Found) (kind : Kind) (within : StandsWithin (length block) found) where
  abbrev packet : List ℕ
  packet = slice_range block found.start found.end

  pub length-packet : length packet ≡ found.end - found.start
  length-packet =
      let size : length packet ≡ min (found.end - found.start) (length (drop found.start block)) = length-take (found.end - found.start) (drop found.start block) in
      let behind : length (drop found.start block) ≡ length block - found.start = length-drop found.start block in
      omega (arith, size, behind, within.0, within.1)

  -- where its frame begins, so that the length is right
  module _ (original start : ℕ) (is_original : original ≡ found.original - excess kind) where
    abbrev frame : Found
    frame = record found { original = original; start = start }

    spelled-record : found.end - start ≡ length (frame_of kind packet) → front_by frame ++ frame_of kind packet ≡ flat_map packet_bytes (cooked_in block found kind ∷ [])
    spelled-record size =
        ap (λ (n : ℕ). (little_bytes 4 found.moment.seconds ++ (little_bytes 4 found.moment.nanoseconds ++ (little_bytes 4 n ++ little_bytes 4 original))) ++ frame_of kind packet) size
        ∙ ap (λ (n : ℕ). (little_bytes 4 found.moment.seconds ++ (little_bytes 4 found.moment.nanoseconds ++ (little_bytes 4 (length (frame_of kind packet)) ++ little_bytes 4 n))) ++ frame_of kind packet) is_original
        ∙ sym (flat_map-cons packet_bytes (cooked_in block found kind) [] ∙ append-nil (packet_bytes (cooked_in block found kind)))

    -- its header is whole
    pub spelled-whole : found.start + header_length kind ≤ found.end → start ≡ found.start + excess kind
        → (front_by frame ++ frame_header kind packet) ++ drop (header_length kind) packet ≡ flat_map packet_bytes (cooked_in block found kind ∷ [])
    spelled-whole whole is_start =
        let there : header_length kind ≤ length packet = omega (arith, length-packet) in
        let least = header_length-least kind in
        let size = length-frame_of kind packet there in
        append_assoc (front_by frame) (frame_header kind packet) (drop (header_length kind) packet)
        ∙ ap (λ (l : List ℕ). front_by frame ++ l) (sym (frame_of-whole kind packet there))
        ∙ spelled-record (omega (arith, size, least, length-packet))

    -- or it was cut
    pub spelled-cut : found.end < found.start + header_length kind → start ≡ found.end
        → front_by frame ++ [] ≡ flat_map packet_bytes (cooked_in block found kind ∷ [])
    spelled-cut cut is_start =
        let none = frame_of-cut kind packet (omega (arith, length-packet, within.0)) in
        let size : length (frame_of kind packet) ≡ 0 = ap length none in
        ap (λ (l : List ℕ). front_by frame ++ l) (sym none) ∙ spelled-record (omega (arith, size))
