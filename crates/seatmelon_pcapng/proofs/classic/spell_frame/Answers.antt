use Rattle.std.proofs.Common.{◌≡◌, ◌∙◌, ℕ, ◌+◌, ◌-◌, ◌≤◌, List, [], ◌∷◌, ◌++◌, length, length-drop, drop, slice_range, ap, sym, arith}
use Rattle.std.specs.List.{flat_map}
use lib.Seq.{take_all}
use Rattle.seatmelon_cooked.specs.Frames.{excess, frame_header, header_length}
use Rattle.seatmelon_cooked.proofs.FrameLengths.{length-frame_header}
use Rattle.seatmelon_pcapng.specs.Memory.{bytes_held}
use Rattle.seatmelon_pcapng.specs.Readings.{cooked_in, front_by, packet_bytes}
use Rattle.seatmelon_pcapng.specs.declared.block.Found.{Found}
use Rattle.seatmelon_pcapng.proofs.CookedRecords.{length-packet, spelled-whole}
use Rattle.seatmelon_pcapng.proofs.Ways.{OnOk-then}
use Rattle.seatmelon_pcapng.proofs.classic.spell_frame.Goals as goal

pub returns-clause-held : goal.returns-clause-held
returns-clause-held c =
    let block = c.args.block.now in
    let found = c.args.found.now in
    let kind = c.args.kind in
    let packet = slice_range block found.start found.end in
    let rest : List ℕ = slice_range packet c.header_len.result (length packet) in
    let old = bytes_held c.args.held.now in
    let original : ℕ = c.saturating_sub.result in
    let start : ℕ = found.start + c.excess-2.result in
    let frame : Found = record found { original = original; start = start } in
    let is_original : original ≡ found.original - excess kind = c.saturating_sub.ensures ∙ ap (λ (n : ℕ). found.original - n) c.excess.ensures in
    let is_start : start ≡ found.start + excess kind = ap (λ (n : ℕ). found.start + n) c.excess-2.ensures in
    let there : header_length kind ≤ length packet = omega (arith, length-packet block found kind c.requires.within, c.requires.whole) in
    let first : length c.front_of.result ≡ 16 = ap length c.front_of.ensures in
    let second : length c.ethernet_header.result ≡ 14 = ap length c.ethernet_header.ensures ∙ length-frame_header kind packet there in
    let size : length c.write_record.new.buf ≡ 30 = c.write_record.ensures.len in
    let front : c.write_record.new.buf ≡ front_by frame ++ frame_header kind packet =
    sym (take_all (length c.front_of.result + length c.ethernet_header.result) c.write_record.new.buf (omega (arith, first, second, size)))
    ∙ c.write_record.ensures.written
    ∙ ap (λ (l : List ℕ). l ++ c.ethernet_header.result) c.front_of.ensures
    ∙ ap (λ (l : List ℕ). front_by frame ++ l) c.ethernet_header.ensures in
    let behind : length (drop c.header_len.result packet) ≡ length packet - c.header_len.result = length-drop c.header_len.result packet in
    let all : rest ≡ drop c.header_len.result packet = take_all (length packet - c.header_len.result) (drop c.header_len.result packet) (omega (arith, behind)) in
    let spells : c.write_record.new.buf ++ rest ≡ flat_map packet_bytes (cooked_in block found kind ∷ []) =
    ap (λ (l : List ℕ). l ++ rest) front ∙ ap (λ (l : List ℕ). (front_by frame ++ frame_header kind packet) ++ l) all
    ∙ ap (λ (n : ℕ). (front_by frame ++ frame_header kind packet) ++ drop n packet) c.header_len.ensures
    ∙ spelled-whole block found kind c.requires.within original start is_original c.requires.whole is_start in
    OnOk-then c.put.result (bytes_held c.put.new.self ≡ old ++ (c.write_record.new.buf ++ rest)) (bytes_held c.put.new.self ≡ old ++ flat_map packet_bytes (cooked_in block found kind ∷ []))
    c.put.ensures.held (λ e. e ∙ ap (λ (l : List ℕ). old ++ l) spells)
