use Rattle.std.proofs.Common.{◌≡◌, List, ℕ, ◌+◌, ◌-◌, ◌%◌, ◌++◌, length, take, drop, arith, ap, sym, ◌∙◌, length-append, length-drop}
use Rattle.std.proofs.lemmas.List.{length-take-le, take_rest}
use Rattle.rasta_sha256.specs.Progress.{after_groups}
use Rattle.rasta_sha256.proofs.Pieces.{after_groups_filled, after_groups_short, past_groups_filled, put_mid-end}
use borrow.Rule.Slice.PartMut.{put_mid}
use Rattle.rasta_sha256.proofs.absorb.Goals as goal

pub returns-then-bytes-room-clause-hash : goal.returns-then-bytes-room-clause-hash
returns-then-bytes-room-clause-hash c =
    let waiting : length (take c.args.used c.args.buffer.now) ≡ c.args.used = length-take-le c.args.used c.args.buffer.now (omega arith) in
    let all = length-append (take c.args.used c.args.buffer.now) c.args.bytes.now in
    sym (after_groups_short c.args.hash.now (take c.args.used c.args.buffer.now ++ c.args.bytes.now) (omega arith))

-- the buffer begins with what waited, and what fills it
module _ (c : goal.After-absorb_aligned-2) where
  abbrev n : ℕ
  n = 256 - c.args.used

  abbrev waited : List ℕ
  waited = take c.args.used c.args.buffer.now

  abbrev filled : List ℕ
  filled = put_mid c.args.used n c.args.buffer.now c.copy_from_slice-2.new.self

  size : length waited ≡ c.args.used
  size = length-take-le c.args.used c.args.buffer.now (omega arith)

  full : filled ≡ waited ++ take n c.args.bytes.now
  full =
      put_mid-end c.args.buffer.now c.copy_from_slice-2.new.self c.args.used n (let l = size in omega arith)
      ∙ ap (λ (z : List ℕ). waited ++ z) c.copy_from_slice-2.ensures.after

  rest : take (length c.args.bytes.now - n) (drop n c.args.bytes.now) ≡ drop n c.args.bytes.now
  rest = take_rest c.args.bytes.now n

pub returns-clause-hash : goal.returns-clause-hash
returns-clause-hash c =
    let l = size c in
    (rw (rest c) at c.absorb_aligned-2.ensures.hash) ∙ ap (λ (h : List ℕ). after_groups h (drop (n c) c.args.bytes.now)) c.absorb_blocks.ensures
    ∙ after_groups_filled (waited c) c.args.bytes.now (filled c) (n c) (full c) (omega arith) (omega arith) c.args.hash.now

pub returns-clause-waiting : goal.returns-clause-waiting
returns-clause-waiting c =
    let l = size c in
    let left : (c.args.used + length c.args.bytes.now) % 256 ≡ length (drop (n c) c.args.bytes.now) % 256 = omega (arith, length-drop (n c) c.args.bytes.now) in
    ap (λ (i : ℕ). take i c.absorb_aligned-2.new.buffer) left ∙ (rw (rest c) at c.absorb_aligned-2.ensures.waiting)
    ∙ past_groups_filled (waited c) c.args.bytes.now (filled c) (n c) (full c) (omega arith) (omega arith)
