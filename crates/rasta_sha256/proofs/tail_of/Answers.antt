use Rattle.std.proofs.Common.{◌-◌, ◌*◌, ◌∙◌, arith}
use Rattle.rasta_sha256.proofs.Padding.{padded_tail}
use Rattle.rasta_sha256.proofs.tail_of.Goals as goal

pub returns : goal.returns
returns c =
    let len = rw c.requires at c.tail_blocks-end.ensures.len in
    padded_tail c.args.waiting.now c.copy_from_slice.new.self c.copy_from_slice-2.new.self c.args.count (c.tail_blocks-end.result * 64 - 8) _ c.requires
    (omega (arith, len, c.tail_blocks-end.ensures.low)) c.copy_from_slice.ensures.after (c.copy_from_slice-2.ensures.after ∙ c.to_be_bytes.ensures)
