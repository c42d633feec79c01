use Rattle.std.proofs.Common.{◌-◌, arith}
use Rattle.rasta_md4.proofs.Padding.{padded_tail}
use Rattle.rasta_md4.proofs.tail_of.Goals as goal

pub returns : goal.returns
returns c =
    let len = rw c.requires at c.tail_len-field.ensures.len in
    padded_tail c.args.waiting.now c.copy_from_slice.new.self c.write_u64.new.buf _ c.args.count (c.tail_len-field.result - 8) _ c.requires
    (omega (arith, len, c.tail_len-field.ensures.low)) c.copy_from_slice.ensures.after c.write_u64.ensures
