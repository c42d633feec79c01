use Rattle.std.proofs.Common.{◌≡◌, arith, ap, ◌∙◌}
use Rattle.rasta_md4.specs.Md4.{block_at, compress}
use Rattle.rasta_md4.proofs.Blocks.{block_at_is}
use Rattle.rasta_md4.proofs.Steps.{compress_is}
use Rattle.rasta_md4.proofs.rounds.compress.Goals as goal

pub returns : goal.returns
returns c =
    let block : c.read_u32_into.new.dst ≡ block_at c.args.bytes.now 0 =
    block_at_is c.args.bytes.now c.read_u32_into.new.dst c.read_u32_into.auto.dst (λ k low. c.read_u32_into.ensures k (omega arith)) in
    compress_is c.read_u32_into.new.dst c.args.registers.now _ _ _ c.round_1-after.ensures c.round_2-after.ensures c.round_3-after.ensures
    ∙ ap (compress c.args.registers.now) block
