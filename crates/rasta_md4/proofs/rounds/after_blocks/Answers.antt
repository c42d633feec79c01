use Rattle.std.proofs.Common.{◌≡◌, List, ℕ, ◌+◌, ◌-◌, ◌*◌, ◌/◌, length, take, drop, arith, ap, refl, ◌∙◌}
use Rattle.rasta_md4.specs.Md4.{block_at, blocks, compress}
use Rattle.rasta_md4.proofs.Blocks.{fold-blocks_more}
use Rattle.rasta_md4.proofs.rounds.after_blocks.Goals as goal

pub each_block-preserved : goal.each_block-preserved
each_block-preserved c =
    let i : ℕ = c.each_block.i in
    let block : List ℕ = take (64 * i + 64 - 64 * i) (drop (64 * i) c.args.bytes.now) in
    let width : 64 * i + 64 - 64 * i ≡ 64 = omega arith in
    c.compress.ensures ∙ ap (λ (r : List ℕ). compress r (block_at block 0)) c.each_block.invariant
    ∙ fold-blocks_more c.args.registers c.args.bytes.now block i (rw width refl) (omega arith)

pub returns : goal.returns
unfolding blocks
returns c =
    let whole : c.each_block.i ≡ length c.args.bytes.now / 64 = omega arith in
    rw whole at c.each_block.invariant
