use Rattle.std.proofs.Common.{◌≡◌, refl, sym, ap, ◌∙◌, arith}
use Rattle.sha2.specs.Sha256.{compress, hash_after}
use Rattle.rasta_sha256.specs.Lanes.{block_at}
use Rattle.rasta_sha256.proofs.Blocks.{hash_after-more}
use Rattle.rasta_sha256.proofs.rounds.absorb_blocks.Goals as goal

pub each_block-init : goal.each_block-init
unfolding hash_after
each_block-init c = refl

pub each_block-preserved : goal.each_block-preserved
each_block-preserved c =
    c.compress.ensures c.args.group.now c.summed_schedules.ensures
    ∙ ap (λ hash. compress hash (block_at c.args.group.now c.each_block.lane)) c.each_block.invariant
    ∙ sym (hash_after-more c.args.hash.now c.args.group.now c.each_block.lane)

pub returns : goal.returns
returns c =
    let whole : c.each_block.lane ≡ c.args.count = omega arith in
    rw whole at c.each_block.invariant
