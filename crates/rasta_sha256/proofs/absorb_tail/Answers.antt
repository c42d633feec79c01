use Rattle.std.proofs.Common.{◌-◌, refl, ap, ◌∙◌, arith}
use Rattle.sha2.specs.Sha256.{hash_after}
use Rattle.rasta_sha256.proofs.Blocks.{hash_after-front, hash_after-middle}
use Rattle.rasta_sha256.proofs.absorb_tail.Goals as goal

pub returns-then-count-le-GROUP_BLOCKS : goal.returns-then-count-le-GROUP_BLOCKS
returns-then-count-le-GROUP_BLOCKS c =
    c.absorb_blocks.ensures ∙ hash_after-front c.args.hash.now c.args.tail.now _ c.args.count 256 (omega arith) (omega arith) refl

pub returns-else-count-le-GROUP_BLOCKS : goal.returns-else-count-le-GROUP_BLOCKS
returns-else-count-le-GROUP_BLOCKS c =
    let first = c.absorb_blocks-else-count-le-GROUP_BLOCKS.ensures ∙ hash_after-front c.args.hash.now c.args.tail.now _ 4 256 (omega arith) (omega arith) refl in
    c.absorb_blocks-else-count-le-GROUP_BLOCKS-2.ensures
    ∙ hash_after-middle c.args.hash.now _ c.args.tail.now _ 4 (c.args.count - 4) 256 (omega arith) (omega arith) refl first
    ∙ ap (hash_after c.args.hash.now c.args.tail.now) (omega arith)
