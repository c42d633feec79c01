use Rattle.std.proofs.Common.{◌≡◌, map}
use Rattle.std.specs.Prelude.{fold}
use Rattle.std.specs.List.{range_with_len}
use Rattle.rasta_md4.specs.Md4.{block_at, compress}
use Rattle.rasta_md4.proofs.rounds.after_blocks.Given as goal

-- the blocks so far are worked off
abbrev pub invariant-each_block : goal.invariant-each_block
invariant-each_block l = l.after ≡ fold compress l.fn.registers (map (block_at l.bytes) (range_with_len 0 l.i))
