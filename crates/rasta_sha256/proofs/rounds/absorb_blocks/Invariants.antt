use Rattle.std.proofs.Common.{◌≡◌}
use Rattle.sha2.specs.Sha256.{hash_after}
use Rattle.rasta_sha256.proofs.rounds.absorb_blocks.Given as goal

abbrev pub invariant-each_block : goal.invariant-each_block
invariant-each_block l = l.hash ≡ hash_after l.fn.hash l.group l.lane
