use Rattle.std.proofs.Common.{◌≡◌, ◌*◌}
use Rattle.sha2.specs.Sha256.{hash_after}
use Rattle.rasta_sha256.proofs.absorb_aligned.Given as goal

-- the groups so far are worked off
abbrev pub invariant-groups : goal.invariant-groups
invariant-groups l = l.hash ≡ hash_after l.fn.hash l.bytes (l.i * 4)
