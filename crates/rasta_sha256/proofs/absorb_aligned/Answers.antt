use Rattle.std.proofs.Common.{◌≡◌, ℕ, ◌+◌, ◌-◌, ◌*◌, ◌/◌, length, take, drop, refl, ap, ◌∙◌, arith}
use Rattle.sha2.specs.Sha256.{hash_after}
use Rattle.rasta_sha256.proofs.Blocks.{hash_after-middle}
use Rattle.rasta_sha256.proofs.absorb_aligned.Goals as goal

pub groups-init : goal.groups-init
unfolding hash_after
groups-init c = refl

pub groups-preserved : goal.groups-preserved
groups-preserved c =
    let i : ℕ = c.groups.i in
    let size : 256 * i + 256 - 256 * i ≡ 256 = omega arith in
    let place : 256 * i ≡ i * 4 * 64 = omega arith in
    let group : take (256 * i + 256 - 256 * i) (drop (256 * i) c.args.bytes.now) ≡ take 256 (drop (i * 4 * 64) c.args.bytes.now) = (λ j. take (size j) (drop (place j) c.args.bytes.now)) in
    c.absorb_blocks.ensures
    ∙ hash_after-middle c.args.hash.now c.groups.hash c.args.bytes.now _ (i * 4) 4 256 (omega arith) (omega arith) group c.groups.invariant
    ∙ ap (hash_after c.args.hash.now c.args.bytes.now) (omega arith)

pub returns-clause-hash : goal.returns-clause-hash
returns-clause-hash c =
    let whole : c.groups.i ≡ length c.args.bytes.now / 256 = omega arith in
    rw whole at c.groups.invariant
