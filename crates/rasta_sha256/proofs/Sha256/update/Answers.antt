use Rattle.std.proofs.Common.{◌≡◌, ◌+◌, ◌%◌, ◌^◌, length, arith, ◌∙◌}
use Rattle.rasta_sha256.proofs.Pieces.{holding_more}
use Rattle.rasta_sha256.proofs.Sha256.update.Goals as goal

pub returns : goal.returns
returns c = λ message held.
    let left : (c.self.inside.count + length c.args.bytes.now) % 2 ^ 64 % 256 ≡ (c.self.inside.count % 256 + length c.args.bytes.now) % 256 = omega arith in
    rw (c.absorb.ensures.hash, left, c.absorb.ensures.waiting)
    (holding_more message c.args.bytes.now _ (c.self.view_is ∙ held))
