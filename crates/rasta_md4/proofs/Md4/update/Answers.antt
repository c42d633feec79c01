use Rattle.std.proofs.Common.{◌≡◌, ◌+◌, ◌%◌, ◌^◌, length, arith, ◌∙◌}
use Rattle.rasta_md4.proofs.Pieces.{holding_more}
use Rattle.rasta_md4.proofs.Md4.update.Goals as goal

pub returns : goal.returns
returns c = λ words message held.
    let left : (c.self.inside.count + length c.args.bytes.now) % 2 ^ 64 % 64 ≡ (c.self.inside.count % 64 + length c.args.bytes.now) % 64 = omega arith in
    rw (c.absorb-self-inside.ensures.registers, left, c.absorb-self-inside.ensures.waiting)
    (holding_more words message c.args.bytes.now _ (c.self.view_is ∙ held))
