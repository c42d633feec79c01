use Rattle.std.proofs.Common.{◌≡◌, ◌∙◌, ◌+◌, ◌-◌, [], take, drop, ap, arith, refl, sym}
use Rattle.rasta_line.proofs.Asked.{digits-more}
use Rattle.rasta_line.proofs.Sending.{digits-none}
use Rattle.rasta_line.proofs.messages.put_blocks.Goals as goal

pub loop-at-init : goal.loop-at-init
loop-at-init c = (omega arith, sym (digits-none [] refl))

pub loop-at-preserved : goal.loop-at-preserved
loop-at-preserved c =
    let at = c.loop-at.at in
    let piece = c.args.piece.now in
    let sixteen : at + 16 - at ≡ 16 = omega arith in
    let block_is : c.copy_from_slice.new.self ≡ take 16 (drop at piece) = c.copy_from_slice.ensures.after ∙ ap (λ n. take n (drop at piece)) sixteen in
    let digits_are = c.copy_from_slice-in-loop-at.ensures.after ∙ c.digits_of_block.ensures in (
      omega arith,
      digits-more _ _ _ _ at _ (omega arith) (omega arith) c.loop-at.invariant.1 block_is digits_are (omega arith),
    )
