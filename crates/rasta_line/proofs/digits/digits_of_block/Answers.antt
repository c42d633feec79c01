use Rattle.std.proofs.Common.{◌∙◌, arith}
use Rattle.rasta_line.proofs.Asked.{in_turn, in_turn-digits}
use Rattle.rasta_line.proofs.digits.digits_of_block.Goals as goal

pub returns : goal.returns
returns c = (λ i. in_turn (c.high_digits.ensures i) (c.low_digits.ensures i)) ∙ in_turn-digits c.args.block (omega arith)
