use Rattle.std.proofs.Common.{arith}
use Rattle.std.proofs.lemmas.List.{take_rest}
use Rattle.rasta_line.proofs.Asked.{digits-all}
use Rattle.rasta_line.proofs.messages.digits.Goals as goal

pub returns : goal.returns
returns c =
    digits-all c.args.piece.now _ _ _ c.put_blocks-at.result _ _ (omega arith) (omega arith) c.put_blocks-at.ensures.digits
    (take_rest c.args.piece.now c.put_blocks-at.result) c.put_digits.ensures (omega arith)
