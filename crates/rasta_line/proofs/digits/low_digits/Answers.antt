use Rattle.std.proofs.Common.{◌%◌, arith, bit_and}
use Rattle.std.proofs.lemmas.Nat.{and_mask}
use Rattle.rasta_line.proofs.Asked.{answered, is_asked}
use Rattle.rasta_line.proofs.digits.low_digits.Goals as goal

pub swizzle : goal.swizzle
swizzle c = is_asked bit_and 15 (λ x. x % 16) (λ x. and_mask x 4) c.args.bytes c.fits-bytes.0 (λ k l. omega arith)

pub returns : goal.returns
returns c = answered bit_and 15 (λ x. x % 16) (λ x. and_mask x 4) c.args.bytes c.fits-bytes.0 (λ k l. omega arith)
