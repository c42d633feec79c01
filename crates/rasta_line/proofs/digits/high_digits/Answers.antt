use Rattle.std.proofs.Common.{◌≡◌, ℕ, ◌/◌, ◌^◌, ◌<◌, List, length, get_or, refl, arith, w8, Fits}
use Rattle.std.specs.Simd.Lanes.{Each1}
use Rattle.std.proofs.lemmas.Simd.{Each1-get_or}
use Rattle.rasta_line.proofs.Asked.{answered, is_asked}
use Rattle.rasta_line.proofs.digits.high_digits.Goals as goal

small : (xs : List ℕ) → length xs ≡ 16 → Each1 (Fits w8) xs → (k : ℕ) → k < 16 → get_or xs k 0 / 16 < 16
small xs long fits k l = omega (arith, (Each1-get_or (Fits w8) xs k 0 (omega arith) fits).fits)

pub swizzle : goal.swizzle
swizzle c = is_asked (λ a b. a / 2 ^ b) 4 (λ x. x / 16) (λ x. refl) c.args.bytes c.fits-bytes.0 (small c.args.bytes c.fits-bytes.0 c.fits-bytes.1)

pub returns : goal.returns
returns c = answered (λ a b. a / 2 ^ b) 4 (λ x. x / 16) (λ x. refl) c.args.bytes c.fits-bytes.0 (small c.args.bytes c.fits-bytes.0 c.fits-bytes.1)
