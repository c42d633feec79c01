use Rattle.std.proofs.Common.{◌≡◌, List, ℕ, ◌+◌, ◌*◌, ◌%◌, ◌++◌, length, take, arith, ap, ◌∙◌, length-append}
use Rattle.std.proofs.lemmas.List.{length-take-le}
use Rattle.sha2.specs.Sha256.{digest_bytes, padding}
use Rattle.rasta_sha256.proofs.Digests.{sha256_is}
use Rattle.rasta_sha256.proofs.Padding.{length-padding}
use Rattle.rasta_sha256.proofs.Sha256.finish.Goals as goal

pub returns : goal.returns
returns c = λ message held.
    let n : ℕ = c.self.inside.count in
    let here = length-padding n in
    let there = length-padding (n % 256) in
    let waiting : List ℕ = take (n % 256) c.self.inside.buffer in
    let len : c.tail_blocks.result * 64 ≡ n % 256 + length (padding n) = omega (arith, c.tail_blocks.ensures.len) in
    let both : length (waiting ++ padding n) ≡ n % 256 + length (padding n) =
    length-append waiting (padding n) ∙ ap (λ (i : ℕ). i + length (padding n)) (length-take-le (n % 256) c.self.inside.buffer (omega arith)) in
    let tail : take (c.tail_blocks.result * 64) c.tail_of-tail.result ≡ waiting ++ padding n =
    ap (λ (i : ℕ). take i c.tail_of-tail.result) len ∙ c.tail_of-tail.ensures in
    c.digest_of.ensures ∙ ap (λ (h : List ℕ). digest_bytes h 8) c.absorb_tail.ensures
    ∙ sha256_is message c.tail_of-tail.result _ c.tail_blocks.result (c.self.view_is ∙ held) (omega (arith, both)) (omega (arith, c.tail_blocks.ensures.high)) tail
