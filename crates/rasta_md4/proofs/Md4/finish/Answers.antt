use Rattle.std.proofs.Common.{◌≡◌, List, ℕ, ◌+◌, ◌%◌, ◌++◌, length, take, arith, ap, sym, ◌∙◌}
use Rattle.std.specs.Prelude.{fold}
use Rattle.std.specs.List.{flat_map}
use Rattle.byteorder.specs.Endian.{little_bytes}
use Rattle.rasta_md4.specs.Md4.{blocks, compress, padding}
use Rattle.rasta_md4.proofs.Padding.{length-padding}
use Rattle.rasta_md4.proofs.Pieces.{md4_is}
use Rattle.rasta_md4.proofs.Md4.finish.Goals as goal

pub returns : goal.returns
returns c = λ words message held.
    let n : ℕ = c.self.inside.count in
    let here = length-padding n in
    let there = length-padding (n % 64) in
    let len : c.tail_len.result ≡ n % 64 + length (padding n) = omega (arith, c.tail_len.ensures.len) in
    let tail : take c.tail_len.result c.tail_of-tail.result ≡ take (n % 64) c.self.inside.buffer ++ padding n =
    ap (λ (i : ℕ). take i c.tail_of-tail.result) len ∙ c.tail_of-tail.ensures in
    let registers = c.after_blocks-registers.ensures ∙ ap (λ (z : List ℕ). fold compress c.self.inside.registers (blocks z)) tail in
    c.digest_of.ensures ∙ ap (flat_map (little_bytes 4)) registers ∙ sym (md4_is words message _ (c.self.view_is ∙ held))
