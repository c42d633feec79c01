use Rattle.std.proofs.Common.{◌≡◌, List, ℕ, ◌+◌, ◌-◌, ◌*◌, ◌/◌, ◌%◌, ◌++◌, length, take, drop, arith, ap, sym, ◌∙◌}
use Rattle.std.specs.Prelude.{fold}
use Rattle.std.specs.List.{flat_map}
use Rattle.std.proofs.lemmas.List.{take_rest}
use Rattle.byteorder.specs.Endian.{little_bytes}
use Rattle.rasta_md4.specs.Md4.{blocks, compress, padding}
use Rattle.rasta_md4.specs.Progress.{past_blocks}
use Rattle.rasta_md4.proofs.Padding.{length-padding}
use Rattle.rasta_md4.proofs.Pieces.{md4_whole}
use Rattle.rasta_md4.proofs.digest.Goals as goal

pub returns : goal.returns
returns c =
    let m : List ℕ = c.args.message.now in
    let n : ℕ = length m in
    let here = length-padding n in
    let there = length-padding (n % 64) in
    let len : c.tail_len.result ≡ n % 64 + length (padding n) = omega (arith, c.tail_len.ensures.len) in
    let place : n - n % 64 ≡ n / 64 * 64 = omega arith in
    let waiting : take (n - (n - n % 64)) (drop (n - n % 64) m) ≡ past_blocks m = take_rest m (n - n % 64) ∙ ap (λ (i : ℕ). drop i m) place in
    let tail : take c.tail_len.result c.tail_of-tail.result ≡ past_blocks m ++ padding n =
    ap (λ (i : ℕ). take i c.tail_of-tail.result) len ∙ c.tail_of-tail.ensures ∙ ap (λ (z : List ℕ). z ++ padding n) waiting in
    let registers = c.after_blocks-registers.ensures ∙ ap (λ (z : List ℕ). fold compress c.after_blocks-whole.result (blocks z)) tail
    ∙ ap (λ (r : List ℕ). fold compress r (blocks (past_blocks m ++ padding n))) c.after_blocks-whole.ensures in
    c.digest_of.ensures ∙ ap (flat_map (little_bytes 4)) registers ∙ sym (md4_whole c.args.words m)
