use Rattle.std.proofs.Common.{List, ℕ, ◌++◌, ◌+◌, arith, ap, ◌∙◌}
use Rattle.byteorder.specs.Endian.{little_bytes}
use Rattle.rasta_pdu.specs.Pdu.{redundancy_bytes, uncoded_bytes, code_over}
use Rattle.rasta_pdu.specs.Parts.{value_of_parts}
use Rattle.rasta_pdu.proofs.Writing.{appended}
use Rattle.rasta_pdu.proofs.write.append.Goals as goal

pub returns : goal.returns
unfolding redundancy_bytes
returns c =
    let parts = c.args.parts.now in
    let old : List ℕ = c.args.out.now.items in
    let front : ℕ → List ℕ = λ n. little_bytes 2 n ++ (little_bytes 2 parts.reserve ++ little_bytes 4 parts.number) in
    let u : List ℕ = uncoded_bytes c.args.params.now c.args.side (value_of_parts parts).safety in
    let k : List ℕ = parts.check_bytes.now in
    let from : ℕ = c.len-start.result + 8 in
    let size = c.args.out.now.ok.0 in
    let all = appended old (front c.args.len) u k from (code_over c.args.params.now) (omega (arith, size)) in
    record {
      items =
          rw (c.put.ensures.items, c.put_code.ensures.items, c.put_uncoded.ensures.items, c.put_redundancy_fields.ensures.items)
          (all ∙ ap (λ (n : ℕ). old ++ (front n ++ ((u ++ code_over c.args.params.now u) ++ k))) c.requires.len);
    }
