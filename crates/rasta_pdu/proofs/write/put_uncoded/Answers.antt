use Rattle.std.proofs.Common.{List, ℕ, ◌++◌, ap, ◌∙◌}
use Rattle.byteorder.specs.Endian.{little_bytes}
use Rattle.rasta_pdu.specs.Pdu.{receiver_of, sender_of, type_of, payload_of}
use Rattle.rasta_pdu.specs.Parts.{parts_body}
use Rattle.rasta_pdu.proofs.Writing.{after_old}
use Rattle.rasta_pdu.proofs.write.put_uncoded.Goals as goal

pub returns-clause-items : goal.returns-clause-items
returns-clause-items c =
    let parts = c.args.parts.now in
    let p = c.args.params.now in
    let old : List ℕ = c.args.out.now.items in
    let b : List ℕ = payload_of (parts_body parts.body) in
    let ids : ℕ → List ℕ = λ n. little_bytes 2 n ++ (little_bytes 2 (type_of parts.kind)
    ++ (little_bytes 4 (receiver_of p c.args.side) ++ little_bytes 4 (sender_of p c.args.side))) in
    let stamps : List ℕ = little_bytes 4 parts.sn ++ (little_bytes 4 parts.cs ++ (little_bytes 4 parts.ts ++ little_bytes 4 parts.cts)) in
    rw (c.put_body.ensures.items, c.put_stamps.ensures.items, c.put_ids.ensures.items)
    (after_old old (ids c.args.len) stamps b ∙ ap (λ (n : ℕ). old ++ (ids n ++ (stamps ++ b))) c.requires.len)
