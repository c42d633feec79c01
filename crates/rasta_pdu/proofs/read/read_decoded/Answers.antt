use Rattle.std.proofs.Common.{arith, ℕ, ◌≡◌, ◌-◌, ◌∙◌, sym, ap, Ok, slice_range}
use Rattle.rasta_pdu.specs.Lengths.{has_payload_length}
use Rattle.rasta_pdu.specs.Pdu.{RedundancyPdu, body_at, layout_of, kind_of, decode_of, pdu_with_body, value_of, code_at}
use Rattle.rasta_pdu.proofs.Spellings.{is_decoded, decode_of-Ok}
use Rattle.rasta_pdu.proofs.read.read_decoded.Goals as goal

pub codes_at-code_at-requires : goal.codes_at-code_at-requires
codes_at-code_at-requires c =
    (is_decoded c.args.params.now c.args.side c.args.bytes.now c.requires.decodes.0 c.requires.decodes.1).long

pub u16_at-requires : goal.u16_at-requires
u16_at-requires c =
    let d = is_decoded c.args.params.now c.args.side c.args.bytes.now c.requires.decodes.0 c.requires.decodes.1 in
    let long = d.long in omega arith

pub unreachable-requires : goal.unreachable-requires
unreachable-requires c =
    let d = is_decoded c.args.params.now c.args.side c.args.bytes.now c.requires.decodes.0 c.requires.decodes.1 in
    d.kind (sym (c.of.ensures ∙ ap kind_of c.u16_at.ensures) ∙ c.in_default.is)

pub view-requires-clause-fields : goal.view-requires-clause-fields
view-requires-clause-fields c =
    let d = is_decoded c.args.params.now c.args.side c.args.bytes.now c.requires.decodes.0 c.requires.decodes.1 in
    let long = d.long in omega arith

pub view-requires-clause-payload : goal.view-requires-clause-payload
view-requires-clause-payload c =
    let d = is_decoded c.args.params.now c.args.side c.args.bytes.now c.requires.decodes.0 c.requires.decodes.1 in
    ap (λ (n : ℕ). has_payload_length c.in-Some.kind (n - 36)) c.codes_at-code_at.ensures.code
    ∙ d.payload c.in-Some.kind (sym (c.of.ensures ∙ ap kind_of c.u16_at.ensures) ∙ c.in-Some.is)

pub view-requires-clause-short : goal.view-requires-clause-short
view-requires-clause-short c =
    let d = is_decoded c.args.params.now c.args.side c.args.bytes.now c.requires.decodes.0 c.requires.decodes.1 in
    let short = d.short (record { fits = λ i. omega (arith, c.type_inv.bytes i) }) in
    let check = c.codes_at-code_at.ensures.check in omega arith

value : (c : goal.After-view) → decode_of c.args.params.now c.args.side c.args.bytes.now ≡ Ok (value_of c.view.result)
value c =
    let d = is_decoded c.args.params.now c.args.side c.args.bytes.now c.requires.decodes.0 c.requires.decodes.1 in
    d.value c.in-Some.kind (sym (c.of.ensures ∙ ap kind_of c.u16_at.ensures) ∙ c.in-Some.is)
    ∙ ap (λ (n : ℕ). Ok (pdu_with_body c.in-Some.kind (body_at (layout_of c.in-Some.kind) (slice_range c.args.bytes.now 36 (code_at c.args.params.now c.args.bytes.now))) n c.args.bytes.now))
    (sym c.codes_at-code_at.ensures.check)
    ∙ ap (λ (n : ℕ). Ok (pdu_with_body c.in-Some.kind (body_at (layout_of c.in-Some.kind) (slice_range c.args.bytes.now 36 n)) c.codes_at-code_at.result.1 c.args.bytes.now))
    (sym c.codes_at-code_at.ensures.code)
    ∙ ap (λ (r : RedundancyPdu). Ok r) (sym c.view.ensures.value)

pub returns-clause-value : goal.returns-clause-value
returns-clause-value c = value c

pub returns-clause-spelled : goal.returns-clause-spelled
returns-clause-spelled c =
    let is = decode_of-Ok c.args.params.now c.args.side c.args.bytes.now (value_of c.view.result) c.codes_at-code_at.ensures.valid
    (record { fits = λ i. omega (arith, c.type_inv.bytes i) }) (value c) in
    (is.is, is.spelled)

pub returns-clause-code : goal.returns-clause-code
returns-clause-code c =
    let is = decode_of-Ok c.args.params.now c.args.side c.args.bytes.now (value_of c.view.result) c.codes_at-code_at.ensures.valid
    (record { fits = λ i. omega (arith, c.type_inv.bytes i) }) (value c) in
    c.view.ensures.code ∙ ap (λ (n : ℕ). slice_range c.args.bytes.now n c.codes_at-code_at.result.1) c.codes_at-code_at.ensures.code
    ∙ ap (λ (n : ℕ). slice_range c.args.bytes.now (code_at c.args.params.now c.args.bytes.now) n) c.codes_at-code_at.ensures.check ∙ is.code
