use Rattle.std.proofs.Common.{◌∙◌, List, Option, ℕ, ap, map}
use Rattle.rasta_check.specs.Verdict.Listed.{listed_of}
use Rattle.rasta_check.specs.Verdict.Report.{explained}
use Rattle.seatmelon_suppose.specs.Filling.{captured_messages}
use Rattle.seatmelon_suppose.specs.declared.filling.Lists.{Lists}
use Rattle.seatmelon_suppose.proofs.Judging.{report-lists}
use Rattle.seatmelon_suppose.proofs.filling.checked.Goals as goal

pub returns : goal.returns
returns c =
    let origins = c.args.mended.now.origins.items in
    let e = c.in-Ok.ensures in
    let l : Lists = record { client = c.in_ok-captured_among.field-0; server = c.in_ok-captured_among-2.field-0 } in
    report-lists c.params-params.result c.args.mended.now.store origins c.args.certificate.now (explained c.in-Ok.report) l
    c.params-params.ensures.value e.verdict e.exact.1 e.headline
    (c.in_ok-captured_among.ensures ∙ ap (λ (from : List (Option ℕ)). captured_messages from (map listed_of c.as_slice.result.now)) c.deref.ensures.value
    ∙ ap (captured_messages origins) c.as_slice.ensures)
    (c.in_ok-captured_among-2.ensures ∙ ap (λ (from : List (Option ℕ)). captured_messages from (map listed_of c.as_slice-2.result.now)) c.deref-2.ensures.value
    ∙ ap (captured_messages origins) c.as_slice-2.ensures)
