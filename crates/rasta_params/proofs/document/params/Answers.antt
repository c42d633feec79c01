use Rattle.std.proofs.Common.{Err, ap}
use Rattle.toml.specs.View.{table_view}
use Rattle.rasta_params.proofs.Documents.{ReadsParameters-read, ReadsParameters-refused, document_of-read, document_of-refused}
use Rattle.rasta_params.proofs.document.params.Goals as goal

pub returns-in-Ok : goal.returns-in-Ok
returns-in-Ok c =
    ReadsParameters-read c.args.text.now (table_view c.in-Ok.table) c.read_parameters.result
    (document_of-read c.args.text.now (table_view c.in-Ok.table) c.in-Ok.ensures.ok.0 c.in-Ok.ensures.ok.1) c.read_parameters.ensures

pub returns-in-Err-2 : goal.returns-in-Err-2
returns-in-Err-2 c =
    ReadsParameters-refused c.args.text.now _
    (document_of-refused c.args.text.now (c.in-Err.ensures.refused (λ memory. let yes = c.is_memory.ensures.1 memory in absurd (cc (yes, c.if-is_memory.false)))))
    (ap Err c.at.ensures)
