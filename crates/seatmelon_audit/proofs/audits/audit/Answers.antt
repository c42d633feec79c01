use Rattle.std.proofs.Common.{◌∙◌, List, ap, length, refl, subst, sym}
use Rattle.std.proofs.lemmas.List.{length-map}
use Rattle.std.specs.List.{AllZip}
use Rattle.seatmelon_audit.specs.Audits.{IsConnectionOf}
use Rattle.seatmelon_audit.specs.declared.line.Line.{Line}
use Rattle.seatmelon_audit.proofs.Answering.{zip_count}
use Rattle.seatmelon_audit.proofs.Auditing.{audited}
use Rattle.seatmelon_audit.proofs.audits.audit.Goals as goal

pub returns-clause-count : goal.returns-clause-count
returns-clause-count g c =
    zip_count IsConnectionOf c.into_lines.result.items c.in_ok-connections.connections.items c.in_ok-connections.ensures ∙ ap length c.into_lines.ensures
    ∙ sym (length-map _ (λ (l : Line). l.params)) ∙ ap length c.in_ok-lines.ensures.params

pub returns-clause-audits : goal.returns-clause-audits
returns-clause-audits g c =
    audited c.args.params.now (g.R.Source.remaining c.args.reader.now) c.in_ok-lines.field-0 _
    (subst (λ (lines : List Line). AllZip IsConnectionOf lines c.in_ok-connections.connections.items) c.into_lines.ensures c.in_ok-connections.ensures)
    refl refl refl c.in_ok-lines.ensures.read
