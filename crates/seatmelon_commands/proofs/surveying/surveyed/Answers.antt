use Rattle.std.proofs.Common.{◌∙◌, [], IfSome, Option, ap, subst, sym}
use Rattle.seatmelon_capture.specs.declared.header.FileHeader.{FileHeader}
use Rattle.seatmelon_pcapng.specs.declared.format.Format.{Format}
use Rattle.seatmelon_survey.specs.Survey.{format_of_survey, header_of}
use Rattle.seatmelon_commands.specs.Formats.{FormatFits}
use Rattle.seatmelon_commands.specs.Headers.{IsHeaderOf}
use Rattle.seatmelon_commands.proofs.Kept.{format_read, header_read}
use Rattle.seatmelon_commands.proofs.surveying.surveyed.Goals as goal

pub returns-in-Ok-clause-header : goal.returns-in-Ok-clause-header
returns-in-Ok-clause-header g c =
    let reader = c.in_ok-reader in
    subst (λ (h : Option FileHeader). IfSome (g.S.Source.remaining c.args.source) (λ file. g.S.Source.notes c.args.source [] → IsHeaderOf file h))
    (sym (ap header_of c.set_header.ensures))
    (header_read g.S.Source.remaining g.S.Source.notes c.args.source c.new.result c.new.ensures.source c.new.ensures.kept c.in_ok-capture.capture c.in_ok-capture.ensures.noted
    reader.reader c.survey-outcome.new.reader reader.ensures.source reader.ensures.empty c.survey-outcome.ensures.passed c.into_inner-capture.result c.into_inner-capture.ensures
    c.into_inner.result c.into_inner.ensures c.header-header.result c.header-header.ensures)

pub returns-in-Ok-clause-format : goal.returns-in-Ok-clause-format
returns-in-Ok-clause-format g c =
    let reader = c.in_ok-reader in
    subst (λ (f : Format). IfSome (g.S.Source.remaining c.args.source) (λ file. g.S.Source.notes c.args.source [] → FormatFits file f))
    (sym (ap format_of_survey c.set_header.ensures ∙ ap format_of_survey c.set_format.ensures ∙ c.format.ensures))
    (format_read g.S.Source.remaining g.S.Source.notes c.args.source c.new.result c.new.ensures.source c.new.ensures.kept c.in_ok-capture.capture c.in_ok-capture.ensures.noted
    reader.reader c.survey-outcome.new.reader reader.ensures.source reader.ensures.empty c.survey-outcome.ensures.passed c.into_inner-capture.result c.into_inner-capture.ensures)

pub returns-in-Err-clause-refused : goal.returns-in-Err-clause-refused
returns-in-Err-clause-refused g c =
    let reader = c.in_ok-reader in
    header_read g.S.Source.remaining g.S.Source.notes c.args.source c.new.result c.new.ensures.source c.new.ensures.kept c.in_ok-capture.capture c.in_ok-capture.ensures.noted
    reader.reader c.survey-outcome.new.reader reader.ensures.source reader.ensures.empty c.survey-outcome.ensures.passed c.into_inner-capture.result c.into_inner-capture.ensures
    c.into_inner-in-Err.result c.into_inner-in-Err.ensures c.header-header-in-Err.result c.header-header-in-Err.ensures
