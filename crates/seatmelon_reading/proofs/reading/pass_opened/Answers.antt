use Rattle.std.proofs.Common.{◌∙◌}
use Rattle.seatmelon_pcapng.specs.Formats.{capture_of}
use Rattle.seatmelon_pcapng.proofs.Passing.{IfSome-is}
use Rattle.seatmelon_pcapng.proofs.Through.{capture_left, file_noted, format_told}
use Rattle.seatmelon_reading.specs.Passing.{IsPassed}
use Rattle.seatmelon_reading.proofs.Opened.{IfSome-at}
use Rattle.seatmelon_reading.proofs.reading.pass_opened.Goals as goal

pub returns-clause-read : goal.returns-clause-read
returns-clause-read g c start opened =
    IfSome-is (λ file. IsPassed (capture_of file) c.args.pass.now c.pass_whole-passed.new.pass) (g.S.Source.remaining start) (λ file is.
    IfSome-at (λ l. IsPassed l c.args.pass.now c.pass_whole-passed.new.pass) _ (capture_of file)
    (capture_left g.S.Source.remaining g.S.Source.notes start c.args.capture c.in_ok-buffered.buffered
    c.in_ok-buffered.ensures.source c.in_ok-buffered.ensures.empty file is opened.left) c.in_default.ensures.read)

pub returns-clause-format : goal.returns-clause-format
returns-clause-format g c start opened = IfSome-is _ (g.S.Source.remaining start) (λ file is.
    c.format-format.ensures ∙ format_told g.S.Source.remaining g.S.Source.notes start c.args.capture c.in_ok-buffered.buffered
    c.in_ok-buffered.ensures.source c.in_ok-buffered.ensures.empty file is opened.noted opened.none
    c.pass_whole-passed.new.source c.pass_whole-passed.ensures.passed c.into_inner-capture.result c.into_inner-capture.ensures c.in_default.ensures.ended)

pub returns-clause-noted : goal.returns-clause-noted
returns-clause-noted g c start opened = IfSome-is _ (g.S.Source.remaining start) (λ file is.
    file_noted g.S.Source.remaining g.S.Source.notes start c.args.capture c.in_ok-buffered.buffered
    c.in_ok-buffered.ensures.source c.in_ok-buffered.ensures.empty file is opened.noted opened.none
    c.pass_whole-passed.new.source c.pass_whole-passed.ensures.passed c.into_inner-capture.result c.into_inner-capture.ensures
    c.into_inner-source.result c.drain.new.source c.into_inner-source.ensures c.drain.ensures.passed c.in_ok-drain.ensures.ended)
