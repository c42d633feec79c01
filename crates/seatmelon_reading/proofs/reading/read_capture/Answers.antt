use Rattle.std.proofs.Common.{◌≡◌, ◌∙◌, MutBor, [], ap, subst, sym}
use Rattle.seatmelon_pcapng.specs.Formats.{is_of_pcapng}
use Rattle.seatmelon_pcapng.specs.Peeked.{begins_pcapng}
use Rattle.seatmelon_pcapng.specs.declared.format.Format.{Format}
use Rattle.seatmelon_reading.specs.Opened.{IsOpened, left_behind, noted_behind}
use Rattle.seatmelon_reading.specs.Summing.{source_of, summed_by}
use Rattle.seatmelon_reading.specs.declared.summed.Summed.{Summed}
use Rattle.seatmelon_reading.proofs.Opened.{IfSome-then}
use Rattle.seatmelon_reading.proofs.Readings.{reading_made}
use Rattle.seatmelon_reading.proofs.reading.read_capture.Goals as goal

pub returns-clause-read : goal.returns-clause-read
returns-clause-read g c =
    let remaining = left_behind (λ (r : MutBor g.row.R.Denot). g.R.Source.remaining r.now) in
    let is = ap (λ (s : Summed (MutBor g.row.R.Denot)). g.R.Source.remaining (source_of s).now) c.new-2.ensures.source ∙ ap (λ (r : MutBor g.row.R.Denot). g.R.Source.remaining r.now) c.new.ensures.source in
    let none : noted_behind c.new-2.result [] = (c.new-2.ensures.kept, subst (λ s. summed_by s []) (sym c.new-2.ensures.source) c.new.ensures.summed) in
    let opened : IsOpened remaining noted_behind c.new-2.result c.in_ok-capture.capture =
    record { none = none; left = c.in_ok-capture.ensures.left; noted = c.in_ok-capture.ensures.noted } in
    let facts = c.in_ok-facts.ensures in
    let told = c.new-pass.ensures.untimed ∙ c.is_pcapng-is_pcapng.ensures ∙ ap (λ (f : Format). is_of_pcapng f) c.format.ensures in
    reading_made c.args.params.now c.args.without.now (g.R.Source.remaining c.args.reader.now) (remaining c.new-2.result) c.new-pass.result c.pass_file.new.pass c.finish.result
    c.in_ok-facts.facts.digest c.in_ok-facts.facts.header c.in_ok-facts.facts.format is
    c.new-pass.ensures.params c.new-pass.ensures.without c.new-pass.ensures.standing c.new-pass.ensures.noted c.new-pass.ensures.unjudged c.finish.ensures
    (IfSome-then _ (λ file. c.new-pass.result.notes.zero_is_no_time ≡ begins_pcapng file) (remaining c.new-2.result) (λ file begins. told ∙ begins) c.in_ok-capture.ensures.format)
    (facts.read c.new-2.result opened) (facts.summed c.new-2.result opened) (facts.header c.new-2.result opened) (facts.format c.new-2.result opened)
