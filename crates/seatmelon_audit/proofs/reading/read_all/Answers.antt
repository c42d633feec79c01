use Rattle.std.proofs.Common.{◌∙◌, MutBor, refl}
use Rattle.seatmelon_audit.proofs.Readings.{file_read, left_known}
use Rattle.seatmelon_audit.proofs.reading.read_all.Goals as goal

pub returns-clause-read : goal.returns-clause-read
returns-clause-read g c =
    let begun = c.in_ok-lines.ensures in
    let source = c.in_ok-source.ensures in
    file_read (g.R.Source.remaining c.args.reader.now) _ c.args.params.now _ c.walk.new.visitor
    (left_known (λ (s : MutBor g.row.R.Denot). g.R.Source.remaining s.now) c.in_ok-source.source _ source.source source.empty)
    (record { lines = begun.lines; params = refl; known = begun.known; count = refl; others = refl; none = refl })
    (c.in_ok-walk.ensures.same ∙ begun.params) c.in_ok-walk.ensures.seen
