use Rattle.seatmelon_pcapng.proofs.Formats.{capture-ended}
use Rattle.seatmelon_pcapng.proofs.laws.format_is_of_the_file.Goals as goal

pub returns : goal.returns
returns g c classic file given = capture-ended g.S.Source.remaining g.S.Source.notes classic file given
