use Rattle.seatmelon_pcapng.proofs.Formats.{capture-told}
use Rattle.seatmelon_pcapng.proofs.laws.told_capture_is_noted.Goals as goal

pub returns : goal.returns
returns g c classic file given = capture-told g.S.Source.remaining g.S.Source.notes classic file given
