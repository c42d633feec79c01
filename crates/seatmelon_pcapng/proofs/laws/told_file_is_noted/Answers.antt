use Rattle.seatmelon_pcapng.proofs.Gives.{gives-told}
use Rattle.seatmelon_pcapng.proofs.laws.told_file_is_noted.Goals as goal

pub returns : goal.returns
returns g c classic file given = gives-told g.S.Source.remaining g.S.Source.notes classic file given
