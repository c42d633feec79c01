use Rattle.seatmelon_pcapng.proofs.Gives.{gives-ended}
use Rattle.seatmelon_pcapng.proofs.laws.refusal_is_of_the_file.Goals as goal

pub returns : goal.returns
returns g c classic file given = gives-ended g.S.Source.remaining g.S.Source.notes classic file given
