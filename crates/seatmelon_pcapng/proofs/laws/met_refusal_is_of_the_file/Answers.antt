use Rattle.seatmelon_pcapng.proofs.Gives.{gives-refused}
use Rattle.seatmelon_pcapng.proofs.laws.met_refusal_is_of_the_file.Goals as goal

pub returns : goal.returns
returns g c classic file given refusal = gives-refused g.S.Source.remaining g.S.Source.notes classic file given refusal
