use Rattle.seatmelon_pcapng.proofs.Formats.{capture-refused}
use Rattle.seatmelon_pcapng.proofs.laws.met_refusal_is_of_the_capture.Goals as goal

pub returns : goal.returns
returns g c classic file given = capture-refused g.S.Source.remaining g.S.Source.notes classic file given
