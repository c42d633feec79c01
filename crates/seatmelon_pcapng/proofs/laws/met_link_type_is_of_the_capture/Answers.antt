use Rattle.seatmelon_pcapng.proofs.Formats.{capture-other}
use Rattle.seatmelon_pcapng.proofs.laws.met_link_type_is_of_the_capture.Goals as goal

pub returns : goal.returns
returns g c classic file given = capture-other g.S.Source.remaining g.S.Source.notes classic file given
