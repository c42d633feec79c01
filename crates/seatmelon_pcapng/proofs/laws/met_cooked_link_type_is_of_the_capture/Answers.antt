use Rattle.seatmelon_pcapng.proofs.Formats.{capture-cooked}
use Rattle.seatmelon_pcapng.proofs.laws.met_cooked_link_type_is_of_the_capture.Goals as goal

pub returns : goal.returns
returns g c classic file given = capture-cooked g.S.Source.remaining g.S.Source.notes classic file given
