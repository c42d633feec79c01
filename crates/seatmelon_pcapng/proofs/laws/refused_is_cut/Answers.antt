use Rattle.seatmelon_pcapng.proofs.Captures.{classic-is_refused}
use Rattle.seatmelon_pcapng.proofs.laws.refused_is_cut.Goals as goal

pub returns : goal.returns
returns c file refusal some few = classic-is_refused file refusal some few
