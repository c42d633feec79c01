use Rattle.seatmelon_pcapng.proofs.Captures.{classic-is_capture}
use Rattle.seatmelon_pcapng.proofs.laws.converted_is_capture.Goals as goal

pub returns : goal.returns
returns c file none few = classic-is_capture file none few
