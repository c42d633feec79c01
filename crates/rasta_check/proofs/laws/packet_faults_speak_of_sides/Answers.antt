use Rattle.rasta_check.proofs.Capture.FaultNumbers.{file_names_side}
use Rattle.rasta_check.proofs.laws.packet_faults_speak_of_sides.Goals as goal

pub returns : goal.returns
returns c p file f e = file_names_side p file f e
