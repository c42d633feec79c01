use Rattle.std.proofs.lemmas.Grind.{common_steps}
use Rattle.std.proofs.Common.{arith}
use Rattle.seatmelon_packets.proofs.recognizer.check_length_in.Goals as goal

pub returns-then-rest-safety-2 : goal.returns-then-rest-safety-2
returns-then-rest-safety-2 c = grind (arith, common_steps)
