use Rattle.std.proofs.Common.{rules}
use Rattle.seatmelon_packets.proofs.recognizer.Recognizer.features_of.Goals as goal

pub returns-then-is-clause-value : goal.returns-then-is-clause-value
returns-then-is-clause-value c = search rules
