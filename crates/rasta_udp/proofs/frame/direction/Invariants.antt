use Rattle.std.proofs.Common.{◌≡◌, ◌+◌, drop}
use Rattle.rasta_udp.specs.Frame.{fields_of, goes, direction_of}
use Rattle.rasta_udp.proofs.Directions.{direction_from}
use Rattle.rasta_udp.proofs.frame.direction.Given as goal

abbrev pub invariant-loop-i : goal.invariant-loop-i
invariant-loop-i l =
    direction_from (goes (fields_of l.frame)) (l.i + 1) (drop l.i l.channels) ≡ direction_of l.channels (fields_of l.frame)
