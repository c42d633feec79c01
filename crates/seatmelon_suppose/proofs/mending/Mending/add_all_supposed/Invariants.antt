use Rattle.std.proofs.Common.{map, take}
use Rattle.seatmelon_reading.specs.Tapes.{taped_as}
use Rattle.seatmelon_suppose.specs.Mending.{Takes, no_place, supposed_at}
use Rattle.seatmelon_suppose.specs.Spelling.{packet_supposed}
use Rattle.seatmelon_suppose.proofs.mending.Mending.add_all_supposed.Given as goal

-- what is supposed at the place was taken in, up to there
abbrev pub invariant-loop-one : goal.invariant-loop-one
invariant-loop-one l =
    Takes l.fn.self l.self (map (packet_supposed l.params (map taped_as l.packets) l.number) (supposed_at (take l.one-index l.supposed) l.place))
    (map no_place (supposed_at (take l.one-index l.supposed) l.place))
