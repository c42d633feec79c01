use Rattle.std.proofs.Common.{flat_map, take}
use Rattle.seatmelon_account.specs.Middle.{AreToldSo, data_told, packets_in}
use Rattle.seatmelon_account.proofs.middle.messages_of.Given as goal

-- the messages of the units up to there were told
abbrev pub invariant-loop-unit : goal.invariant-loop-unit
invariant-loop-unit l =
    AreToldSo (flat_map (data_told l.reading.store.params (packets_in l.reading)) (take l.unit-index l.units)) l.messages.items
