use Rattle.std.proofs.Common.{take}
use Rattle.std.specs.List.{Contains}
use Rattle.seatmelon_audit.specs.Ways.{KnowsChannels}
use Rattle.seatmelon_audit.specs.declared.ways.Way.{Way}
use Rattle.seatmelon_audit.proofs.ways.add_channels.Given as goal

-- the channels up to there were added
abbrev pub invariant-loop-channel : goal.invariant-loop-channel
invariant-loop-channel l = record {
  added : KnowsChannels l.ways.items l.line (take l.channel-index l.channels);
  kept : (w : Way) → Contains l.fn.ways.items w → Contains l.ways.items w;
}
