use Rattle.std.proofs.Common.{arith, subst, sym}
use Rattle.std.proofs.lemmas.List.{take_all, take_more}
use Rattle.seatmelon_audit.specs.Ways.{KnowsChannels}
use Rattle.seatmelon_audit.proofs.Knowing.{one_more}
use Rattle.seatmelon_audit.proofs.ways.add_channels.Goals as goal

pub loop-channel-preserved : goal.loop-channel-preserved
loop-channel-preserved c =
    let added = c.in_ok-add_channel.ensures in record {
      added = subst (λ l. KnowsChannels c.add_channel.new.ways.items c.args.line l) (sym (take_more c.args.channels.now c.loop-channel.channel-index _ (omega (arith, c.loop-channel-test.true))))
          (one_more c.loop-channel.ways.items c.add_channel.new.ways.items c.args.line _ _ c.loop-channel.invariant.added added.kept added.added);
      kept = λ w h. added.kept w (c.loop-channel.invariant.kept w h);
    }

pub returns-clause-added : goal.returns-clause-added
returns-clause-added c =
    subst (λ l. KnowsChannels c.loop-channel.ways.items c.args.line l) (take_all c.loop-channel.channel-index c.args.channels.now (omega (arith, c.loop-channel-test.false)))
    c.loop-channel.invariant.added
