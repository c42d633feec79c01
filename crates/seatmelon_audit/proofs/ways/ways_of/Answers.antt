use Rattle.std.proofs.Common.{◌≡◌, arith, refl, subst, Some}
use Rattle.std.proofs.lemmas.Option.{slice_get_read, slice_get_within}
use Rattle.std.specs.Prelude.{slice_get}
use Rattle.seatmelon_audit.specs.Ways.{KnowsChannels}
use Rattle.seatmelon_audit.proofs.Knowing.{all_more}
use Rattle.seatmelon_audit.proofs.ways.ways_of.Goals as goal

pub loop-line-preserved : goal.loop-line-preserved
loop-line-preserved c =
    let here : slice_get c.args.params.now c.loop-line.line ≡ Some c.index-params-line.result =
    slice_get_read c.args.params.now _ c.loop-line.line c.index-params-line.result refl (omega (arith, c.loop-line-test.true)) c.index-params-line.is in
    let added = c.in_ok-add_channels.ensures in
    all_more c.loop-line.ways.items c.add_channels.new.ways.items c.args.params.now c.loop-line.line c.index-params-line.result c.loop-line.invariant added.kept
    (subst (λ l. KnowsChannels c.add_channels.new.ways.items c.loop-line.line l) c.channel.ensures.value added.added) here

pub returns : goal.returns
returns c line p is =
    let inside = slice_get_within c.args.params.now line p is in
    c.loop-line.invariant line p (omega (arith, inside, c.loop-line-test.false)) is
