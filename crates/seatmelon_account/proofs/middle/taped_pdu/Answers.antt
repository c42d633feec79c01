use Rattle.std.proofs.Common.{◌∙◌, ap}
use Rattle.std.specs.Option.{option_map}
use Rattle.rasta_pdu.specs.Pdu.{value_of}
use Rattle.seatmelon_account.proofs.Suppositions.{at_place}
use Rattle.seatmelon_account.proofs.Windows.{taped_there}
use Rattle.seatmelon_account.proofs.middle.taped_pdu.Goals as goal

pub returns : goal.returns
returns c =
    let packets = c.args.packets.now in
    let taped = c.in_ok-taped.taped.now in
    let at = at_place packets c.args.place taped _ c.in_ok-taped.ensures.lookup.0 c.in_ok-taped.ensures.lookup.1 in
    ap (option_map value_of) c.ok.ensures.value
    ∙ taped_there c.args.params.now packets c.args.place taped c.deref.result.now c.decode.result at c.deref.ensures.value c.decode.ensures.value
