use Rattle.std.proofs.Common.{◌∙◌, ap, sym}
use Rattle.rasta_pdu.specs.Pdu.{decode_of, value_of}
use Rattle.seatmelon_account.proofs.Suppositions.{at_place, message_there, message_unread}
use Rattle.seatmelon_account.proofs.hypothesis.message_in.Goals as goal

pub returns-in-Ok : goal.returns-in-Ok
returns-in-Ok c =
    let p = c.args.params.now in
    let taped = c.in-Some.taped.now in
    let decodes = ap (decode_of p taped.sender) (sym c.deref.ensures.value) ∙ c.in-Ok.ensures.value in
    c.message_of.ensures ∙ sym (message_there p c.args.packets.now c.args.place c.args.index taped (value_of c.in-Ok.pdu) (at_place c.args.packets.now c.args.place taped _ c.in-Some.ensures.lookup.0 c.in-Some.ensures.lookup.1) decodes)

pub returns-in-Err : goal.returns-in-Err
returns-in-Err c =
    let p = c.args.params.now in
    let taped = c.in-Some.taped.now in
    let decodes = ap (decode_of p taped.sender) (sym c.deref.ensures.value) ∙ c.in-Err.ensures.value in
    sym (message_unread p c.args.packets.now c.args.place c.args.index taped c.in-Err.field-0 (at_place c.args.packets.now c.args.place taped _ c.in-Some.ensures.lookup.0 c.in-Some.ensures.lookup.1) decodes)
