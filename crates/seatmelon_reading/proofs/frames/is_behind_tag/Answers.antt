use Rattle.std.proofs.Common.{◌∙◌, ap, sym}
use Rattle.std.proofs.lemmas.List.{take_rest}
use Rattle.rasta_udp.specs.Frame.{packet_in}
use Rattle.seatmelon_reading.specs.PassedOver.{is_of_channels}
use Rattle.seatmelon_reading.proofs.Alike.{behind_tag}
use Rattle.seatmelon_reading.proofs.frames.is_behind_tag.Goals as goal

pub returns-then-has_outer_tag : goal.returns-then-has_outer_tag
returns-then-has_outer_tag c =
    let f = c.args.frame.now in
    let channels = c.args.channels.now in
    let outer = sym c.has_outer_tag.ensures ∙ c.if-has_outer_tag.true in
    c.is_of_channels.ensures ∙ ap (λ l. is_of_channels (packet_in channels l)) (take_rest f 4) ∙ sym (behind_tag channels f outer)
