use Rattle.std.proofs.Common.{◌∙◌, ◌&&◌, ◌||◌, ap, sym}
use Rattle.std.proofs.lemmas.List.{take_rest}
use Rattle.rasta_udp.specs.Frame.{without_tag}
use Rattle.seatmelon_reading.specs.PassedOver.{is_behind_tag}
use Rattle.seatmelon_reading.proofs.Alike.{behind_second}
use Rattle.seatmelon_reading.proofs.frames.is_behind_tags.Goals as goal

pub returns-else-is_behind_tag : goal.returns-else-is_behind_tag
returns-else-is_behind_tag c =
    let f = c.args.frame.now in
    let channels = c.args.channels.now in
    let outer = sym c.has_outer_tag.ensures ∙ c.if-has_outer_tag.true in
    let not_first = sym c.is_behind_tag.ensures ∙ c.if-is_behind_tag.false in
    c.is_behind_tag-else-is_behind_tag.ensures ∙ ap (is_behind_tag channels) (take_rest f 4) ∙ sym (behind_second channels f outer)
    ∙ ap (λ b. b || is_behind_tag channels (without_tag f)) (sym not_first)
    ∙ ap (λ b. b && (is_behind_tag channels f || is_behind_tag channels (without_tag f))) (sym outer)
