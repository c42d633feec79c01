use Rattle.std.proofs.Common.{◌∙◌, ap, cond, sym}
use Rattle.std.proofs.lemmas.List.{take_rest}
use Rattle.rasta_udp.specs.Frame.{fields_of, without_tag}
use Rattle.seatmelon_reading.specs.PassedOver.{is_udp}
use Rattle.seatmelon_reading.proofs.Alike.{udp_without}
use Rattle.seatmelon_reading.proofs.frames.holds_udp.Goals as goal

pub returns-then-is_tagged : goal.returns-then-is_tagged
returns-then-is_tagged c =
    let f = c.args.frame.now in
    let tagged = sym c.is_tagged.ensures ∙ c.if-is_tagged.true in
    c.is_udp.ensures ∙ ap (λ l. is_udp (fields_of l)) (take_rest f 4) ∙ ap is_udp (sym (udp_without f tagged))
    ∙ ap (λ b. is_udp (fields_of (cond b (without_tag f) f))) (sym tagged)
