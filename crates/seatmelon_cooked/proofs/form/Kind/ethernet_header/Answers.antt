use Rattle.std.proofs.Common.{◌≡◌, ◌∙◌, ℕ, List, ap}
use borrow.Rule.Slice.PartMut.{put_mid}
use Rattle.seatmelon_cooked.specs.Frames.{protocol_in, sender_in}
use Rattle.seatmelon_cooked.proofs.FrameLengths.{header-made, length-sender_in, zeros}
use Rattle.seatmelon_cooked.proofs.form.Kind.ethernet_header.Goals as goal

pub returns : goal.returns
returns c =
    let kind = c.args.self in
    let packet = c.args.packet.now in
    let sender : c.copy_from_slice.new.self ≡ sender_in kind packet = c.copy_from_slice.ensures.after ∙ c.sender_in.ensures in
    let protocol : c.copy_from_slice-2.new.self ≡ protocol_in kind packet = c.copy_from_slice-2.ensures.after ∙ c.protocol_in.ensures in
    ap (λ (l : List ℕ). put_mid 12 2 (put_mid 6 6 zeros l) c.copy_from_slice-2.new.self) sender
    ∙ ap (λ (l : List ℕ). put_mid 12 2 (put_mid 6 6 zeros (sender_in kind packet)) l) protocol
    ∙ header-made (sender_in kind packet) (protocol_in kind packet) (length-sender_in kind packet c.requires)
