use Rattle.std.proofs.Common.{◌≡◌, ◌++◌, List, Some, length, map, refl, slice_get, subst, take}
use Rattle.std.proofs.lemmas.Option.{slice_get_read}
use Rattle.seatmelon_reading.specs.Tapes.{taped_as}
use Rattle.seatmelon_reading.specs.declared.tape.Taped.{Taped}
use Rattle.seatmelon_account.specs.Middle.{packet_of_numbered}
use Rattle.seatmelon_account.proofs.Windows.{taken_next}
use Rattle.seatmelon_account.proofs.middle.shown_of.Goals as goal

pub loop-taped-preserved : goal.loop-taped-preserved
loop-taped-preserved c =
    let crossed = c.args.reading.now.store in
    let items = c.args.reading.now.unjudged.packets.items in
    let i = c.loop-taped.taped-index in
    let taped = c.taped-item.result in
    let read = c.deref-taped-items.result.now in
    let at = subst (λ (l : List Taped). slice_get l i ≡ Some taped) c.deref-taped-items.ensures.value
    (slice_get_read read (length read) i taped refl c.loop-taped-test.true c.taped-item.is) in
    taken_next crossed.params crossed.packets items i taped c.take_in.new.shown at
    (c.in_ok-take_in.ensures crossed.params (crossed.packets ++ map packet_of_numbered (map taped_as (take i items))) c.loop-taped.invariant)
