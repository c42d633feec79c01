use Rattle.std.proofs.Common.{arith, sym}
use Rattle.rasta_check.specs.Capture.Lists.{copy_of}
use Rattle.seatmelon_middle.proofs.Courses.{latest_there}
use Rattle.seatmelon_middle.proofs.course.Latest.among.Goals as goal

pub returns : goal.returns
returns c =
    latest_there c.args.copies.now c.in_ok-last.last (copy_of (c.in_ok-pdu.field-0-0, c.in_ok-pdu.pdu)) c.of.result
    (omega (arith, c.len.ensures.value, c.in_ok-last.ensures)) (sym c.in_ok-pdu.ensures.value) c.of.ensures
