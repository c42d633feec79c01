use Rattle.std.proofs.Common.{sym}
use Rattle.rasta_pdu.specs.Pdu.{value_of}
use Rattle.seatmelon_account.proofs.Windows.{crossed_there}
use Rattle.seatmelon_account.proofs.middle.crossed_pdu.Goals as goal

pub returns : goal.returns
returns c =
    let w = c.in_ok-pdu.ensures.value in
    sym (crossed_there c.args.store.now c.args.place w.0 (value_of c.in_ok-pdu.pdu) c.in_ok-pdu.ensures.crossing w.1 w.3)
