use Rattle.rasta_check.specs.Capture.Building.{crossed_in}
use Rattle.rasta_pcap.proofs.Sending.{where_succeeded}
use Rattle.seatmelon_reading.proofs.Told.{ended_still, none_of}
use Rattle.seatmelon_reading.proofs.Unjudged.{unjudged_still}
use Rattle.seatmelon_reading.proofs.pass.Pass.add_fault.Goals as goal

pub returns-then-fault-last_record-clause-still : goal.returns-then-fault-last_record-clause-still
returns-then-fault-last_record-clause-still c =
    ended_still c.refuse.result c.args.self.now c.refuse.new.self c.args.fault c.args.frame.now (none_of c.args.self.now.refusal c.is_none.result c.is_none.ensures c.if-is_none.true) c.refuse.ensures.made c.refuse.ensures.kept

pub returns-then-fault-last_record-clause-unjudged : goal.returns-then-fault-last_record-clause-unjudged
returns-then-fault-last_record-clause-unjudged c =
    let pass = c.args.self.now in
    let refused = c.refuse.new.self in
    where_succeeded c.refuse.result (λ records h.
    unjudged_still pass.params pass.without.now records (crossed_in pass.builder) (crossed_in refused.builder) pass.unjudged refused.unjudged c.refuse.ensures.behind.0 c.refuse.ensures.behind.1 h)
