use Rattle.rasta_pcap.proofs.Noting.{PassesOn-then}
use Rattle.rasta_pcap.proofs.Walks.{capture_read, capture_refused, no_failure}
use Rattle.rasta_pcap.proofs.walk.walk.Goals as goal

pub returns-in-Ok-clause-seen : goal.returns-in-Ok-clause-seen
returns-in-Ok-clause-seen g c =
    let opened = c.in-Ok.ensures in
    capture_read g.V.Visitor.seen g.V.Visitor.ended c.args.most (g.S.Source.remaining c.args.source.now) (g.S.Source.remaining c.open.new.reader) c.in-Ok.records c.walk_records.result c.args.visitor.now
    c.walk_records.new.visitor opened.opened opened.unit opened.start.0 c.walk_records.ensures.seen

pub returns-in-Ok-clause-passed : goal.returns-in-Ok-clause-passed
returns-in-Ok-clause-passed g c =
    PassesOn-then g.S.Source.remaining g.S.Source.notes _ c.open.new.reader c.walk_records.new.source c.in-Ok.ensures.passed c.walk_records.ensures.passed

pub returns-in-Err-2-clause-seen : goal.returns-in-Err-2-clause-seen
returns-in-Err-2-clause-seen g c =
    let told = no_failure c.in-Err.fault c.is_failure.result c.is_failure.ensures c.if-is_failure.false in
    capture_refused g.V.Visitor.seen g.V.Visitor.ended c.args.most (g.S.Source.remaining c.args.source.now) (g.S.Source.remaining c.open.new.reader) c.in-Err.fault _ _ _ c.end.result c.args.visitor.now
    c.end.new.self c.in-Err.ensures.err told.1 c.end.ensures.ended
