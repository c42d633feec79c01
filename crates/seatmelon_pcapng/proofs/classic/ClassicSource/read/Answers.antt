use Rattle.std.proofs.Common.{[], take, subst}
use Rattle.rasta_pcap.specs.Noting.{NotesOn, given}
use Rattle.rasta_pcap.proofs.Noting.{NotesOn-then}
use Rattle.seatmelon_pcapng.specs.Giving.{noted_by}
use Rattle.seatmelon_pcapng.proofs.classic.ClassicSource.read.Goals as goal

pub returns-in-0-clause-noted : goal.returns-in-0-clause-noted
returns-in-0-clause-noted g c =
    let notes = noted_by g.S.Source.remaining g.S.Source.notes in
    NotesOn-then notes c.args.self.now c.fill.new.self c.give.new.self [] (given c.give.result c.give.new.buf)
    (subst (λ n. NotesOn notes c.args.self.now c.fill.new.self (take n c.fill.new.buf)) c.in-0.is c.fill.ensures.noted) c.give.ensures.noted
