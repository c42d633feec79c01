use Rattle.std.proofs.Common.{arith}
use Rattle.seatmelon_pcapng.specs.Peeked.{held_by}
use Rattle.seatmelon_pcapng.proofs.Looking.{none_held, read_behind}
use Rattle.seatmelon_pcapng.proofs.peeked.PeekedSource.read.Goals as goal

pub returns-clause-bytes : goal.returns-clause-bytes
returns-clause-bytes g c =
    let old = c.args.self.now in
    read_behind (held_by old) (g.S.Source.remaining old.source) (g.S.Source.remaining c.read.new.self) c.read.result c.read.new.buf
    (none_held old.front old.start old.end (omega arith)) c.read.ensures.bytes
