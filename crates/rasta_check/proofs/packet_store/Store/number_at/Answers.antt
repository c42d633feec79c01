use Rattle.std.proofs.Common.{sym, arith}
use Rattle.rasta_check.proofs.Capture.Crossings.{number_spelled}
use Rattle.rasta_check.proofs.Internals.StoreLists.{kept_at}
use Rattle.rasta_check.proofs.packet_store.Store.number_at.Goals as goal

pub returns-clause-value : goal.returns-clause-value
returns-clause-value c =
    let s = c.self.inside in
    let w = kept_at s.params s.datagrams s.packets.items c.self.invariant c.args.side c.args.position _ (sym c.in_ok-bytes.ensures) in
    grind (arith, number_spelled)
