use Rattle.std.proofs.Common.{sym, subst, take, rules}
use Rattle.rasta_pcap.specs.declared.pcap.Endianness.{Endianness}
use Rattle.rasta_pcap.specs.Stream.{Opens}
use Rattle.rasta_pcap.proofs.Fronts.{opens, refuses_header}
use Rattle.rasta_pcap.proofs.stream.RecordReader.open.Goals as goal

pub returns-in_err-open-clause-err : goal.returns-in_err-open-clause-err
returns-in_err-open-clause-err g c =
    let refused = refuses_header (take c.in_ok-filled.filled c.fill.new.buf) c.in_err-open.field-0.0 _ _ c.in_ok-filled.ensures.filled (sym c.in_err-open.ensures) in
    search rules

pub returns-clause-opened : goal.returns-clause-opened
returns-clause-opened g c =
    let old = g.S.Source.remaining c.args.reader.now in
    let new = g.S.Source.remaining c.fill.new.reader in
    subst (λ (o : Endianness). Opens o old new) (sym c.order-order.ensures)
    (opens (take c.in_ok-filled.filled c.fill.new.buf) c.in_ok-open.field-0 old new c.in_ok-filled.ensures.filled (sym c.in_ok-open.ensures))
