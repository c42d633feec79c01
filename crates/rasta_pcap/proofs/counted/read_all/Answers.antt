use Rattle.std.proofs.Common.{Result, Ok, Err, OnErr, take}
use Rattle.std.proofs.KnownBytes.{Consumes-trans}
use Rattle.rasta_pcap.proofs.counted.read_all.Goals as goal

-- a `?` that hands an error on
where_failed : {A E : Type 0} (r : Result A E) (P : Type 0) → P → OnErr r P
where_failed (Ok x) P p = tt
where_failed (Err e) P p = p

pub returns-in_err-extend_from_slice-clause-begun : goal.returns-in_err-extend_from_slice-clause-begun
returns-in_err-extend_from_slice-clause-begun g c = where_failed c.from_residual.result _ (
  _,
  Consumes-trans (g.S.Source.remaining c.args.reader.now) (g.S.Source.remaining c.loop.reader)
      (g.S.Source.remaining c.read.new.self) c.loop.bytes.items (take c.in-Ok.n c.read.new.buf)
      c.loop.invariant.0 c.in-Ok.ensures.bytes.0,
)

pub returns-in_default-clause-end : goal.returns-in_default-clause-end
returns-in_default-clause-end g c = tt

pub returns-in_default-clause-steady : goal.returns-in_default-clause-steady
returns-in_default-clause-steady g c = tt
