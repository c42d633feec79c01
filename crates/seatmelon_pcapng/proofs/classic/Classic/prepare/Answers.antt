use Rattle.std.proofs.Common.{◌∙◌}
use Rattle.std.proofs.KnownBytes.{Keeps-trans}
use Rattle.rasta_pcap.proofs.Noting.{PassesOn-then}
use Rattle.seatmelon_pcapng.specs.Classics.{remarks_left, source_of}
use Rattle.seatmelon_pcapng.proofs.Staying.{Stays-trans}
use Rattle.seatmelon_pcapng.proofs.classic.Classic.prepare.Goals as goal

pub returns-in_err-advance-in-Going-clause-passed : goal.returns-in_err-advance-in-Going-clause-passed
returns-in_err-advance-in-Going-clause-passed g c =
    PassesOn-then g.S.Source.remaining g.S.Source.notes _ (source_of c.loop.self) _ c.loop.invariant.passed c.advance.ensures.passed

pub loop-preserved : goal.loop-preserved
loop-preserved g c = record {
  left = Keeps-trans _ _ _ c.loop.invariant.left c.advance.ensures.left;
  failures = c.advance.ensures.failures ∙ c.loop.invariant.failures;
  remarks = Stays-trans _ (remarks_left g.S.Source.remaining c.loop.self) _ c.loop.invariant.remarks c.advance.ensures.remarks;
  passed = PassesOn-then g.S.Source.remaining g.S.Source.notes _ (source_of c.loop.self) _ c.loop.invariant.passed c.advance.ensures.passed;
}
