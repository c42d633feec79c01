use Rattle.std.proofs.Common.{refl}
use Rattle.rasta_check.proofs.Capture.DefiniteFaults.{is_definite}
use Rattle.rasta_check.proofs.laws.refused_packets_are_impossible.Goals as goal

pub returns-clause-packets : goal.returns-clause-packets
returns-clause-packets c p file f h are e is = (is_definite p file f h are e is).impossible

pub returns-clause-records : goal.returns-clause-records
returns-clause-records c p file f h are e is = (let w = is_definite p file f h are e is in (_, w.capture, w.count, refl))
