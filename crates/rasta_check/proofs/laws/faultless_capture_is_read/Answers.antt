use Rattle.std.proofs.Common.{refl}
use Rattle.rasta_check.proofs.Capture.FaultlessCaptures.{read_is_faultless, faultless_is_read}
use Rattle.rasta_check.proofs.laws.faultless_capture_is_read.Goals as goal

pub returns-clause-read : goal.returns-clause-read
returns-clause-read c p file k h are e = read_is_faultless p file k h are e

pub returns-clause-only : goal.returns-clause-only
returns-clause-only c p file client server h are is = (_, faultless_is_read p file client server h are is, refl, refl)
