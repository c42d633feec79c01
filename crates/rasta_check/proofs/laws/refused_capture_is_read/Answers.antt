use Rattle.rasta_check.proofs.Capture.RefusedCaptures.{is_refused, refused_is_read}
use Rattle.rasta_check.proofs.laws.refused_capture_is_read.Goals as goal

pub returns-clause-read : goal.returns-clause-read
returns-clause-read c p file f h are e = is_refused p file h are f e

pub returns-clause-only : goal.returns-clause-only
returns-clause-only c p file f h are is = refused_is_read p file h are f is
