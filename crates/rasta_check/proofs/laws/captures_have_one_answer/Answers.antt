use Rattle.rasta_check.proofs.Capture.RefusedCaptures.{not_both, one_fault, some_answer}
use Rattle.rasta_check.proofs.laws.captures_have_one_answer.Goals as goal

pub returns-clause-some : goal.returns-clause-some
returns-clause-some c p file h are = some_answer p file h are

pub returns-clause-one : goal.returns-clause-one
returns-clause-one c p file f g h are a b = one_fault p file h are f g a b

pub returns-clause-not_both : goal.returns-clause-not_both
returns-clause-not_both c p file d s f h are a b = not_both p file h are d s f a b
