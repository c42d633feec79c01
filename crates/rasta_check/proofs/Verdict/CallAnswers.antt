-- What one answer of a call says, said of another.
use Rattle.std.proofs.Common.{arith, ◌≡◌, Result, MatchResult, IfOk, OnOk, IfErr, IsErr, IsErrAnd}

pub on_ok : {A B : Type 0} (r : Result A B) (P : A → Type 0) (R : B → Type 0) (T : Type 0) → MatchResult r P R → ((x : A) → P x → T) → OnOk r T
on_ok r P R T h k = grind arith

pub where_err : {A B : Type 0} (r : Result A B) (P : A → Type 0) (R S : B → Type 0) → MatchResult r P R → ((f : B) → R f → S f) → IfErr r S
where_err r P R S h k = grind arith

pub if_ok : {A B : Type 0} (r : Result A B) (P Q : A → Type 0) → IfOk r P → ((x : A) → P x → Q x) → IfOk r Q
if_ok r P Q h k = grind arith

-- a `?` hands this fault on
pub err_is : {A B : Type 0} (r : Result A B) (S : B → Type 0) (fault : B) → IsErr r × IsErrAnd r (λ f. f ≡ fault) → S fault → IfErr r S
err_is r S fault h s = grind arith

pub err_match : {A B : Type 0} (r : Result A B) (P : A → Type 0) (S : B → Type 0) (fault : B) → IsErr r × IsErrAnd r (λ f. f ≡ fault) → S fault → MatchResult r P S
err_match r P S fault h s = grind arith
