-- What is known of a file over which a capture was opened.
use Rattle.std.proofs.Common.{◌≡◌, ℕ, List, Option, None, Some, Result, OnOk, IfSome, subst}
use Rattle.rasta_pcap.proofs.Sending.{where_succeeded}

-- what follows from what holds of a file that is known
pub IfSome-then : (P Q : List ℕ → Type 0) (input : Option (List ℕ)) → ((file : List ℕ) → P file → Q file) → IfSome input P → IfSome input Q
IfSome-then P Q None step h = tt
IfSome-then P Q (Some file) step h = step file h

-- what holds of it holds where a later call succeeds
pub IfSome-on_ok : {A E : Type 0} (P : List ℕ → Type 0) (input : Option (List ℕ)) (r : Result A E) → IfSome input P → IfSome input (λ file. OnOk r (P file))
IfSome-on_ok P input r h = IfSome-then P (λ file. OnOk r (P file)) input (λ file p. where_succeeded r p) h

-- what holds of the one that is known
pub IfSome-at : (P : List ℕ → Type 0) (input : Option (List ℕ)) (file : List ℕ) → input ≡ Some file → IfSome input P → P file
IfSome-at P input file is h = subst (λ o. IfSome o P) is h
