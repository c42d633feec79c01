-- Why a run gave up, and what it had written by then.
use Rattle.std.proofs.Common.{◌≡◌, refl, ◌⊎◌, inl, inr, List, ℕ, Option, Result, Ok, Err, IfErr, IfOk, OnErr}
use Rattle.rasta_pcap.specs.declared.fault.Fault.{Fault}
use Rattle.rasta_params.specs.Keys.{ReadsParameters}
use Rattle.rasta_commands.specs.declared.forms.Form.{Form}
use Rattle.rasta_commands.specs.declared.forms.Form.TheVariants.{Show, Build, Check, Audit}
use Rattle.rasta_commands.specs.Forms.{Devices, GivesUp, IsReadFault, ReadsWhole, StaysSilent, parameters_refused, parameters_unread}

-- what is said of a fault, and what was begun, together
pub if_err : {A B : Type 0} {P Q : Fault → Type 0} (r : Result A Fault) → ((f : Fault) → P f → B → Q f) → IfErr r P → OnErr r B → IfErr r Q
if_err (Ok a) h p b = tt
if_err (Err f) h p b = h f p b

-- what is said of an answer, in other words
pub if_ok : {A : Type 0} {P Q : A → Type 0} (r : Result A Fault) → ((a : A) → P a → Q a) → IfOk r P → IfOk r Q
if_ok (Ok a) h p = h a p
if_ok (Err f) h p = tt

-- the parameters weren't read, or are refused, and nothing else was touched
pub of_parameters : (form : Form) (old new : Devices) (f : Fault) → new.certificate ≡ old.certificate → new.capture ≡ old.capture → new.output ≡ old.output
    → IsReadFault f old.parameter_failures new.parameter_failures
    ⊎ ((text : List ℕ) × ReadsWhole old.parameters new.parameters text × ReadsParameters text (Err f))
    → GivesUp form old new f
of_parameters form old new f a b c (inl h) = parameters_unread h a b c
of_parameters form old new f a b c (inr z) = parameters_refused z.0 z.1 z.2 a b c

-- a form whose output wasn't touched stayed silent
pub untouched : (form : Form) (f : Fault) (output : Option (List ℕ)) → StaysSilent form f output output
untouched (Show a b) f output = tt
untouched (Build a b) f output = inr refl
untouched (Check a b c) f output = inr refl
untouched (Audit a b) f output = inr refl
