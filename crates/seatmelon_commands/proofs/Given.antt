-- What stands beside a capture that is explained.
use Rattle.std.proofs.Common.{ℕ, List, Option, subst}
use Rattle.rasta_pdu.specs.Params.{Parameters}
use Rattle.seatmelon_account.specs.declared.account.Inputs as given
use Rattle.seatmelon_commands.specs.Explained.{IsCaptureExplained, IsGivenFor, certificate_in}
use Rattle.seatmelon_commands.specs.declared.explaining.Explaining.{Explaining}
use Rattle.seatmelon_commands.specs.declared.explaining.Inputs.{Inputs}
use Rattle.seatmelon_account.specs.Account as accounts
use Rattle.seatmelon_account.specs.Outcomes.{IsFileExplained}

-- what is explained by what stands beside a capture is explained of the capture
pub explained_given : (explaining : Explaining) (inputs : Inputs) (g : given.Inputs) (file : Option (List ℕ)) → IsGivenFor explaining inputs g
    → IsFileExplained g.params.now g.without.now (accounts.certificate_in g.texts) file → IsCaptureExplained explaining inputs file
explained_given explaining inputs g file beside is_explained =
    subst (λ (p : Parameters). IsFileExplained p explaining.without.items (certificate_in inputs) file) beside.params
    (subst (λ (without : List ℕ). IsFileExplained g.params.now without (certificate_in inputs) file) beside.without
    (subst (λ (text : Option (List ℕ)). IsFileExplained g.params.now g.without.now text file) beside.certificate is_explained))
