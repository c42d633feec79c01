-- What an explanation says of a capture.
use Rattle.std.specs.Prelude.{◌≡◌, ℕ, List, Option, option_map}
use Rattle.seatmelon_account.specs.declared.account.Inputs as given
use Rattle.seatmelon_account.specs.Account as accounts
use Rattle.seatmelon_account.specs.Outcomes.{IsFileExplained}
use Rattle.seatmelon_commands.specs.declared.explaining.Explaining.{Explaining}
use Rattle.seatmelon_commands.specs.declared.explaining.Inputs.{Inputs}

-- the text of the certificate, where one is named
abbrev pub certificate_in : Inputs → Option (List ℕ)
certificate_in inputs = option_map (λ text. text.items) inputs.certificate

-- the records of the file that stay, where it is known, have no fault, and what crossed by them is explained
abbrev pub IsCaptureExplained : Explaining → Inputs → Option (List ℕ) → Type 0
IsCaptureExplained explaining inputs file =
    IsFileExplained inputs.params explaining.without.items (certificate_in inputs) file

-- this stands beside a capture
pub record IsGivenFor (explaining : Explaining) (inputs : Inputs) (g : given.Inputs) : Type 0 where
  pub params : g.params.now ≡ inputs.params
  pub without : g.without.now ≡ explaining.without.items
  pub suppose : g.suppose ≡ explaining.suppose
  pub certificate : accounts.certificate_in g.texts ≡ certificate_in inputs
