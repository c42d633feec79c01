-- Parts of texts as the code holds them.
use Rattle.std.specs.Borrow.{Bor}
use Rattle.std.specs.Prelude.{ℕ, List, map}
use Rattle.rasta_params.specs.Endpoints as texts
use Rattle.rasta_params.specs.declared.endpoint.Four.{Four}

abbrev pub four_texts : Four → texts.Four
four_texts f = record { first = f.first.now; second = f.second.now; third = f.third.now; fourth = f.fourth.now }

-- the texts of some `&str`
abbrev pub texts_of : List (Bor (List ℕ)) → List (List ℕ)
texts_of names = map (λ (name : Bor (List ℕ)). name.now) names
