use Rattle.std.proofs.Common.{◌∙◌, List, ℕ, ap, refl, take}
use Rattle.seatmelon_account.specs.Differences.{differing}
use Rattle.seatmelon_account.proofs.trouble.first_copy.Goals as goal

pub returns-in-Some : goal.returns-in-Some
returns-in-Some c = (
  c.in-Some.beside,
  c.in-Some.is,
  refl,
  c.deref.ensures.value,
  c.differences.ensures ∙ ap (λ (l : List ℕ). take 16 (differing 0 c.args.datagram.now l)) c.deref-in-Some.ensures.value,
)
