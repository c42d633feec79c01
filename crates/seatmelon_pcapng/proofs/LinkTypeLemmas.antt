-- The first link types of what is read in turn.
use Rattle.std.proofs.Common.{◌≡◌, ◌∙◌, ℕ, Option, None, Some, ap, refl}
use Rattle.std.specs.Option.{option_or}
use Rattle.seatmelon_pcapng.specs.LinkTypes.{first_of, no_link_types}
use Rattle.seatmelon_pcapng.specs.declared.link_types.LinkTypes.{LinkTypes}

option_or-none : (o : Option ℕ) → o ≡ option_or o None
option_or-none None = refl
option_or-none (Some link_type) = refl

option_or-assoc : (a b c : Option ℕ) → option_or (option_or a b) c ≡ option_or a (option_or b c)
option_or-assoc None b c = refl
option_or-assoc (Some link_type) b c = refl

abbrev both : Option ℕ → Option ℕ → LinkTypes
both other cooked = record { other = other; cooked = cooked }

same : (a b c d : Option ℕ) → a ≡ b → c ≡ d → both a c ≡ both b d
same a b c d e f = ap (λ (o : Option ℕ). both o c) e ∙ ap (both b) f

-- behind them none was met
pub first_of-none : (met : LinkTypes) → met ≡ first_of met no_link_types
first_of-none met = same met.other _ met.cooked _ (option_or-none met.other) (option_or-none met.cooked)

pub first_of-assoc : (a b c : LinkTypes) → first_of (first_of a b) c ≡ first_of a (first_of b c)
first_of-assoc a b c = same _ _ _ _ (option_or-assoc a.other b.other c.other) (option_or-assoc a.cooked b.cooked c.cooked)
