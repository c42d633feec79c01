-- Which packets of a capture are listed.
use Rattle.std.specs.Prelude.{◌≡◌, List, Option, None, Some, option_map}
use Rattle.rasta_pdu.specs.declared.kind.Kind.{Kind}
use Rattle.seatmelon_show.specs.declared.choice.Choice.{Choice}
use Rattle.seatmelon_show.specs.declared.choice.Types.{Types}
use Rattle.seatmelon_show.specs.declared.choice.Types.TheVariants.{All, Of}
use Rattle.seatmelon_commands.specs.declared.showing.Showing.{Showing}

-- the types that are asked for; none where all are
abbrev pub kinds_of : Types → Option (List Kind)
kinds_of All = None
kinds_of (Of kinds) = Some kinds.now

-- this chooses what is asked for
pub record IsChoiceOf (showing : Showing) (c : Choice) : Type 0 where
  pub types : kinds_of c.types ≡ option_map (λ kinds. kinds.items) showing.kinds
  pub first : c.first_record ≡ showing.first_record
  pub last : c.last_record ≡ showing.last_record
