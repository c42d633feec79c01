-- Which packets are listed.
use Rattle.std.specs.Prelude.{◌&&◌, nat_le, Bool, true, false, Option, Some, None}
use Rattle.std.specs.List.{list_any}
use Rattle.rasta_pdu.specs.declared.kind.Kind.{Kind}
use Rattle.rasta_pdu.specs.Pdu.{is_kind}
use Rattle.seatmelon_show.specs.declared.choice.Choice.{Choice}
use Rattle.seatmelon_show.specs.declared.choice.Types.{Types}
use Rattle.seatmelon_show.specs.declared.choice.Types.TheVariants.{All, Of}
use Rattle.seatmelon_show.specs.Sighted.{Seen}
use Rattle.seatmelon_show.specs.Typed.{kind_seen}

-- a packet of this type, or of none, is of these types
abbrev pub is_of_types : Types → Option Kind → Bool
is_of_types All kind = true
is_of_types (Of kinds) (Some kind) = list_any (λ wanted. is_kind wanted kind) kinds.now
is_of_types (Of kinds) None = false

-- a packet is one of those that are listed
abbrev pub is_chosen : Choice → Seen → Bool
is_chosen c s = (nat_le c.first_record s.number && nat_le s.number c.last_record) && is_of_types c.types (kind_seen s)
