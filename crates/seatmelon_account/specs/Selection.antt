-- Which messages a text tells.
use Rattle.std.specs.Prelude.{ℕ, List, Option, None, Some, Bool, true, false, not, is_some, ◌&&◌, ◌||◌, nat_eq, nat_le}
use Rattle.std.specs.Prelude.{slice_get}
use Rattle.seatmelon_reading.specs.declared.notes.Sighting.{Sighting}
use Rattle.seatmelon_account.specs.declared.messages.Message.{Message}
use Rattle.seatmelon_account.specs.declared.selection.Selection.{Selection}

-- the packet that was seen there is that of this record
abbrev pub is_sighted_in : ℕ → Option Sighting → Bool
is_sighted_in number None = false
is_sighted_in number (Some sighting) = nat_eq sighting.«record» number

abbrev pub is_of_record : List Sighting → ℕ → ℕ → Bool
is_of_record packets place number = is_sighted_in number (slice_get packets place)

abbrev pub is_proved_in : List Sighting → Option ℕ → ℕ → Bool
is_proved_in packets None number = false
is_proved_in packets (Some place) number = is_of_record packets place number

-- the number lies within these, both included
abbrev pub is_within : Option (ℕ × ℕ) → ℕ → Bool
is_within None number = true
is_within (Some range) number = nat_le range.0 number && nat_le number range.1

-- data or proof is the packet of the record that is asked for, if one is
abbrev pub has_record : Option ℕ → List Sighting → Message → Bool
has_record None packets m = true
has_record (Some number) packets m = is_of_record packets m.data number || is_proved_in packets m.proof number

-- the message meets each condition
abbrev pub is_chosen : Selection → List Sighting → Message → Bool
is_chosen s packets m =
    is_within s.numbers m.number && (not (s.not_shown && is_some m.proof) && has_record s.of_record packets m)
