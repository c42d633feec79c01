-- What a section describes of an interface.
use Rattle.std.specs.Prelude.{ℕ, zero, suc, ◌+◌, ◌*◌, ◌/◌, ◌-◌, ◌==◌, ◌||◌, List, [], ◌∷◌, length, take, drop}
use Rattle.std.specs.Prelude.{slice_range, nat_lt, Option, None, Some, if◌then◌else◌}
use Rattle.seatmelon_pcapng.specs.Orders.{field, number_in}
use Rattle.seatmelon_pcapng.specs.declared.interface.Interface.{Interface}
use Rattle.seatmelon_pcapng.specs.declared.order.Order.{Order}

-- bytes are filled up to a multiple of four
abbrev pub padded : ℕ → ℕ
padded n = (n + 3) / 4 * 4

-- the length that an option says
abbrev pub value_length : Order → List ℕ → ℕ
value_length order options = field order 2 2 options

-- the value of the first option of this code in a list of at most so many
unfoldable pub option_in : ℕ → Order → ℕ → List ℕ → Option (List ℕ)
option_in zero order code options = None
option_in (suc left) order code options =
    if nat_lt (length options) 4 then None
    else if field order 2 0 options == 0 || nat_lt (length options - 4) (value_length order options) then None
    else if field order 2 0 options == code then Some (take (value_length order options) (drop 4 options))
    else option_in left order code (drop (4 + padded (value_length order options)) options)

-- the value of the first option of this code; each has four bytes at least
abbrev pub option_of : Order → ℕ → List ℕ → Option (List ℕ)
option_of order code options = option_in (length options) order code options

-- by what a second is divided: 6 stands for microseconds
abbrev pub resolution_by : Option (List ℕ) → ℕ
resolution_by (Some (resolution ∷ [])) = resolution
resolution_by other = 6

-- the seconds that times begin at, as 64 bits
abbrev pub offset_by : Order → Option (List ℕ) → ℕ
offset_by order None = 0
offset_by order (Some value) = if length value == 8 then number_in order 8 value else 0

-- the options of an interface: they stand behind 16 bytes, before the length at the end
abbrev pub options_in : List ℕ → List ℕ
options_in block = slice_range block 16 (length block - 4)

abbrev pub interface_in : Order → List ℕ → Interface
interface_in order block = record {
  link_type = field order 2 8 block;
  snap_length = field order 4 12 block;
  resolution = resolution_by (option_of order 9 (options_in block));
  offset = offset_by order (option_of order 14 (options_in block));
}
