-- Bytes in memory that is kept.
use Rattle.std.specs.Prelude.{ℕ, ◌-◌, List, drop, slice_range, vec_len}
use Rattle.seatmelon_pcapng.specs.declared.memory.Blocks.{Blocks}
use Rattle.seatmelon_pcapng.specs.declared.memory.Held.{Held}

-- what was read and not yet passed
abbrev pub bytes_of : Blocks → List ℕ
bytes_of b = slice_range b.memory.items b.start b.end

-- how many bytes it has room for
abbrev pub room_of : Blocks → ℕ
room_of b = vec_len b.memory - b.start

-- what is to be given
abbrev pub bytes_held : Held → List ℕ
bytes_held h = drop h.start h.memory.items
