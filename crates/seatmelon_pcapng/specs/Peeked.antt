-- A source whose first bytes were looked at.
use Rattle.std.specs.Prelude.{ℕ, List, ◌++◌, length, slice_range, Bool, ◌&&◌, nat_le, Option}
use Rattle.std.specs.Io.KnownBytes.{prepend_known}
use Rattle.seatmelon_pcapng.specs.Blocks.{is_section_header}
use Rattle.seatmelon_pcapng.specs.declared.peeked.Peeked.{Peeked}

-- the bytes that were looked at and not yet given
abbrev pub held_by : {S : Type 0} → Peeked S → List ℕ
held_by p = slice_range p.front p.start p.end

abbrev pub source_of : {S : Type 0} → Peeked S → S
source_of p = p.source

-- what it holds, and then what its source will give
abbrev pub left_in : {S : Type 0} → (S → Option (List ℕ)) → Peeked S → Option (List ℕ)
left_in remaining p = prepend_known (held_by p) (remaining (source_of p))

-- its source has noted what passed, and what it holds
abbrev pub noted_by : {S : Type 0} → (S → List ℕ → Type 0) → Peeked S → List ℕ → Type 0
noted_by notes p passed = notes (source_of p) (passed ++ held_by p)

-- whether a file that begins so seems to be one of pcapng
abbrev pub begins_pcapng : List ℕ → Bool
begins_pcapng bytes = nat_le 4 (length bytes) && is_section_header bytes
