-- A source through a buffer.
use Rattle.std.specs.Prelude.{List, ℕ, ◌++◌, Option, slice_range}
use Rattle.std.specs.Io.KnownBytes.{prepend_known}
use Rattle.rasta_pcap.specs.declared.buffered.Buffered.{Buffered}
use Rattle.rasta_pcap.specs.declared.buffered.Held.{Held}

-- the bytes that were read and not yet given
abbrev pub bytes_held : Held → List ℕ
bytes_held h = slice_range h.memory.items h.start h.end

abbrev pub held_by : {S : Type 0} → Buffered S → List ℕ
held_by b = bytes_held b.held

abbrev pub source_of : {S : Type 0} → Buffered S → S
source_of b = b.source

-- what it holds, and then what its source will give
abbrev pub left_in : {S : Type 0} → (S → Option (List ℕ)) → Buffered S → Option (List ℕ)
left_in remaining b = prepend_known (held_by b) (remaining (source_of b))

-- its source has noted what passed, and what it holds
abbrev pub noted_by : {S : Type 0} → (S → List ℕ → Type 0) → Buffered S → List ℕ → Type 0
noted_by notes b passed = notes (source_of b) (passed ++ held_by b)
