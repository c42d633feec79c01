-- How far a capture was read: within one record, or up to the record with a number and no further.
use Rattle.std.specs.Prelude.{◌≡◌, ℕ, ◌+◌, ◌<◌, ◌≤◌, ◌⊎◌, List, [], ◌++◌, length, take, Option}
use Rattle.std.specs.List.{flat_map, AllByRecursion}
use Rattle.std.specs.Io.KnownBytes.{Consumes}
use Rattle.rasta_pcap.specs.declared.pcap.Endianness.{Endianness}
use Rattle.rasta_pcap.specs.Capture.{RecordEntry, IsEntry, IsHeader, captured_length, entry_bytes}

-- the first bytes of a record: its header says how many follow it, and these are no more
abbrev pub IsWithinRecord : Endianness → List ℕ → Type 0
IsWithinRecord order part = length part ≤ 16 + captured_length order (take 16 part)

-- some bytes of one record were read, and nothing after it
abbrev pub ReadsWithinRecord : Endianness → Option (List ℕ) → Option (List ℕ) → Type 0
ReadsWithinRecord order old new = (part : List ℕ) × Consumes old new part × IsWithinRecord order part

-- the first bytes of a capture, and nothing after the record with this number: some of the header, or
-- the header, some records, and then bytes of the next, none where it has a greater number
pub data IsUpToRecord (limit : ℕ) (bytes : List ℕ) : Type 0 where
  in_header : length bytes ≤ 24 → IsUpToRecord limit bytes
  in_records : (order : Endianness) (header : List ℕ) (entries : List RecordEntry) (part : List ℕ)
      → IsHeader order header → AllByRecursion (IsEntry order) entries → IsWithinRecord order part
      → bytes ≡ header ++ (flat_map entry_bytes entries ++ part)
      → length entries ≤ limit → (part ≡ []) ⊎ (length entries < limit)
      → IsUpToRecord limit bytes

-- nothing was read after the record with this number
abbrev pub ReadsUpToRecord : ℕ → Option (List ℕ) → Option (List ℕ) → Type 0
ReadsUpToRecord limit old new = (bytes : List ℕ) × Consumes old new bytes × IsUpToRecord limit bytes

-- the header of a capture and exactly so many records were read, and nothing after them
pub record HasRead (order : Endianness) (count : ℕ) (old new : Option (List ℕ)) : Type 0 where
  pub bytes : List ℕ
  pub header : List ℕ
  pub entries : List RecordEntry
  pub consumed : Consumes old new bytes
  pub is_header : IsHeader order header
  pub each : AllByRecursion (IsEntry order) entries
  pub whole : bytes ≡ header ++ flat_map entry_bytes entries
  pub counted : length entries ≡ count
