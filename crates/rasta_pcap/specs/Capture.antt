-- A capture file in the classic libpcap format, its records, and the cursor that goes over them.
use Rattle.std.specs.Prelude.{◌≡◌, ℕ, zero, suc, ◌+◌, ◌<◌, ◌≤◌, List, [], ◌∷◌, ◌++◌, length, take, drop, map, Option}
use Rattle.std.specs.Prelude.{Some, None, Result, Ok, Err, Bool, ◌||◌, ◌&&◌, nat_lt, nat_le, ◌⊎◌, ◌==◌, if◌then◌else◌}
use Rattle.std.specs.List.{flat_map, AllByRecursion}
use Rattle.byteorder.specs.Endian.{little_number, big_number}
use Rattle.rasta_pcap.specs.declared.fault.Fault.{Fault}
use Rattle.rasta_pcap.specs.declared.pcap.Endianness.{Endianness}
use Rattle.rasta_pcap.specs.declared.pcap.Endianness.TheVariants.{Little, Big}
use Rattle.rasta_pcap.specs.Fault.{fault_at, not_pcap, wrong_version, wrong_link_type, cut_header, cut_record, too_many}
use Rattle.rasta_pcap.specs.Fault.{record_too_long}

-- how many records a file can hold
abbrev pub max_records : ℕ
max_records = 4000000000

-- how many bytes a record can capture
abbrev pub max_captured : ℕ
max_captured = 262144

-- the first n bytes as a number, in the order of the computer that wrote the file
abbrev pub number_in : Endianness → ℕ → List ℕ → ℕ
number_in Little n bytes = little_number n bytes
number_in Big n bytes = big_number n bytes

-- the magic numbers: the fractions of a second are microseconds, or nanoseconds
abbrev pub microseconds : ℕ
microseconds = 0xa1b2c3d4

abbrev pub nanoseconds : ℕ
nanoseconds = 0xa1b23c4d

-- the header of a file, in the writer's byte order, as far as it is judged
pub record IsHeader (order : Endianness) (header : List ℕ) : Type 0 where
  pub size : length header ≡ 24
  pub magic : (number_in order 4 header ≡ microseconds) ⊎ (number_in order 4 header ≡ nanoseconds)
  pub major : number_in order 2 (drop 4 header) ≡ 2
  pub minor : number_in order 2 (drop 6 header) ≡ 4
  pub link_type : number_in order 4 (drop 20 header) ≡ 1

-- the captured length that a record's header says
abbrev pub captured_length : Endianness → List ℕ → ℕ
captured_length order header = number_in order 4 (drop 8 header)

-- a record as it stands in the file: its header, and the captured bytes
pub record RecordEntry : Type 0 where
  pub header : List ℕ
  pub bytes : List ℕ

-- the header has 16 bytes and says how many bytes were captured, which are not too many
pub record IsEntry (order : Endianness) (e : RecordEntry) : Type 0 where
  pub size : length e.header ≡ 16
  pub captured : captured_length order e.header ≡ length e.bytes
  pub bounded : length e.bytes ≤ max_captured

abbrev pub entry_bytes : RecordEntry → List ℕ
entry_bytes e = e.header ++ e.bytes

-- the records of a capture file, at most so many: the file is its header, these records, and then
-- nothing, or anything where there are as many records as the bound says
pub record IsCapture (limit : ℕ) (file : List ℕ) (records : List (List ℕ)) : Type 0 where
  pub order : Endianness
  pub header : List ℕ
  pub entries : List RecordEntry
  pub rest : List ℕ
  pub is_header : IsHeader order header
  pub each : AllByRecursion (IsEntry order) entries
  pub whole : file ≡ header ++ (flat_map entry_bytes entries ++ rest)
  pub bytes_are : records ≡ map (λ (e : RecordEntry). e.bytes) entries
  pub within : length entries ≤ limit
  pub stops : (rest ≡ []) ⊎ (length entries ≡ limit)

-- where a reader stands: the byte order, the bytes that are left, and how many records came before
pub record FileCursor : Type 0 where
  pub order : Endianness
  pub rest : List ℕ
  pub count : ℕ

abbrev pub cursor_at : Endianness → List ℕ → ℕ → FileCursor
cursor_at order rest count = record { order = order; rest = rest; count = count }

abbrev pub is_magic : ℕ → Bool
is_magic n = n == microseconds || n == nanoseconds

-- the byte order in which the file begins with a magic number
abbrev pub order_of : List ℕ → Option Endianness
order_of file =
    if is_magic (little_number 4 file) then Some Little
    else if is_magic (big_number 4 file) then Some Big
    else None

abbrev pub opening_in : Option Endianness → List ℕ → Result FileCursor Fault
opening_in None file = Err (fault_at not_pcap 0)
opening_in (Some order) file =
    if number_in order 2 (drop 4 file) == 2 && number_in order 2 (drop 6 file) == 4 then
    (if number_in order 4 (drop 20 file) == 1 then Ok (record { order = order; rest = drop 24 file; count = 0 })
    else Err (fault_at wrong_link_type 0))
    else Err (fault_at wrong_version 0)

-- the cursor after the header of a file, or the header's first fault
abbrev pub opening : List ℕ → Result FileCursor Fault
opening file = if nat_lt (length file) 24 then Err (fault_at cut_header 0) else opening_in (order_of file) file

-- the captured length in the next header
abbrev pub next_length : FileCursor → ℕ
next_length c = captured_length c.order (take 16 c.rest)

-- the captured bytes of the next record
abbrev pub next_bytes : FileCursor → List ℕ
next_bytes c = take (next_length c) (drop 16 c.rest)

-- the cursor after the next record
abbrev pub cursor_after : FileCursor → FileCursor
cursor_after c = record { order = c.order; rest = drop (next_length c) (drop 16 c.rest); count = c.count + 1 }

-- a record's number, from 1, and its captured bytes
abbrev pub Numbered : Type 0
Numbered = ℕ × List ℕ

-- the next record, none at the exact end, or the first fault
abbrev pub next : FileCursor → Result (Option Numbered) Fault
next c =
    if length c.rest == 0 then Ok None
    else if nat_le max_records c.count then Err (fault_at too_many (c.count + 1))
    else if nat_lt (length c.rest) 16 then Err (fault_at cut_record (c.count + 1))
    else if nat_lt max_captured (next_length c) then Err (fault_at record_too_long (c.count + 1))
    else if nat_lt (length c.rest) (16 + next_length c) then Err (fault_at cut_record (c.count + 1))
    else Ok (Some (c.count + 1, next_bytes c))

-- where the cursor stands then: after a record that was there, else where it stood
abbrev pub moved : Result (Option Numbered) Fault → FileCursor → FileCursor
moved (Ok (Some r)) c = cursor_after c
moved (Ok None) c = c
moved (Err f) c = c

-- the records that were read, and the fault that ended them
pub record Reading : Type 0 where
  pub records : List Numbered
  pub fault : Option Fault

abbrev pub with_record : Numbered → Reading → Reading
with_record r more = record { records = r ∷ more.records; fault = more.fault }

abbrev pub read_step : Result (Option Numbered) Fault → Reading → Reading
read_step (Err f) more = record { records = []; fault = Some f }
read_step (Ok None) more = record { records = []; fault = None }
read_step (Ok (Some r)) more = with_record r more

-- at most so many records from the cursor on; bytes after them are not looked at
unfoldable pub reading : ℕ → FileCursor → Reading
reading zero c = record { records = []; fault = None }
reading (suc left) c = read_step (next c) (reading left (cursor_after c))

abbrev pub reading_opened : ℕ → Result FileCursor Fault → Reading
reading_opened limit (Err f) = record { records = []; fault = Some f }
reading_opened limit (Ok c) = reading limit c

-- at most so many records of a file, and the first fault
unfoldable pub reading_of : ℕ → List ℕ → Reading
reading_of limit file = reading_opened limit (opening file)

abbrev pub bytes_of : Reading → List (List ℕ)
bytes_of r = map (λ (n : Numbered). n.1) r.records

-- a file that is refused after these records, fewer than the bound: the file is its header, these
-- records, and then bytes that begin with no record, for this fault
pub record IsRefusedFile (limit : ℕ) (file : List ℕ) (records : List (List ℕ)) (fault : Fault) : Type 0 where
  pub order : Endianness
  pub header : List ℕ
  pub entries : List RecordEntry
  pub rest : List ℕ
  pub is_header : IsHeader order header
  pub each : AllByRecursion (IsEntry order) entries
  pub whole : file ≡ header ++ (flat_map entry_bytes entries ++ rest)
  pub bytes_are : records ≡ map (λ (e : RecordEntry). e.bytes) entries
  pub below : length entries < limit
  pub refused : next (record { order = order; rest = rest; count = length entries }) ≡ Err fault
