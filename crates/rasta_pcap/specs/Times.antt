-- When records were captured.
use Rattle.std.specs.Prelude.{◌≡◌, ℕ, List, take, drop, Option, Some, ◌==◌, if◌then◌else◌}
use Rattle.std.specs.Io.KnownBytes.{Consumes}
use Rattle.rasta_pcap.specs.declared.pcap.Endianness.{Endianness}
use Rattle.rasta_pcap.specs.declared.time.FractionUnit.{FractionUnit}
use Rattle.rasta_pcap.specs.declared.time.FractionUnit.TheVariants.{Microseconds, Nanoseconds}
use Rattle.rasta_pcap.specs.declared.time.CaptureTime.{CaptureTime}
use Rattle.rasta_pcap.specs.Capture.{number_in, nanoseconds}

-- the unit that the magic number of a file tells
abbrev pub unit_of : Endianness → List ℕ → FractionUnit
unit_of order file = if number_in order 4 file == nanoseconds then Nanoseconds else Microseconds

-- the time that a record's header says
abbrev pub time_of : Endianness → FractionUnit → List ℕ → CaptureTime
time_of order unit header = record {
  seconds = number_in order 4 header;
  fraction = number_in order 4 (drop 4 header);
  unit = unit;
}

-- a file's header was read, and it tells this unit
abbrev pub TellsUnit : Endianness → FractionUnit → Option (List ℕ) → Option (List ℕ) → Type 0
TellsUnit order unit old new = (bytes : List ℕ) × Consumes old new bytes × (unit ≡ unit_of order bytes)

-- a record was read, and its header says this time
abbrev pub TellsTime : Endianness → FractionUnit → Option CaptureTime → Option (List ℕ) → Option (List ℕ) → Type 0
TellsTime order unit time old new = (bytes : List ℕ) × Consumes old new bytes
    × (time ≡ Some (time_of order unit (take 16 bytes)))
