-- How a capture was read: whole, or up to where it is refused.
use Rattle.std.specs.Prelude.{ℕ, List, Option, Some, None}
use Rattle.rasta_pcap.specs.declared.fault.Fault.{Fault}
use Rattle.rasta_pcap.specs.declared.pcap.Endianness.{Endianness}
use Rattle.rasta_pcap.specs.Extent.{HasRead}
use Rattle.rasta_pcap.specs.Stream.{MeetsEnd, RefusesRecord}

-- a capture of so many records was read to its end
pub record ReadsWhole (count : ℕ) (old new : Option (List ℕ)) : Type 0 where
  pub order : Endianness
  pub middle : Option (List ℕ)
  pub read : HasRead order count old middle
  pub end : MeetsEnd middle new

-- the header of a capture and so many records were read, and the next record has this fault
pub record RefusesNext (f : Fault) (count : ℕ) (old new : Option (List ℕ)) : Type 0 where
  pub order : Endianness
  pub middle : Option (List ℕ)
  pub read : HasRead order count old middle
  pub refused : RefusesRecord order count f middle new

-- so many records of a capture were read, all of them, or those before one with a fault
abbrev pub ReadsRecords : Option Fault → ℕ → Option (List ℕ) → Option (List ℕ) → Type 0
ReadsRecords None count old new = ReadsWhole count old new
ReadsRecords (Some f) count old new = RefusesNext f count old new
