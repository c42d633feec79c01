-- A known file at its end. None of this speaks of how many connections there are: `AreLines done` says
-- what each stands at, and `crossing_whole` (proofs/Files.antt) leads from there to `crossing_of` of each.
use Rattle.std.specs.Prelude.{◌≡◌, ℕ, List, length, slice_index_or, ◌<◌, Option}
use Rattle.rasta_pcap.specs.Capture.{max_records, reading_of}
use Rattle.rasta_pcap.specs.declared.fault.Fault.{Fault}
use Rattle.rasta_pcap.specs.Captured.{Captured, captured_in}
use Rattle.rasta_check.specs.Capture.Building.{crossed_in}
use Rattle.rasta_check.specs.Capture.Reading.{crossing_of}
use Rattle.seatmelon_middle.specs.Packets.{opens_first}
use Rattle.seatmelon_audit.specs.Records.{IsStanding, span_of, stamps_held}
use Rattle.seatmelon_audit.specs.Shown.{IsShowing, packets_held}
use Rattle.seatmelon_audit.specs.declared.line.Line.{Line}

-- what was read is all of the file, and this is its fault
pub record IsWhole (file : List ℕ) (done : List Captured) (last : Option Fault) : Type 0 where
  pub captured : done ≡ captured_in file
  pub fault : last ≡ (reading_of max_records file).fault

-- a connection stands as an audit of the file for it alone has it
pub record StandsThrough (file : List ℕ) (l : Line) : Type 0 where
  pub standing : IsStanding l.standing (crossing_of l.params file) (captured_in file) l.params
      (crossed_in l.builder) l.packets.items
  pub opens : l.opens ≡ opens_first l.params (packets_held l.params (captured_in file))
  pub span : l.span ≡ span_of (stamps_held l.params (captured_in file))
  pub shown : IsShowing l.standing l.params (crossed_in l.builder) (packets_held l.params (captured_in file)) l.shown
      l.course

-- at the end each one does
abbrev pub AreThrough : List ℕ → List Line → Type 0
AreThrough file lines = (i : ℕ) (d : Line) → i < length lines → StandsThrough file (slice_index_or lines i d)
