-- Scripts in their order, as the run is written from them in one pass.
use Rattle.std.specs.Prelude.{◌≡◌, ℕ, zero, suc, ◌<◌, ◌≤◌, List, [], ◌∷◌, ◌++◌, Option, Some, None, slice_get}
use Rattle.std.specs.List.{flat_map}
use Rattle.rasta_pcap.specs.declared.fault.Side.{Side}
use Rattle.rasta_pcap.specs.declared.fault.Side.TheVariants.{Client, Server}
use Rattle.rasta_udp.specs.Frame as udp
use Rattle.rasta_end.specs.declared.why.Why.{Why}
use Rattle.rasta_cert.specs.declared.entry.Entry.{Entry}
use Rattle.rasta_cert.specs.declared.entry.Entry.TheVariants.{Take, Make}
use Rattle.rasta_cert.specs.Certificate.{Scripts}
use Rattle.rasta_check.specs.Capture.Lists.{places_of}
use Rattle.rasta_check.specs.Capture.Crossing.{Crossing}
use Rattle.rasta_check.specs.Script.Fitting.{places_made}
use Rattle.rasta_check.specs.Run.Lines.{number_of}
use Rattle.rasta_check.specs.Run.Levels.{makes_at, takes_at}
use Rattle.rasta_verdict.specs.RunText.{copy_text, make_text, take_text}

-- ---- the order of a script

-- from this level on neither slots nor indexes fall, and what follows a make stands after its packet
abbrev pub IsOrderedFrom : ℕ → List Entry → Type 0
IsOrderedFrom level [] = Unit {0}
IsOrderedFrom level (Take slot number ∷ entries) = (level ≤ slot) × IsOrderedFrom slot entries
IsOrderedFrom level (Make index clock why ∷ entries) = (level ≤ index) × IsOrderedFrom (suc index) entries

-- both scripts are in order, and make the first copies of their sides, and nothing else
pub record IsTold (k : Crossing) (scripts : Scripts) : Type 0 where
  pub client_order : IsOrderedFrom 0 scripts.client
  pub server_order : IsOrderedFrom 0 scripts.server
  pub client_makes : places_made scripts.client ≡ places_of k.client
  pub server_makes : places_made scripts.server ≡ places_of k.server

-- ---- what is left of a script

-- the rest of a script after its takes of this slot
pub record IsAfterTakes (level : ℕ) (script rest : List Entry) : Type 0 where
  pub order : IsOrderedFrom level rest
  pub none_left : takes_at level rest ≡ []
  pub takes : (later : ℕ) → level < later → takes_at later rest ≡ takes_at later script
  pub makes : (place : ℕ) → makes_at place rest ≡ makes_at place script

-- the rest of a script after all of this level
pub record IsAfter (level : ℕ) (script rest : List Entry) : Type 0 where
  pub order : IsOrderedFrom (suc level) rest
  pub takes : (later : ℕ) → level < later → takes_at later rest ≡ takes_at later script
  pub makes : (later : ℕ) → level < later → makes_at later rest ≡ makes_at later script

-- ---- the run, where what is no make is a copy

-- a line for each take of a side with this slot
unfoldable pub takes_text : ℕ → Side → List Entry → List ℕ
takes_text level side script = flat_map (take_text level side) (takes_at level script)

unfoldable pub told_crossing : ℕ → Side → ℕ → List (ℕ × Why) → List ℕ
told_crossing place side number [] = copy_text place side number
told_crossing place side number (made ∷ more) = flat_map (make_text place side number) (made ∷ more)

-- the makes of a side, of those of both
abbrev pub of_side : List (ℕ × Why) → List (ℕ × Why) → Side → List (ℕ × Why)
of_side client server Client = client
of_side client server Server = server

unfoldable pub told_packet : ℕ → List (ℕ × Why) → List (ℕ × Why) → Option udp.Packet → List ℕ
told_packet place client server None = []
told_packet place client server (Some packet) =
    told_crossing place packet.side (number_of packet) (of_side client server packet.side)

unfoldable pub told_level : List udp.Packet → Scripts → ℕ → List ℕ
told_level packets scripts level = takes_text level Client scripts.client ++ (takes_text level Server scripts.server
    ++ told_packet level (makes_at level scripts.client) (makes_at level scripts.server) (slice_get packets level))

-- so many levels, from this one on
unfoldable pub told_levels : List udp.Packet → Scripts → ℕ → ℕ → List ℕ
told_levels packets scripts level zero = []
told_levels packets scripts level (suc left) =
    told_level packets scripts level ++ told_levels packets scripts (suc level) left
