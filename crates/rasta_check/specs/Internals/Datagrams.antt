-- Datagrams as a store keeps them: all bytes one after the other, and of each side which of them.
use Rattle.std.specs.Prelude.{◌≡◌, ℕ, ◌+◌, ◌≤◌, List, [], ◌∷◌, ◌++◌, Some, slice_get, slice_range}
use Rattle.std.specs.Borrow.{Bor}
use Rattle.rasta_pcap.specs.declared.fault.Side.{Side}
use Rattle.rasta_pcap.specs.declared.fault.Side.TheVariants.{Client, Server}
use Rattle.rasta_check.specs.declared.datagrams.Span.{Span}

-- a datagram, and the place at which it crossed
pub record Kept : Type 0 where
  pub place : ℕ
  pub bytes : List ℕ

-- the datagrams of both sides: the bytes of all as they came, and those of each side in their order
pub record KeptDatagrams : Type 0 where
  pub bytes : List ℕ
  pub client : List Kept
  pub server : List Kept

abbrev pub kept_by : KeptDatagrams → Side → List Kept
kept_by d Client = d.client
kept_by d Server = d.server

-- no datagram
abbrev pub nothing_kept : KeptDatagrams
nothing_kept = record { bytes = []; client = []; server = [] }

-- one datagram more, of this side
abbrev pub keeping : KeptDatagrams → Side → Kept → KeptDatagrams
keeping d Client x = record { bytes = d.bytes ++ x.bytes; client = d.client ++ x ∷ []; server = d.server }
keeping d Server x = record { bytes = d.bytes ++ x.bytes; client = d.client; server = d.server ++ x ∷ [] }

-- a datagram as it is lent
abbrev pub kept_of : ℕ × Bor (List ℕ) → Kept
kept_of x = record { place = x.0; bytes = x.1.now }

-- ---- spans of all bytes

-- the datagram of a span
abbrev pub kept_in : List ℕ → Span → Kept
kept_in bytes span = record { place = span.place; bytes = slice_range bytes span.start (span.start + span.len) }

-- spans end within so many bytes
abbrev pub LieIn : ℕ → List Span → Type 0
LieIn size spans = (i : ℕ) (span : Span) → slice_get spans i ≡ Some span → span.start + span.len ≤ size
