-- What is surely taken under every filling.
use Rattle.std.specs.Prelude.{◌≡◌, ℕ, ◌≤◌, ◌⊎◌, List, All, Any, map, take, length, slice_get, Option, Some, None}
use Rattle.rasta_pcap.specs.declared.fault.Side.{Side}
use Rattle.rasta_pcap.specs.declared.fault.Side.TheVariants.{Client, Server}
use Rattle.seatmelon_suppose.specs.Filling.{data_of, proof_of}
use Rattle.seatmelon_suppose.specs.declared.filling.Filling.{Filling}
use Rattle.seatmelon_suppose.specs.declared.filling.Listed.{Listed}

-- the messages of an end that are listed under a filling
abbrev pub listed_by : Side → Filling → List Listed
listed_by Client f = f.client.items
listed_by Server f = f.server.items

-- these messages are the first ones of a list, and each is told with a proof that comes no sooner
pub record IsUnder (told listed : List Listed) : Type 0 where
  pub first : map data_of told ≡ take (length told) (map data_of listed)
  pub later : (i : ℕ) (t l : Listed) → slice_get told i ≡ Some t → slice_get listed i ≡ Some l → l.proof ≤ t.proof

-- where the data of the message at a place of a list was captured
abbrev pub data_at : ℕ → List Listed → Option ℕ
data_at place listed = slice_get (map data_of listed) place

-- the same of its proof
abbrev pub proof_at : ℕ → List Listed → Option ℕ
proof_at place listed = slice_get (map proof_of listed) place

-- the first messages of two lists, as far as they are the same, each with the later of its proofs
pub record IsInBoth (one two both : List Listed) : Type 0 where
  pub first : IsUnder both one
  pub second : IsUnder both two
  pub whole : data_at (length both) one ≡ data_at (length both) two → data_at (length both) one ≡ None
  pub proved : (i proof : ℕ) → proof_at i both ≡ Some proof
      → (proof_at i one ≡ Some proof) ⊎ (proof_at i two ≡ Some proof)

-- the first messages of an end, as far as they are the same under every filling, each with the latest of its proofs:
-- there is no further one that is next under each, and each proof is one of a filling
pub record IsCommon (s : Side) (fillings : List Filling) (told : List Listed) : Type 0 where
  pub under : All (λ f. IsUnder told (listed_by s f)) fillings
  pub whole : 1 ≤ length fillings → (next : Option ℕ)
      → All (λ f. data_at (length told) (listed_by s f) ≡ next) fillings → next ≡ None
  pub proved : (i proof : ℕ) → proof_at i told ≡ Some proof
      → Any (λ f. proof_at i (listed_by s f) ≡ Some proof) fillings
