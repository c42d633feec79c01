-- How many packets of a window there are, and how many of them are listed.
use Rattle.std.specs.Prelude.{◌≡◌, ℕ, ◌+◌, ◌<◌, ◌^◌, List, length, filter, Option, None, Some, IfSome, if◌then◌else◌}
use Rattle.rasta_pcap.specs.Capture.{Numbered, reading_of}
use Rattle.rasta_pdu.specs.Params.{Parameters}
use Rattle.seatmelon_show.specs.declared.choice.Choice.{Choice}
use Rattle.seatmelon_show.specs.declared.counts.Counts.{Counts}
use Rattle.seatmelon_show.specs.declared.decoding.Decoding.{Decoding}
use Rattle.seatmelon_show.specs.declared.listing.Listing.{Listing}
use Rattle.seatmelon_show.specs.Chosen.{is_chosen}
use Rattle.seatmelon_show.specs.Sighted.{Seen, all_sighted, decoding_of, has_other_code, is_other_code}

-- the packets of these records that are listed, in order
abbrev pub all_listed : Parameters → Choice → List Numbered → List Seen
all_listed p c records = filter (is_chosen c) (all_sighted p records)

-- these are the counts of the packets of these records
pub record AreCounts (p : Parameters) (c : Choice) (records : List Numbered) (n : Counts) : Type 0 where
  pub packets : n.packets ≡ length (all_sighted p records)
  pub listed : n.listed ≡ length (all_listed p c records)
  pub other_codes : n.other_codes ≡ length (filter (has_other_code p) (all_listed p c records))

-- this is what a file's listing comes to: the counts of its records up to the last one of the window, and the fault
-- that ends them
pub record IsListing (p : Parameters) (c : Choice) (file : List ℕ) (l : Listing) : Type 0 where
  pub counts : AreCounts p c (reading_of p.last_record file).records l.counts
  pub fault : l.fault ≡ (reading_of p.last_record file).fault

-- the same where the file is known
abbrev pub IsListingOf : Parameters → Choice → Option (List ℕ) → Listing → Type 0
IsListingOf p c input l = IfSome input (λ file. IsListing p c file l)

-- ---- on the way

-- no count is so great that it can't rise
abbrev pub AreSmall : Counts → Type 0
AreSmall n = (n.packets < 2 ^ 32) × (n.listed < 2 ^ 32) × (n.other_codes < 2 ^ 32)

-- with one packet more that isn't listed
abbrev pub counts_past : Counts → Counts
counts_past n = record { packets = n.packets + 1; listed = n.listed; other_codes = n.other_codes }

-- with one more that is listed, and that is read so
abbrev pub counts_with : Counts → Decoding → Counts
counts_with n decoding = record {
  packets = n.packets + 1;
  listed = n.listed + 1;
  other_codes = if is_other_code decoding then n.other_codes + 1 else n.other_codes;
}

-- with one more, which is listed if it is chosen
abbrev pub counts_after : Parameters → Choice → Counts → Seen → Counts
counts_after p c n s = if is_chosen c s then counts_with n (decoding_of p s) else counts_past n

-- with what one more record holds
abbrev pub counts_next : Parameters → Choice → Counts → Option Seen → Counts
counts_next p c n None = n
counts_next p c n (Some s) = counts_after p c n s
