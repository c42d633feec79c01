-- A capture in either format, as a classic one.
use Rattle.std.specs.Prelude.{◌≡◌, ℕ, List, ◌++◌, Bool, true, false, if◌then◌else◌, Option, None, Some}
use Rattle.std.specs.Io.KnownBytes.{Consumes}
use Rattle.seatmelon_pcapng.specs.Classics as classics
use Rattle.seatmelon_pcapng.specs.Giving as giving
use Rattle.seatmelon_pcapng.specs.Giving.{told_as}
use Rattle.seatmelon_pcapng.specs.Peeked as peeked
use Rattle.seatmelon_pcapng.specs.Peeked.{begins_pcapng}
use Rattle.seatmelon_pcapng.specs.Readings.{classic_of, reading_of, remarks_of}
use Rattle.seatmelon_pcapng.specs.declared.capture.Capture.{Capture}
use Rattle.seatmelon_pcapng.specs.declared.capture.Capture.TheVariants.{Plain, Converted}
use Rattle.seatmelon_pcapng.specs.declared.format.Format.{Format}
use Rattle.seatmelon_pcapng.specs.declared.format.Format.TheVariants.{Classic, Pcapng}
use Rattle.seatmelon_pcapng.specs.declared.refusal.Refusal.{Refusal}

-- the classic capture of a pcapng file, or else the file itself
abbrev pub capture_of : List ℕ → List ℕ
capture_of file = if begins_pcapng file then classic_of (reading_of file) else file

-- in which format a file is read, and what is told of one of pcapng beside its packets
abbrev pub format_of : List ℕ → Format
format_of file = if begins_pcapng file then Pcapng (remarks_of (reading_of file)) else Classic

abbrev pub is_of_pcapng : Format → Bool
is_of_pcapng Classic = false
is_of_pcapng (Pcapng remarks) = true

abbrev pub refusal_told : Format → Option Refusal
refusal_told Classic = None
refusal_told (Pcapng remarks) = remarks.refusal

abbrev pub other_told : Format → Option ℕ
other_told Classic = None
other_told (Pcapng remarks) = remarks.other_link_type

abbrev pub cooked_told : Format → Option ℕ
cooked_told Classic = None
cooked_told (Pcapng remarks) = remarks.cooked_link_type

abbrev pub source_of : {S : Type 0} → Capture S → S
source_of (Plain p) = peeked.source_of p
source_of (Converted c) = peeked.source_of (classics.source_of c)

-- in which format it reads, and what it has met that is told beside the packets
abbrev pub format_in : {S : Type 0} → Capture S → Format
format_in (Plain p) = Classic
format_in (Converted c) = Pcapng (classics.remarks_in c)

-- what it will give
abbrev pub left_in : {S : Type 0} → (S → Option (List ℕ)) → Capture S → Option (List ℕ)
left_in remaining (Plain p) = peeked.left_in remaining p
left_in remaining (Converted c) = classics.left_in (peeked.left_in remaining) c

abbrev pub failures_of : {S : Type 0} → (S → ℕ) → Capture S → ℕ
failures_of count (Plain p) = count (peeked.source_of p)
failures_of count (Converted c) = classics.failures_of c

-- these bytes were given of a file
abbrev pub HasGiven : {S : Type 0} → (S → Option (List ℕ)) → (S → List ℕ → Type 0) → Capture S → List ℕ → List ℕ
    → Type 0
HasGiven remaining notes (Plain p) file given =
    peeked.noted_by notes p given × Consumes (Some file) (peeked.left_in remaining p) given
    × (begins_pcapng file ≡ false)
HasGiven remaining notes (Converted c) file given =
    giving.Gives (peeked.left_in remaining) (peeked.noted_by notes) c file given × (begins_pcapng file ≡ true)

-- a file was told, and these bytes were given of it
abbrev pub noted_by : {S : Type 0} → (S → Option (List ℕ)) → (S → List ℕ → Type 0) → Capture S → List ℕ → Type 0
noted_by remaining notes c told = (file : List ℕ) × (given : List ℕ) × (told ≡ told_as file ++ given)
    × HasGiven remaining notes c file given

-- what was read of a file passed the source below, which has noted it, and these bytes of its capture were given
pub record Gives {S : Type 0} (remaining : S → Option (List ℕ)) (notes : S → List ℕ
    → Type 0) (c : Capture S) (file given : List ℕ) : Type 0 where
  pub read : List ℕ
  pub noted : notes (source_of c) read
  pub passed : Consumes (Some file) (remaining (source_of c)) read
  pub left : Consumes (Some (capture_of file)) (left_in remaining c) given
