-- How a script is read from the text after its first line. Private to the crate.
use Rattle.std.specs.Prelude.{◌≡◌, ◌≢◌, ◌⊎◌, ℕ, ◌+◌, ◌≤◌, List, ◌++◌, length}
use Rattle.rasta_pcap.specs.declared.fault.Fault.{Fault}
use Rattle.rasta_pcap.specs.Fault.{fault_at, too_many_entries, wrong_syntax}
use Rattle.rasta_cert.specs.declared.entry.Entry.{Entry}
use Rattle.rasta_cert.specs.Certificate.{AreEntries, IsEntry, entries_text, entry_line, line}
use Rattle.rasta_cert.specs.Refusals.{first_line}

-- the text begins with the line of an entry
pub record BeginsWith (text : List ℕ) (entry : Entry) (rest : List ℕ) : Type 0 where
  pub text_is : text ≡ entry_line entry ++ rest
  pub first : first_line text ≡ entry_line entry
  pub valid : IsEntry entry

-- the text doesn't begin with the line of an entry
abbrev pub BeginsWithNone : List ℕ → Type 0
BeginsWithNone text = (e : Entry) → IsEntry e → first_line text ≢ entry_line e

-- a script of at most so many entries, with its closing line after it
pub record IsScript (close : List ℕ) (most : ℕ) (text : List ℕ) (entries : List Entry) (rest : List ℕ) : Type 0 where
  pub text_is : text ≡ entries_text entries ++ (line close ++ rest)
  pub valid : AreEntries entries
  pub few : length entries ≤ most

-- the text begins with one entry too many
pub record IsTooLong (most : ℕ) (entries : List Entry) (text : List ℕ) : Type 0 where
  pub full : length entries ≡ most
  pub entry : Entry
  pub valid : IsEntry entry
  pub first : first_line text ≡ entry_line entry

-- the text begins with neither an entry nor the closing line
abbrev pub IsNoLine : List ℕ → List ℕ → Type 0
IsNoLine close text = (first_line text ≢ line close) × BeginsWithNone text

-- after some entries the script is at fault; the first of them stands in this line
pub record IsBroken (close : List ℕ) (first most : ℕ) (text : List ℕ) (fault : Fault) : Type 0 where
  pub entries : List Entry
  pub rest : List ℕ
  pub text_is : text ≡ entries_text entries ++ rest
  pub valid : AreEntries entries
  pub few : length entries ≤ most
  pub number : ((fault.number ≡ too_many_entries) × IsTooLong most entries rest)
      ⊎ ((fault.number ≡ wrong_syntax) × IsNoLine close rest)
  pub fault_is : fault ≡ fault_at fault.number (first + length entries)
