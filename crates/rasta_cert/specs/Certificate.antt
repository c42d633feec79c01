-- Certificates, and their one text.
use Rattle.std.specs.Prelude.{ℕ, ◌+◌, ◌<◌, ◌≤◌, ◌^◌, List, [], ◌∷◌, ◌++◌, length, codes}
use Rattle.std.specs.List.{AllByRecursion}
use Rattle.std.specs.Fmt.{decimal}
use Rattle.rasta_end.specs.declared.why.Why.{Why}
use Rattle.rasta_end.specs.declared.why.Why.TheVariants.{Open, Reply, Beat, Fresh, Again, Ask, Bye, Expired}
use Rattle.rasta_cert.specs.declared.entry.Entry.{Entry}
use Rattle.rasta_cert.specs.declared.entry.Entry.TheVariants.{Take, Make}

-- the scripts of both ends
pub record Scripts : Type 0 where
  pub client : List Entry
  pub server : List Entry

-- a unit's number has 32 bits
abbrev pub IsReason : Why → Type 0
IsReason (Again unit) = unit < 2 ^ 32
IsReason _ = Unit {0}

-- numbers of 32 bits, and clocks of 64
abbrev pub IsEntry : Entry → Type 0
IsEntry (Take slot number) = (slot < 2 ^ 32) × (number < 2 ^ 32)
IsEntry (Make index clock why) = (index < 2 ^ 32) × (clock < 2 ^ 64) × IsReason why

abbrev pub AreEntries : List Entry → Type 0
AreEntries es = AllByRecursion IsEntry es

abbrev pub AreScripts : Scripts → Type 0
AreScripts c = AreEntries c.client × AreEntries c.server

-- the most entries of both scripts together
abbrev pub most_entries : ℕ
most_entries = 4000000

abbrev pub is_few : Scripts → Type 0
is_few c = length c.client + length c.server ≤ most_entries

abbrev pub IsCertificate : Scripts → Type 0
IsCertificate c = AreScripts c × is_few c

-- the end of a line after these bytes
abbrev pub line : List ℕ → List ℕ
line bytes = bytes ++ 10 ∷ []

-- the reason of a make, and the end of the line
abbrev pub why_line : Why → List ℕ
why_line Open = line (codes "open")
why_line Reply = line (codes "reply")
why_line Beat = line (codes "beat")
why_line Fresh = line (codes "fresh")
why_line (Again unit) = codes "again" ++ (32 ∷ line (decimal unit))
why_line Ask = line (codes "ask")
why_line Bye = line (codes "bye")
why_line Expired = line (codes "expired")

-- `take SLOT NUMBER` or `make INDEX CLOCK WHY`, in decimal without leading zeros
unfoldable pub entry_line : Entry → List ℕ
entry_line (Take slot number) = codes "take" ++ (32 ∷ (decimal slot ++ (32 ∷ line (decimal number))))
entry_line (Make index clock why) =
    codes "make" ++ (32 ∷ (decimal index ++ (32 ∷ (decimal clock ++ (32 ∷ why_line why)))))

-- a line for each entry
unfoldable pub entries_text : List Entry → List ℕ
entries_text [] = []
entries_text (e ∷ es) = entry_line e ++ entries_text es

abbrev pub first_lines : List ℕ
first_lines = line (codes "rasta-certificate 1") ++ line (codes "client")

-- the whole text: nothing stands after the line `end`
unfoldable pub certificate_text : Scripts → List ℕ
certificate_text c =
    first_lines ++ (entries_text c.client ++ (line (codes "server") ++ (entries_text c.server ++ line (codes "end"))))
