-- A gap in the redundancy numbers of an end.
use Rattle.std.specs.Prelude.{◌≡◌, ℕ, ◌+◌, ◌-◌, Bool, List, length, Option, Some, slice_get, option_map}
use Rattle.rasta_pdu.specs.Fields.{field_at}
use Rattle.rasta_end.specs.State.{ahead_by, wrapped}
use Rattle.rasta_check.specs.Capture.SentLists.{FirstCopy}
use Rattle.seatmelon_account.specs.declared.gap.Gap.{Gap}
use Rattle.seatmelon_account.specs.declared.gap.LastBefore.{LastBefore}
use Rattle.seatmelon_account.specs.declared.gap.Numbers.{Numbers}

-- what an end sent last: its place, and both of its numbers
abbrev pub IsLastOf : List FirstCopy → LastBefore → Type 0
IsLastOf sent last = (copy : FirstCopy) × (slice_get sent (length sent - 1) ≡ Some copy) × (last.place ≡ copy.place)
    × (last.numbers.redundancy ≡ copy.pdu.number) × (last.numbers.sn ≡ copy.pdu.safety.sn)

-- the numbers of the next PDU
abbrev pub next_numbers : Numbers → Numbers
next_numbers n = record { redundancy = wrapped (n.redundancy + 1); sn = wrapped (n.sn + 1) }

-- the numbers that were due
abbrev pub due_at : Gap → Numbers
due_at gap = next_numbers gap.last.numbers

-- how many redundancy numbers are skipped, and how many SNs
abbrev pub numbers_skipped : Gap → ℕ
numbers_skipped gap = ahead_by gap.found (due_at gap).redundancy

abbrev pub sns_skipped : Gap → Option ℕ
sns_skipped gap = option_map (λ (sn : ℕ). ahead_by sn (due_at gap).sn) gap.sn_found

-- a gap behind what an end sent, before this datagram of it
pub record IsGap (sent : List FirstCopy) (opened : Bool) (datagram : List ℕ) (gap : Gap) : Type 0 where
  pub last : IsLastOf sent gap.last
  pub found : field_at 4 4 datagram ≡ Some gap.found
  pub sn_found : gap.sn_found ≡ field_at 4 20 datagram
  pub opening : gap.has_opening ≡ opened
