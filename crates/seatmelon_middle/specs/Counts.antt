-- How many captured messages were surely taken.
use Rattle.std.specs.Prelude.{ℕ, ◌^◌, ◌-◌, Bool, List, filter, min, sum_by, is_some}
use Rattle.rasta_check.specs.declared.shown.ShownLists.{ShownLists}
use Rattle.rasta_check.specs.declared.sights.ShownUnit.{ShownUnit}
use Rattle.seatmelon_middle.specs.declared.counts.Share.{Share}
use Rattle.seatmelon_middle.specs.declared.counts.ShownCounts.{ShownCounts}

abbrev pub messages_of : ShownUnit → ℕ
messages_of u = u.messages

abbrev pub is_taken : ShownUnit → Bool
is_taken u = is_some u.proof_place

-- as many as 64 bits count
abbrev pub counted : ℕ → ℕ
counted n = min n (2 ^ 64 - 1)

-- the messages of all units
abbrev pub messages_captured : List ShownUnit → ℕ
messages_captured units = counted (sum_by messages_of units)

-- those of units with a proof
abbrev pub messages_taken : List ShownUnit → ℕ
messages_taken units = counted (sum_by messages_of (filter is_taken units))

abbrev pub share_in : List ShownUnit → Share
share_in units = record { captured = messages_captured units; taken = messages_taken units }

abbrev pub counts_in : ShownLists → ShownCounts
counts_in lists = record {
  packets = lists.packets;
  client = share_in lists.client.items;
  server = share_in lists.server.items;
}
