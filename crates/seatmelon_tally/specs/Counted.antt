-- What the answers of an audit come to.
use Rattle.std.specs.Prelude.{ℕ, ◌-◌, ◌&&◌, List, count_by, nat_eq, not, Bool, true, false, Option, None, Some, if◌then◌else◌}
use Rattle.std.specs.List.{list_all}
use Rattle.rasta_pcap.specs.declared.fault.Fault.{Fault}
use Rattle.seatmelon_audit.specs.declared.answer.Answer.{Answer}
use Rattle.seatmelon_audit.specs.declared.answer.Answer.TheVariants as answers
use Rattle.seatmelon_audit.specs.declared.answer.Audit.{Audit}
use Rattle.seatmelon_audit.specs.declared.answer.Before.{Before}
use Rattle.seatmelon_audit.specs.declared.answer.Before.TheVariants as befores
use Rattle.seatmelon_audit.specs.declared.answer.Connection.{Connection}
use Rattle.seatmelon_tally.specs.declared.counts.Counts.{Counts}
use Rattle.seatmelon_tally.specs.declared.counts.Kind.{Kind}
use Rattle.seatmelon_tally.specs.declared.counts.Kind.TheVariants as kinds

abbrev pub is_explained : Answer → Bool
is_explained answers.NoPackets = false
is_explained (answers.Refused refusal before shown) = false
is_explained (answers.Explained e) = true
is_explained answers.OutOfMemory = false

-- what crossed before a refusal is explained
abbrev pub is_explained_before : Before → Bool
is_explained_before befores.Nothing = false
is_explained_before (befores.Explained e) = true
is_explained_before (befores.Unexplained packets fault) = false

-- a fault is the one that ends the records of the file
abbrev pub ends_file : Option Fault → Fault → Bool
ends_file None fault = false
ends_file (Some end) fault = nat_eq fault.number end.number && nat_eq fault.place end.place

-- in a file that ends in this fault, a connection is cut where that fault refuses it, and what crossed before is explained
abbrev pub is_cut : Option Fault → Answer → Bool
is_cut fault answers.NoPackets = false
is_cut fault (answers.Refused refusal before shown) = is_explained_before before && ends_file fault refusal.fault
is_cut fault (answers.Explained e) = false
is_cut fault answers.OutOfMemory = false

-- any other refusal
abbrev pub is_refused : Option Fault → Answer → Bool
is_refused fault answers.NoPackets = false
is_refused fault (answers.Refused refusal before shown) =
    not (is_explained_before before && ends_file fault refusal.fault)
is_refused fault (answers.Explained e) = false
is_refused fault answers.OutOfMemory = false

abbrev pub is_without_packets : Answer → Bool
is_without_packets answers.NoPackets = true
is_without_packets (answers.Refused refusal before shown) = false
is_without_packets (answers.Explained e) = false
is_without_packets answers.OutOfMemory = false

abbrev pub is_out_of_memory : Answer → Bool
is_out_of_memory answers.NoPackets = false
is_out_of_memory (answers.Refused refusal before shown) = false
is_out_of_memory (answers.Explained e) = false
is_out_of_memory answers.OutOfMemory = true

-- an answer is of a kind, in a file that ends in this fault
abbrev pub is_of : Kind → Option Fault → Answer → Bool
is_of kinds.Explained fault answer = is_explained answer
is_of kinds.Cut fault answer = is_cut fault answer
is_of kinds.Refused fault answer = is_refused fault answer
is_of kinds.WithoutPackets fault answer = is_without_packets answer
is_of kinds.OutOfMemory fault answer = is_out_of_memory answer

-- how many connections have an answer of which this holds
abbrev pub count_answers : (Answer → Bool) → List Connection → ℕ
count_answers holds connections = count_by (λ (c : Connection). holds c.answer) connections

-- how many answers are of each kind, and how many records aren't of none of the connections
abbrev pub counts_in : Audit → Counts
counts_in a = record {
  explained = count_answers (is_of kinds.Explained a.fault) a.connections.items;
  cut = count_answers (is_of kinds.Cut a.fault) a.connections.items;
  refused = count_answers (is_of kinds.Refused a.fault) a.connections.items;
  without_packets = count_answers (is_of kinds.WithoutPackets a.fault) a.connections.items;
  out_of_memory = count_answers (is_of kinds.OutOfMemory a.fault) a.connections.items;
  packets = a.records - a.others;
}

-- 0 where each connection is explained, also where there is none
abbrev pub status_in : List Connection → ℕ
status_in all = if list_all (λ (c : Connection). is_explained c.answer) all then 0 else 1
