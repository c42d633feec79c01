-- How the code follows a script: the end that it leads to, or its first fault; and what it answers on two scripts.
use Rattle.std.specs.Prelude.{◌≡◌, ◌⊎◌, ℕ, suc, not, ◌||◌, nat_lt, if◌then◌else◌, ◌==◌, List, [], ◌∷◌, length, Option}
use Rattle.std.specs.Prelude.{Some, None, Result, Ok, Err, slice_get}
use Rattle.rasta_pcap.specs.declared.fault.Fault.{Fault}
use Rattle.rasta_pcap.specs.declared.fault.Side.{Side}
use Rattle.rasta_pcap.specs.declared.fault.Side.TheVariants.{Client, Server}
use Rattle.rasta_pcap.specs.Fault.{fault_of_end, no_memory, slot_order, not_first_copy, make_missing, not_yet_crossed}
use Rattle.rasta_pcap.specs.Fault.{not_rising}
use Rattle.rasta_pdu.specs.Params.{Parameters}
use Rattle.rasta_cert.specs.Certificate.{Scripts}
use Rattle.rasta_cert.specs.declared.entry.Entry.{Entry}
use Rattle.rasta_cert.specs.declared.entry.Entry.TheVariants.{Take, Make}
use Rattle.rasta_end.specs.declared.why.Why.{Why}
use Rattle.rasta_end.specs.State.{EndState}
use Rattle.rasta_end.specs.MakeRule.{make_fault, after_make}
use Rattle.rasta_end.specs.TakeRule.{take_fault, after_take}
use Rattle.rasta_end.specs.Starts.{start_of}
use Rattle.rasta_check.specs.Capture.SentLists.{FirstCopy}
use Rattle.rasta_check.specs.Capture.Lists.{position_of_number, position_of_place}
use Rattle.rasta_check.specs.Script.Following.{ScriptCursor, at_start}
use Rattle.rasta_check.specs.Verdict.Report.{Explained, report_of}

-- where no rule of the end is broken, the script goes on
abbrev pub cursor_unless : Option ℕ → ScriptCursor → Result ScriptCursor ℕ
cursor_unless None v = Ok v
cursor_unless (Some fault) v = Err fault

-- a take of the PDU at this position of the peer
abbrev pub take_at : Parameters → ScriptCursor → ℕ → ℕ → Option FirstCopy → Result ScriptCursor ℕ
take_at p u slot position None = Err not_yet_crossed
take_at p u slot position (Some c) =
    if not (nat_lt c.place slot) then Err not_yet_crossed
    else if nat_lt position u.passed then Err not_rising
    else cursor_unless (take_fault p u.state u.state.clock)
    (record {
      level = slot;
      made_count = u.made_count;
      passed = suc position;
      state = after_take p u.state c.pdu.safety;
    })

abbrev pub take_found : Parameters → List FirstCopy → ScriptCursor → ℕ → Option ℕ → Result ScriptCursor ℕ
take_found p peer u slot None = Err not_yet_crossed
take_found p peer u slot (Some position) = take_at p u slot position (slice_get peer position)

-- a make of this PDU
abbrev pub make_of : Parameters → ScriptCursor → ℕ → ℕ → Why → Option FirstCopy → Result ScriptCursor ℕ
make_of p u index clock why None = Err not_first_copy
make_of p u index clock why (Some c) =
    cursor_unless (make_fault p u.state c.pdu.safety clock why) (record {
      level = suc index;
      made_count = suc u.made_count;
      passed = u.passed;
      state = after_make u.state c.pdu.safety clock why;
    })

-- a make of the PDU at this position of the own list, which is the next
abbrev pub make_found : Parameters → List FirstCopy → ScriptCursor → ℕ → ℕ → Why → Option ℕ → Result ScriptCursor ℕ
make_found p own u index clock why None = Err not_first_copy
make_found p own u index clock why (Some position) =
    if position == u.made_count then make_of p u index clock why (slice_get own position) else Err make_missing

-- a take entry, where so many packets crossed: what follows, or the number of its first fault
abbrev pub take_entry : Parameters → ℕ → List FirstCopy → ScriptCursor → ℕ → ℕ → Result ScriptCursor ℕ
take_entry p packets peer u slot number = if nat_lt slot u.level || nat_lt packets slot then Err slot_order
    else take_found p peer u slot (position_of_number peer number)

abbrev pub make_entry : Parameters → List FirstCopy → ScriptCursor → ℕ → ℕ → Why → Result ScriptCursor ℕ
make_entry p own u index clock why = if nat_lt index u.level then Err slot_order
    else make_found p own u index clock why (position_of_place own index)

unfoldable pub next_cursor : Parameters → ℕ → List FirstCopy → List FirstCopy → ScriptCursor → Entry
    → Result ScriptCursor ℕ
next_cursor p packets own peer u (Take slot number) = take_entry p packets peer u slot number
next_cursor p packets own peer u (Make index clock why) = make_entry p own u index clock why

abbrev pub then_follow : (ScriptCursor → Result EndState Fault) → ℕ → Side → Result ScriptCursor ℕ
    → Result EndState Fault
then_follow rest entry side (Err fault) = Err (fault_of_end fault entry side)
then_follow rest entry side (Ok v) = rest v

-- these entries from the one of this number on: the end that they lead to, or the first fault with the number of its
-- entry; an own PDU that is left over is missed after the last
unfoldable pub follow_from : Parameters → Side → ℕ → List FirstCopy → List FirstCopy → ℕ → ScriptCursor → List Entry
    → Result EndState Fault
follow_from p side packets own peer entry u [] = if u.made_count == length own then Ok u.state
    else Err (fault_of_end make_missing entry side)
follow_from p side packets own peer entry u (x ∷ xs) =
    then_follow (λ v. follow_from p side packets own peer (suc entry) v xs) entry side
    (next_cursor p packets own peer u x)

-- a whole script
abbrev pub follow : Parameters → Side → ℕ → List FirstCopy → List FirstCopy → List Entry → Result EndState Fault
follow p side packets own peer entries = follow_from p side packets own peer 1 (at_start (start_of p side)) entries

-- ---- both scripts

abbrev pub where_followed : Result EndState Fault → Result Explained Fault → Result Explained Fault
where_followed (Ok e) next = next
where_followed (Err fault) next = Err fault

-- the verdict: the client's script is followed, and then the server's; where both fit, the report stands
abbrev pub verdict_of : Parameters → ℕ → List FirstCopy → List FirstCopy → Scripts → Result Explained Fault
verdict_of p packets c s scripts =
    where_followed (follow p Client packets c s scripts.client)
    (where_followed (follow p Server packets s c scripts.server) (Ok (report_of p packets c s)))

-- ---- the follower

-- an end that follows its script: the entry of this number is the next
pub record Followed : Type 0 where
  pub params : Parameters
  pub side : Side
  pub entry : ℕ
  pub cursor : ScriptCursor

-- the same end after the entry that leads to this cursor
abbrev pub moved_to : Followed → ScriptCursor → Followed
moved_to f v = record { params = f.params; side = f.side; entry = suc f.entry; cursor = v }

-- what a refused entry answers: its fault, or out of memory
abbrev pub IsRefusedFollow : Followed → Result ScriptCursor ℕ → Fault → Type 0
IsRefusedFollow f answer fault = ((number : ℕ) × (answer ≡ Err number) × (fault ≡ fault_of_end number f.entry f.side))
    ⊎ (fault ≡ no_memory)

-- where no rule of the end is broken, an entry leads here
abbrev pub taken_there : ScriptCursor → ℕ → ℕ → EndState → ScriptCursor
taken_there u slot position after =
    record { level = slot; made_count = u.made_count; passed = suc position; state = after }

abbrev pub made_there : ScriptCursor → ℕ → EndState → ScriptCursor
made_there u index after = record { level = suc index; made_count = suc u.made_count; passed = u.passed; state = after }
