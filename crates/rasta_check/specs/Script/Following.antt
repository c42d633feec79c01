-- How a script is followed, entry by entry: the form in which code and proofs walk it. A script fits exactly where it
-- is followed so to its end.
use Rattle.std.specs.Prelude.{◌≡◌, ℕ, suc, ◌<◌, ◌≤◌, List, [], ◌∷◌, length, Some, slice_get}
use Rattle.rasta_pcap.specs.declared.fault.Side.{Side}
use Rattle.rasta_pdu.specs.Params.{Parameters}
use Rattle.rasta_cert.specs.declared.entry.Entry.{Entry}
use Rattle.rasta_cert.specs.declared.entry.Entry.TheVariants.{Take, Make}
use Rattle.rasta_end.specs.declared.why.Why.{Why}
use Rattle.rasta_end.specs.State.{EndState}
use Rattle.rasta_end.specs.MakeRule.{Makes}
use Rattle.rasta_end.specs.TakeRule.{Takes}
use Rattle.rasta_end.specs.Starts.{start_of}
use Rattle.rasta_check.specs.Capture.SentLists.{FirstCopy}

-- how far a script has come: how many packets have crossed at least, how many PDUs of the own sent list were made, how
-- many of the peer's were taken or passed over, and the end
pub record ScriptCursor : Type 0 where
  pub level : ℕ
  pub made_count : ℕ
  pub passed : ℕ
  pub state : EndState

-- one entry leads from here to there, where so many packets crossed
pub data Advances (p : Parameters) (packets : ℕ) (own peer : List FirstCopy) : ScriptCursor → Entry → ScriptCursor
    → Type 0 where
  -- a take, after `slot` packets: of a PDU of the peer that crossed before the slot, above the position that was taken
  -- last, at the clock of the last make
  takes_next : {u : ScriptCursor} (slot position : ℕ) (c : FirstCopy) (after : EndState)
      → u.level ≤ slot → slot ≤ packets
      → slice_get peer position ≡ Some c → c.place < slot → u.passed ≤ position
      → Takes p u.state c.pdu.safety u.state.clock after
      → Advances p packets own peer u (Take slot c.pdu.number)
      (record { level = slot; made_count = u.made_count; passed = suc position; state = after })
  -- a make: of the next PDU of the own sent list
  makes_next : {u : ScriptCursor} (c : FirstCopy) (clock : ℕ) (why : Why) (after : EndState)
      → u.level ≤ c.place
      → slice_get own u.made_count ≡ Some c
      → Makes p u.state c.pdu.safety clock why after
      → Advances p packets own peer u (Make c.place clock why)
      (record { level = suc c.place; made_count = suc u.made_count; passed = u.passed; state = after })

-- these entries lead from here to there, one after the other
abbrev pub Leads : Parameters → ℕ → List FirstCopy → List FirstCopy → ScriptCursor → List Entry → ScriptCursor → Type 0
Leads p packets own peer u [] v = u ≡ v
Leads p packets own peer u (x ∷ xs) v = (m : ScriptCursor) × Advances p packets own peer u x m
    × Leads p packets own peer m xs v

-- nothing is made or taken yet
abbrev pub at_start : EndState → ScriptCursor
at_start e = record { level = 0; made_count = 0; passed = 0; state = e }

-- the script is followed: it leads from the start to this end, and makes the whole sent list
abbrev pub Follows : Parameters → Side → ℕ → List FirstCopy → List FirstCopy → List Entry → EndState → Type 0
Follows p side packets own peer entries e =
    (v : ScriptCursor) × Leads p packets own peer (at_start (start_of p side)) entries v × (v.made_count ≡ length own)
    × (v.state ≡ e)
