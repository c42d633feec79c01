-- The theorem over runs: what scripts that fit say of runs, each judged without the other.
use Rattle.std.specs.Prelude.{◌≡◌, ◌↔◌, ◌⊎◌, ℕ, ◌<◌, ◌≤◌, ◌^◌, List, ◌∷◌, ◌++◌, length, Result}
use Rattle.rasta_pcap.specs.declared.fault.Fault.{Fault}
use Rattle.rasta_pcap.specs.declared.fault.Side.{Side}
use Rattle.rasta_pcap.specs.declared.fault.Side.TheVariants.{Client, Server}
use Rattle.rasta_udp.specs.Frame.{Packet}
use Rattle.rasta_pdu.specs.Params.{Parameters}
use Rattle.rasta_cert.specs.declared.entry.Entry.{Entry}
use Rattle.rasta_cert.specs.Certificate.{IsCertificate, Scripts}
use Rattle.rasta_end.specs.State.{EndState}
use Rattle.rasta_end.specs.Starts.{start_of}
use Rattle.rasta_check.specs.Capture.SentLists.{CrossRecorded, FirstCopy, Sent}
use Rattle.rasta_check.specs.Model.World.{World, Reaches, most_sent, other_side}
use Rattle.rasta_check.specs.Model.Taken.{surely_taken}
use Rattle.rasta_check.specs.Script.Fitting.{Fits, FirstFault}
use Rattle.rasta_check.specs.Script.Following.{ScriptCursor, Advances, Leads, Follows, at_start}
use Rattle.rasta_check.specs.Verdict.Report.{Explained, IsScriptVerdict}
use Rattle.rasta_check.specs.Model.Theorem.{most_packets, units_handed, units_listed}

-- ---- 5. sharpness

-- where both scripts fit, and the lists are within the limits, some run that sends the packets has both ends handing up
-- exactly what is listed
abbrev pub Sharpness : Parameters → Type 0
Sharpness p =
    (packets : List Packet) (c s : List FirstCopy) (cs ss : List Entry) (a b : EndState) → CrossRecorded p packets
    → Sent p packets Client c → Sent p packets Server s → length c ≤ most_sent → length s ≤ most_sent
    → Fits p Client (length packets) c s cs a → Fits p Server (length packets) s c ss b
    → (ws : List World) × (w : World) × Reaches p ws w × (w.crossed ≡ packets)
    × (units_handed w.server.state ≡ units_listed (surely_taken p Client c s))
    × (units_handed w.client.state ≡ units_listed (surely_taken p Server s c))

-- ---- 6. completeness

-- a run within the limits is told by two scripts that fit, and that make a certificate: it sends at most 16,000,000
-- packets and 1,000,000 PDUs an end, and each end makes its last PDU at a clock below 2^64
abbrev pub Complete : Parameters → Type 0
Complete p =
    (ws : List World) (w : World) (c s : List FirstCopy) → Reaches p ws w
    → Sent p w.crossed Client c → Sent p w.crossed Server s
    → length w.crossed ≤ most_packets → length c ≤ most_sent → length s ≤ most_sent
    → w.client.state.clock < 2 ^ 64 → w.server.state.clock < 2 ^ 64
    → (cs ss : List Entry) × Fits p Client (length w.crossed) c s cs w.client.state
    × Fits p Server (length w.crossed) s c ss w.server.state
    × IsCertificate (record { client = cs; server = ss })

-- ---- 7. scripts that are stuck

-- what a script leads to is one; and where the next entry can't follow there, no script that begins so fits
pub record LeadsOnce (p : Parameters) (side : Side) (packets : ℕ) (own peer : List FirstCopy) : Type 0 where
  pub one : (u v w : ScriptCursor) (entries : List Entry) → Leads p packets own peer u entries v
      → Leads p packets own peer u entries w → v ≡ w
  pub none : (entries rest : List Entry) (x : Entry) (v : ScriptCursor) (e : EndState)
      → Leads p packets own peer (at_start (start_of p side)) entries v
      → ((w : ScriptCursor) → Advances p packets own peer v x w → ⊥)
      → Fits p side packets own peer (entries ++ x ∷ rest) e → ⊥

-- so it is with the sent list of the peer
abbrev pub Stuck : Parameters → Type 0
Stuck p =
    (packets : List Packet) (side : Side) (own peer : List FirstCopy) → Sent p packets (other_side side) peer
    → length peer < 2 ^ 32 → LeadsOnce p side (length packets) own peer

-- ---- 8. one form and another

-- a script fits exactly where it is followed, entry by entry, to the same end
abbrev pub Agree : Parameters → Type 0
Agree p =
    (packets : List Packet) (side : Side) (own peer : List FirstCopy) (entries : List Entry) (e : EndState)
    → Sent p packets side own → Sent p packets (other_side side) peer → length peer < 2 ^ 32
    → Fits p side (length packets) own peer entries e ↔ Follows p side (length packets) own peer entries e

-- ---- 9. one answer

-- this script fits, with one end, or has one first fault, and not both
pub record HasOneAnswer (p : Parameters) (side : Side) (packets : ℕ) (own peer : List FirstCopy)
    (entries : List Entry) : Type 0 where
  pub some : ((e : EndState) × Fits p side packets own peer entries e)
      ⊎ ((fault : Fault) × FirstFault p side packets own peer entries fault)
  pub one_end : (a b : EndState) → Fits p side packets own peer entries a → Fits p side packets own peer entries b
      → a ≡ b
  pub one_fault : (f g : Fault) → FirstFault p side packets own peer entries f
      → FirstFault p side packets own peer entries g → f ≡ g
  pub not_both : (e : EndState) (f : Fault) → Fits p side packets own peer entries e
      → FirstFault p side packets own peer entries f → ⊥

-- so it is with every script and all lists
abbrev pub OneAnswer : Type 0
OneAnswer = (p : Parameters) (side : Side) (packets : ℕ) (own peer : List FirstCopy) (entries : List Entry)
    → HasOneAnswer p side packets own peer entries

-- two scripts have a verdict, and no other
pub record HasOneVerdict (p : Parameters) (packets : ℕ) (c s : List FirstCopy) (scripts : Scripts) : Type 0 where
  pub some : (answer : Result Explained Fault) × IsScriptVerdict p packets c s scripts answer
  pub one : (a b : Result Explained Fault) → IsScriptVerdict p packets c s scripts a
      → IsScriptVerdict p packets c s scripts b → a ≡ b

-- so it is with all scripts and lists
abbrev pub OneVerdict : Type 0
OneVerdict = (p : Parameters) (packets : ℕ) (c s : List FirstCopy) (scripts : Scripts)
    → HasOneVerdict p packets c s scripts
