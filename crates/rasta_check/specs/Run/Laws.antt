-- Runs move by move are runs, each move has a line, and two scripts that fit tell a run by theirs.
use Rattle.std.specs.Prelude.{◌≡◌, List, length}
use Rattle.rasta_pcap.specs.declared.fault.Side.TheVariants.{Client, Server}
use Rattle.rasta_udp.specs.Frame.{Packet}
use Rattle.rasta_pdu.specs.Params.{Parameters}
use Rattle.rasta_cert.specs.declared.entry.Entry.{Entry}
use Rattle.rasta_end.specs.State.{EndState}
use Rattle.rasta_check.specs.Capture.SentLists.{CrossRecorded, FirstCopy, Sent}
use Rattle.rasta_check.specs.Model.World.{World, Reaches}
use Rattle.rasta_check.specs.Script.Fitting.{Fits}
use Rattle.rasta_check.specs.Run.Moves.{Happened, Runs, worlds_of}
use Rattle.rasta_check.specs.Run.Lines.{told}
use Rattle.rasta_check.specs.Run.Levels.{run_lines}

-- ---- runs and their lines

-- what happens in a run leads through the run's worlds, in their order; and in each run something happens in each of
-- its worlds
abbrev pub SameRuns : Parameters → Type 0
SameRuns p =
    ((happened : List Happened) (w : World) → Runs p happened w → Reaches p (worlds_of happened) w)
    × ((ws : List World) (w : World) → Reaches p ws w
    → (happened : List Happened) × Runs p happened w × (worlds_of happened ≡ ws))

-- each move of a run has one line: the lines leave none out
abbrev pub OneLineEach : Parameters → Type 0
OneLineEach p = (happened : List Happened) (w : World) → Runs p happened w → length (told happened) ≡ length happened

-- ---- 4. simulation

-- two scripts that fit, each without the other, tell one run, move by move: it sends exactly these packets, ends in the
-- ends that the scripts reach, and its lines are those of the scripts
abbrev pub Simulation : Parameters → Type 0
Simulation p =
    (packets : List Packet) (c s : List FirstCopy) (cs ss : List Entry) (a b : EndState) → CrossRecorded p packets
    → Sent p packets Client c → Sent p packets Server s
    → Fits p Client (length packets) c s cs a → Fits p Server (length packets) s c ss b
    → (happened : List Happened) × (w : World) × Runs p happened w × (w.crossed ≡ packets) × (w.client.state ≡ a)
    × (w.server.state ≡ b)
    × (told happened ≡ run_lines packets c s cs ss)
