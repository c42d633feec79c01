-- Which run a text tells.
use Rattle.std.specs.Prelude.{◌≡◌, ℕ, List}
use Rattle.std.specs.List.{flat_map}
use Rattle.rasta_udp.specs.Frame.{Packet}
use Rattle.rasta_pdu.specs.Params.{Parameters}
use Rattle.rasta_check.specs.Model.World.{World}
use Rattle.rasta_check.specs.Run.Moves.{Happened, Runs}
use Rattle.rasta_check.specs.Run.Lines.{told}
use Rattle.rasta_verdict.specs.RunText.{line_text}

-- the text tells a run: some run of two ends sends exactly these packets, and its takes, makes and copies, in its
-- order, are the lines of the text
pub record IsToldRun (p : Parameters) (packets : List Packet) (text : List ℕ) : Type 0 where
  pub happened : List Happened
  pub world : World
  pub runs : Runs p happened world
  pub sends : world.crossed ≡ packets
  pub lines : text ≡ flat_map line_text (told happened)
