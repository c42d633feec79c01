-- The run that two scripts tell.
use Rattle.std.proofs.Common.{◌≡◌, List, length}
use Rattle.rasta_check.proofs.Prelude.{Side, Client, Server, Packet, Parameters, AreParameters, Entry, EndState, FirstCopy, CrossRecorded, World, Reaches, other_side, Follows}
use Rattle.rasta_check.proofs.Prelude.{Happened, Runs, told}
use Rattle.rasta_check.specs.Run.Moves.{worlds_of}
use Rattle.rasta_check.specs.Run.Levels.{run_lines}
use Rattle.rasta_check.specs.Run.Laws.{Simulation}
use Rattle.rasta_check.proofs.Capture.FaultlessLists.{IsSent}
use Rattle.rasta_check.proofs.Capture.ListForms.{to_record}
use Rattle.rasta_check.proofs.Script.Fits.{fits_follows}
use Rattle.rasta_check.proofs.Run.Worlds.{reaches_of}
use Rattle.rasta_check.proofs.Run.Levels.{told_run}
use Rattle.rasta_check.proofs.Sides.{sided}

module _ (p : Parameters) (packets : List Packet) (c s : List FirstCopy) (cs ss : List Entry) (a b : EndState) (recorded : CrossRecorded p packets) (hc : IsSent p packets Client c) (hs : IsSent p packets Server s)
    (fc : Follows p Client (length packets) c s cs a) (fs : Follows p Server (length packets) s c ss b) where
  told_by_both : (happened : List Happened) × (w : World) × Runs p happened w × (w.crossed ≡ packets) × (w.client.state ≡ a) × (w.server.state ≡ b) × (told happened ≡ run_lines packets c s cs ss)
  told_by_both =
      let lists : Side → List FirstCopy = sided (λ x. List FirstCopy) c s in
      let scripts : Side → List Entry = sided (λ x. List Entry) cs ss in
      let ends : Side → EndState = sided (λ x. EndState) a b in
      let r = told_run p packets recorded lists scripts ends (sided (λ x. IsSent p packets x (lists x)) hc hs)
      (sided (λ x. Follows p x (length packets) (lists x) (lists (other_side x)) (scripts x) (ends x)) fc fs) in
      (r.0, r.1, r.2, r.3, r.4 Client, r.4 Server, r.5)

  -- its worlds
  pub simulated : (ws : List World) × (w : World) × Reaches p ws w × (w.crossed ≡ packets) × (w.client.state ≡ a) × (w.server.state ≡ b)
  simulated = (let r = told_by_both in (worlds_of r.0, r.1, reaches_of p r.0 r.1 r.2, r.3, r.4, r.5))

pub simulation : (p : Parameters) → AreParameters p → Simulation p
simulation p valid packets c s cs ss a b recorded hc hs fc fs =
    told_by_both p packets c s cs ss a b recorded (to_record p packets Client c valid hc) (to_record p packets Server s valid hs)
    (fits_follows p (length packets) c s Client cs a fc) (fits_follows p (length packets) s c Server ss b fs)
