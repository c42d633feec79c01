use Rattle.std.proofs.Common.{length}
use Rattle.rasta_check.proofs.Prelude.{Client, Server}
use Rattle.rasta_check.proofs.Script.Fits.{fits_follows}
use Rattle.rasta_check.proofs.Capture.ListForms.{to_record}
use Rattle.rasta_check.proofs.Script.CutScripts.{sharp}
use Rattle.rasta_check.proofs.laws.sharpness.Goals as goal

pub returns : goal.returns
returns z p h packets c s cs ss a b recorded hc hs lc ls fc fs =
    sharp p packets c s cs ss a b recorded (to_record p packets Client c h.valid hc) (to_record p packets Server s h.valid hs) lc ls
    (fits_follows p (length packets) c s Client cs a fc) (fits_follows p (length packets) s c Server ss b fs)
