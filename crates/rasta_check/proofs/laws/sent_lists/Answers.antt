use Rattle.rasta_check.proofs.Prelude.{Client, Server}
use Rattle.rasta_check.proofs.Theorem.SentRuns.{keeps_limit, made_list}
use Rattle.rasta_check.proofs.Capture.ListForms.{to_record}
use Rattle.rasta_check.proofs.Model.History.{appended}
use Rattle.rasta_check.proofs.Capture.FirstCopies.{sent_once}
use Rattle.rasta_check.proofs.laws.sent_lists.Goals as goal

pub returns : goal.returns
returns z p h = record {
  made = λ ws w side r within. made_list p h.valid ws w side r within;
  appended = λ ws w place r l. appended p ws w r place l;
  within = λ ws w c s r hc hs lc ls.
      keeps_limit p ws w c s r (to_record p w.crossed Client c h.valid hc) (to_record p w.crossed Server s h.valid hs) lc ls;
  one_list = λ packets side sent others a b few.
      sent_once p packets side sent others (to_record p packets side sent h.valid a) (to_record p packets side others h.valid b) few;
}
