-- The verdict on a file, by what crossed.
use Rattle.std.proofs.Common.{◌≡◌, ℕ, List, length, Result, Ok, ap, sym, ◌∙◌, arith, subst}
use Rattle.rasta_check.proofs.Prelude.{Fault, Client, Server, IsCapture, reading_of-IsCapture, Packet, Parameters, AreParameters, Scripts, crossing_list}
use Rattle.rasta_check.proofs.Prelude.{Crossing, IsCrossing, crossing_of, Explained, BothFit, report_of}
use Rattle.rasta_check.specs.Capture.Faults.{CrossedIn}
use Rattle.rasta_check.specs.Verdict.Report.{Explains, IsFileVerdict, IsScriptVerdict, judged}
use Rattle.rasta_check.specs.Verdict.Headline.{Headline}
use Rattle.rasta_check.proofs.Capture.FaultlessCaptures.{same_list}
use Rattle.rasta_check.proofs.Capture.Readings.{file_by}

-- what is read has the parameters by which it is read
pub same_params : (p : Parameters) (file : List ℕ) (k : Crossing) → crossing_of p file ≡ Ok k → k.params ≡ p
same_params p file k e = (file_by p file k e).3

-- the verdict on a capture without a fault is that on what crossed in it
pub verdict_is : (p : Parameters) (file : List ℕ) (k : Crossing) → CrossedIn p file k → (scripts : Scripts) (verdict : Result Explained Fault)
    → IsScriptVerdict p (length k.packets) k.client k.server scripts verdict → IsFileVerdict p file scripts verdict
verdict_is p file k h1 scripts verdict h2 = grind (arith, judged)

module _ (p : Parameters) (file : List ℕ) (k : Crossing) (x : CrossedIn p file k) (h : IsCrossing k) where
  valid : AreParameters p
  valid = subst AreParameters x.params h.valid.valid

  -- the records are those of whatever others the file has
  same_records : (records : List (List ℕ)) → IsCapture p.last_record file records → x.capture.records ≡ records
  same_records records c =
      let top = valid.window.last_most in
      sym (reading_of-IsCapture p.last_record file x.capture.records top x.capture.capture).0 ∙ (reading_of-IsCapture p.last_record file records top c).0

  pub explains : (scripts : Scripts) → BothFit p (length k.packets) k.client k.server scripts → Explains p file scripts
  explains scripts fits =
      record {
        client = k.client;
        server = k.server;
        capture = x.capture;
        fits = rw x.packets at fits;
      }

  -- a report on what crossed is that on the lists of a capture that is explained
  pub exactly : (scripts : Scripts) (report : Explained) → BothFit p (length k.packets) k.client k.server scripts
      → report ≡ report_of p (length k.packets) k.client k.server
      → (e : Explains p file scripts) × (report ≡ report_of p (length (crossing_list p e.capture.records)) e.client e.server)
  unfolding explains
  exactly scripts report fits says = (explains scripts fits, says ∙ ap (λ (xs : List Packet). report_of p (length xs) k.client k.server) x.packets)

  pub not_explained : (scripts : Scripts) → (BothFit p (length k.packets) k.client k.server scripts → ⊥) → Explains p file scripts → ⊥
  not_explained scripts unfit e =
      let one = same_records e.capture.records e.capture.capture in
      let same = same_list p e.capture.records k.client k.server e.client e.server valid (rw one at x.capture.faultless) e.capture.faultless in
      unfit (rw (sym (ap length (x.packets ∙ ap (crossing_list p) one)), sym (same Client), sym (same Server)) at e.fits)

  pub headline_is : (report : Explained) (records : List (List ℕ)) → IsCapture p.last_record file records → Headline p k.packets report → Headline p (crossing_list p records) report
  headline_is report records c g = rw (x.packets ∙ ap (crossing_list p) (same_records records c)) at g
