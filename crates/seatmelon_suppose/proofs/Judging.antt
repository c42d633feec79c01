-- Fillings that were judged.
use Rattle.std.proofs.Common.{◌≡◌, ◌∙◌, ℕ, List, length, Option, Ok, ap, subst}
use Rattle.rasta_cert.specs.Certificate.{Scripts}
use Rattle.rasta_pdu.specs.Params.{Parameters}
use Rattle.rasta_check.specs.Capture.Crossing.{Crossing}
use Rattle.rasta_check.specs.Verdict.Headline.{Headline}
use Rattle.rasta_check.specs.Verdict.Report.{Explained, IsScriptVerdict, report_of}
use Rattle.seatmelon_reading.specs.Tapes.{NumberedPacket}
use Rattle.seatmelon_suppose.specs.Filling.{AreLists, IsFilling, IsJudged, captured_messages, lists_in, report_on}
use Rattle.seatmelon_suppose.specs.declared.filling.Judged.{Judged}
use Rattle.seatmelon_suppose.specs.declared.filling.Lists.{Lists}

pub judged-filling : (p : Parameters) (packets : List NumberedPacket) (most : ℕ) (j : Judged) → IsJudged p packets most j → IsFilling p packets most j.filling
judged-filling p packets most j h = record {
  few = h.few;
  inside = h.inside;
  crossing = j.store;
  crossed = h.crossed;
  lists = subst (λ (from : List (Option ℕ)). AreLists j.store from (lists_in j.filling)) h.origins h.lists;
}

-- what the report lists that is answered on what crossed
pub report-lists : (p : Parameters) (k : Crossing) (origins : List (Option ℕ)) (scripts : Scripts) (r : Explained) (l : Lists) → p ≡ k.params
    → IsScriptVerdict p (length k.packets) k.client k.server scripts (Ok r) → r ≡ report_of p (length k.packets) k.client k.server → Headline p k.packets r
    → l.client.items ≡ captured_messages origins r.server_taken → l.server.items ≡ captured_messages origins r.client_taken → AreLists k origins l
report-lists p k origins scripts r l of verdict exact headline client server =
    let same : r ≡ report_on k = exact ∙ ap (λ (q : Parameters). report_of q (length k.packets) k.client k.server) of in record {
      judged = (
        scripts,
        subst (λ (q : Parameters). IsScriptVerdict q (length k.packets) k.client k.server scripts (Ok (report_on k))) of
            (subst (λ (x : Explained). IsScriptVerdict p (length k.packets) k.client k.server scripts (Ok x)) same verdict),
      );
      headline = subst (λ (q : Parameters). Headline q k.packets (report_on k)) of (subst (λ (x : Explained). Headline p k.packets x) same headline);
      client = client ∙ ap (λ (x : Explained). captured_messages origins x.server_taken) same;
      server = server ∙ ap (λ (x : Explained). captured_messages origins x.client_taken) same;
    }
