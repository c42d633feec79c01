use Rattle.std.proofs.Common.{◌∙◌, refl}
use Rattle.rasta_check.specs.Verdict.Report.{explained}
use Rattle.rasta_pcap.proofs.Sending.{Sent-failed, Sent-last, Sent-more, Sent-start}
use Rattle.rasta_verdict.proofs.Verdicts.{explained_text-listed, explained_text-parts}
use Rattle.rasta_verdict.proofs.verdict.write_explanation.Goals as goal

pub returns-in_err-write_all-clause-out : goal.returns-in_err-write_all-clause-out
returns-in_err-write_all-clause-out g c =
    let e = c.args.explanation.now in
    Sent-failed c.from_residual.result _ _ _ c.from_residual.ensures.0 (Sent-start _ (g.W.Sink.contents c.args.writer.now))
    (explained_text-parts e.store.now e.certificate (explained e.report) _ (c.as_bytes.ensures ∙ c.put_explained.ensures)) c.in_err-write_all.ensures.out

pub returns-in_err-write_run-clause-out : goal.returns-in_err-write_run-clause-out
returns-in_err-write_run-clause-out g c =
    let e = c.args.explanation.now in
    let count = Sent-more _ _ _ (Sent-start _ (g.W.Sink.contents c.args.writer.now)) (explained_text-parts e.store.now e.certificate (explained e.report) _ (c.as_bytes.ensures ∙ c.put_explained.ensures)) c.in_ok-write_all.ensures.out in
    Sent-failed c.from_residual-in_err-write_run.result _ _ _ c.from_residual-in_err-write_run.ensures.0 count refl c.in_err-write_run.ensures.out

pub returns-in_err-write_taken-clause-out : goal.returns-in_err-write_taken-clause-out
returns-in_err-write_taken-clause-out g c =
    let e = c.args.explanation.now in
    let text = explained_text-listed e.store.now e.certificate (explained e.report) _ _ e.report.server_taken (c.as_bytes.ensures ∙ c.put_explained.ensures) c.as_slice.ensures refl in
    let count = Sent-more _ _ _ (Sent-start _ (g.W.Sink.contents c.args.writer.now)) text c.in_ok-write_all.ensures.out in
    let run = Sent-more _ _ _ count refl c.in_ok-write_run.ensures.out in
    Sent-failed c.from_residual-in_err-write_taken.result _ _ _ c.from_residual-in_err-write_taken.ensures.0 run refl c.in_err-write_taken.ensures.out

pub returns-clause-out : goal.returns-clause-out
returns-clause-out g c =
    let e = c.args.explanation.now in
    let text = explained_text-listed e.store.now e.certificate (explained e.report) _ _ _ (c.as_bytes.ensures ∙ c.put_explained.ensures) c.as_slice.ensures c.as_slice-2.ensures in
    let count = Sent-more _ _ _ (Sent-start _ (g.W.Sink.contents c.args.writer.now)) text c.in_ok-write_all.ensures.out in
    let run = Sent-more _ _ _ count refl c.in_ok-write_run.ensures.out in
    let client = Sent-more _ _ _ run refl c.in_ok-write_taken.ensures.out in
    Sent-last c.write_taken-2.result _ client c.write_taken-2.ensures.out
