use Rattle.std.proofs.Common.{◌∙◌, ◌++◌, ◌+◌, ap, sym, drop, subst}
use Rattle.std.proofs.lemmas.List.{take_all, take_more}
use Rattle.rasta_pcap.proofs.Sending.{Sent-all, Sent-failed, Sent-more}
use Rattle.rasta_cert.specs.Certificate.{AreEntries, entries_text}
use Rattle.rasta_cert.proofs.Texts.{AreEntries_push, entries_text-next, entries_text-end}
use Rattle.rasta_cert.proofs.writing.write_entries.Goals as goal

pub returns-in_err-write_all-clause-out : goal.returns-in_err-write_all-clause-out
returns-in_err-write_all-clause-out g c =
    Sent-failed c.from_residual.result _ _ _ c.from_residual.ensures.0 c.loop-entry.invariant.sent
    (entries_text-next c.args.entries.now c.loop-entry.entry-index _ c.loop-entry-test.true ∙ ap (λ l. l ++ entries_text (drop (c.loop-entry.entry-index + 1) c.args.entries.now)) (sym (c.as_bytes.ensures ∙ c.put_entry.ensures.line)))
    c.in_err-write_all.ensures.out

pub loop-entry-preserved : goal.loop-entry-preserved
loop-entry-preserved g c = record {
  sent = Sent-more _ _ _ c.loop-entry.invariant.sent
      (entries_text-next c.args.entries.now c.loop-entry.entry-index _ c.loop-entry-test.true ∙ ap (λ l. l ++ entries_text (drop (c.loop-entry.entry-index + 1) c.args.entries.now)) (sym (c.as_bytes.ensures ∙ c.put_entry.ensures.line)))
      c.in_ok-write_all.ensures.out;
  valid = subst AreEntries (sym (take_more c.args.entries.now c.loop-entry.entry-index _ c.loop-entry-test.true))
      (AreEntries_push _ _ c.loop-entry.invariant.valid c.put_entry.ensures.valid);
  steady = c.in_ok-write_all.ensures.written ∙ c.loop-entry.invariant.steady;
}

pub returns-clause-out : goal.returns-clause-out
returns-clause-out g c = Sent-all c.loop-entry.invariant.sent (entries_text-end c.args.entries.now c.loop-entry.entry-index c.loop-entry-test.false)

pub returns-clause-valid : goal.returns-clause-valid
returns-clause-valid g c = subst AreEntries (take_all c.loop-entry.entry-index c.args.entries.now c.loop-entry-test.false) c.loop-entry.invariant.valid
