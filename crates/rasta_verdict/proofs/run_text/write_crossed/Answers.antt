use Rattle.std.proofs.Common.{◌∙◌, List, ℕ, slice_get, subst, sym}
use Rattle.std.specs.Io.KnownBytes.{Appends}
use Rattle.std.proofs.KnownBytes.{Appends-nil}
use Rattle.rasta_pcap.specs.Devices.{Writes}
use Rattle.rasta_verdict.proofs.RunTexts.{no_packet, the_packet}
use Rattle.rasta_verdict.proofs.run_text.write_crossed.Goals as goal

pub returns-in_default-clause-out : goal.returns-in_default-clause-out
returns-in_default-clause-out g c = subst
    (λ (t : List ℕ). Appends (g.W.Sink.contents c.args.writer.now) (g.W.Sink.contents c.args.writer.now) t)
    (sym (no_packet c.args.place _ _ (slice_get c.args.store.now.packets c.args.place) c.in_default.ensures.value))
    (Appends-nil (g.W.Sink.contents c.args.writer.now))

pub returns-clause-out : goal.returns-clause-out
returns-clause-out g c = subst
    (λ (t : List ℕ). Writes c.write_all.result (g.W.Sink.contents c.args.writer.now) (g.W.Sink.contents c.write_all.new.writer) t)
    (the_packet c.args.store.now.params c.args.place _ _ _ (slice_get c.args.store.now.packets c.args.place) c.in-Some.side c.in-Some.number c.as_bytes.result.now
    c.in-Some.ensures.value c.made_by.ensures (c.as_bytes.ensures ∙ c.put_crossed.ensures)) c.write_all.ensures.out
