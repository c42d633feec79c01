use Rattle.std.proofs.Common.{◌∙◌, ℕ, List, rules, subst}
use Rattle.std.specs.Io.KnownBytes.{Appends}
use Rattle.rasta_pcap.specs.Devices.{Writes}
use Rattle.rasta_pcap.proofs.Sending.{Sent-all, Sent-failed, Sent-more}
use Rattle.rasta_verdict.specs.Passed.{scripts_of}
use Rattle.rasta_verdict.proofs.RunTexts.{from_next, told_levels-end, told_levels-front, told_levels-next}
use Rattle.rasta_verdict.proofs.Telling.{told_whole}
use Rattle.rasta_verdict.proofs.run_text.write_run.Goals as goal

pub loop-level-init : goal.loop-level-init
loop-level-init g c = search rules

pub returns-in_err-rests-clause-out : goal.returns-in_err-rests-clause-out
returns-in_err-rests-clause-out g c = subst
    (λ (t : List ℕ). Writes c.from_residual.result (g.W.Sink.contents c.args.writer.now) (g.W.Sink.contents c.write_level.new.writer) t)
    (told_whole c.args.store.now c.args.certificate.now c.requires)
    (Sent-failed c.from_residual.result _ _ _ c.from_residual.ensures.0 c.loop-level.invariant.sent
    (told_levels-front c.args.store.now.packets (scripts_of c.loop-level.rests) c.loop-level.level _ c.loop-level-test.true) c.in_err-rests.ensures.out)

pub loop-level-preserved : goal.loop-level-preserved
loop-level-preserved g c =
    let after = c.in_ok-rests.ensures.rests in record {
      sent = Sent-more _ _ _ c.loop-level.invariant.sent
          (told_levels-next c.args.store.now.packets (scripts_of c.loop-level.rests) (scripts_of c.in_ok-rests.rests) c.loop-level.level _ c.loop-level-test.true after.0 after.1)
          c.in_ok-rests.ensures.out;
      client = from_next c.loop-level.level c.in_ok-rests.rests.client.now after.0.order;
      server = from_next c.loop-level.level c.in_ok-rests.rests.server.now after.1.order;
      steady = c.in_ok-rests.ensures.written ∙ c.loop-level.invariant.steady;
      end = c.loop-level.invariant.end;
    }

pub returns-clause-out : goal.returns-clause-out
returns-clause-out g c = subst
    (λ (t : List ℕ). Appends (g.W.Sink.contents c.args.writer.now) (g.W.Sink.contents c.loop-level.writer) t)
    (told_whole c.args.store.now c.args.certificate.now c.requires)
    (Sent-all c.loop-level.invariant.sent (told_levels-end c.args.store.now.packets (scripts_of c.loop-level.rests) c.loop-level.level _ c.loop-level-test.false))
