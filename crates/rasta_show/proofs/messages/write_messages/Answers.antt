use Rattle.std.proofs.Common.{ap}
use Rattle.rasta_show.specs.Lines.{messages_text}
use Rattle.rasta_pcap.proofs.Sending.{Sent-failed, Sent-last, Sent-more, Sent-start}
use Rattle.rasta_show.proofs.messages.write_messages.Goals as goal

pub returns-in_err-write_message-in-Some-clause-out : goal.returns-in_err-write_message-in-Some-clause-out
returns-in_err-write_message-in-Some-clause-out g c =
    Sent-failed c.from_residual.result _ _ _ c.from_residual.ensures.0 (Sent-start _ (g.W.Sink.contents c.args.writer.now)) (ap messages_text c.in-Some.ensures.steps) c.in_err-write_message-in-Some.ensures.out

pub returns-in_ok-write_message-in-Some-clause-out : goal.returns-in_ok-write_message-in-Some-clause-out
returns-in_ok-write_message-in-Some-clause-out g c =
    let first = Sent-more _ _ _ (Sent-start _ (g.W.Sink.contents c.args.writer.now)) (ap messages_text c.in-Some.ensures.steps) c.in_ok-write_message-in-Some.ensures.out in
    Sent-last c.write_further.result _ first c.write_further.ensures.out
