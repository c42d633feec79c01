use Rattle.std.proofs.Common.{◌≡◌}
use Rattle.rasta_pdu.specs.Pdu.{messages_left}
use Rattle.rasta_show.specs.Lines.{further_text}
use Rattle.rasta_pcap.proofs.Sending.{Sent}
use Rattle.rasta_show.proofs.messages.write_further.Given as goal

-- the text of the messages that are left is left, and no write failed
abbrev pub invariant-loop-message : goal.invariant-loop-message
invariant-loop-message g l =
    (goal.iterator-loop-message g).can_next l.message-iterator
    × (goal.iterator-loop-message g).is_finite l.message-iterator
    × Sent (further_text (messages_left l.fn.messages)) (further_text (messages_left l.message-iterator))
    (g.W.Sink.contents l.fn.writer) (g.W.Sink.contents l.writer)
    × (g.W.Sink.failure_count l.writer ≡ g.W.Sink.failure_count l.fn.writer)
