use Rattle.std.proofs.Common.{◌∙◌, ◌∷◌, ◌++◌, List, ℕ, ap, sym}
use Rattle.rasta_show.specs.Lines.{codes_line, messages_text}
use Rattle.rasta_show.specs.Shown.{data_line, packet_of}
use Rattle.rasta_show.proofs.Lines.{data_line-parts, data_rest}
use Rattle.rasta_pcap.proofs.Sending.{Sent, Sent-failed, Sent-last, Sent-more, Sent-start}
use Rattle.rasta_show.proofs.shown_packet.ShownPacket.write_data.Goals as goal

pub returns-in_err-write_all-clause-out : goal.returns-in_err-write_all-clause-out
returns-in_err-write_all-clause-out g c =
    Sent-failed c.from_residual.result _ _ _ c.from_residual.ensures.0 (Sent-start _ (g.W.Sink.contents c.args.writer.now))
    (data_line-parts c.args.place (packet_of c.args.self.now) _ (c.as_bytes.ensures ∙ c.put_data_front.ensures)) c.in_err-write_all.ensures.out

pub returns-in_err-write_messages-clause-out : goal.returns-in_err-write_messages-clause-out
returns-in_err-write_messages-clause-out g c =
    let q = packet_of c.args.self.now in
    let end : List ℕ = 32 ∷ codes_line q.code q.pdu.check_bytes in
    let front : Sent (data_line c.args.place q) (data_rest q) (g.W.Sink.contents c.args.writer.now) (g.W.Sink.contents c.write_all.new.writer) =
    Sent-more _ _ _ (Sent-start _ (g.W.Sink.contents c.args.writer.now)) (data_line-parts c.args.place q _ (c.as_bytes.ensures ∙ c.put_data_front.ensures)) c.in_ok-write_all.ensures.out in
    Sent-failed c.from_residual-in_err-write_messages.result _ end _ c.from_residual-in_err-write_messages.ensures.0 front
    (ap (λ ms. messages_text ms ++ end) (sym c.messages.ensures)) c.in_err-write_messages.ensures.out

pub returns-clause-out : goal.returns-clause-out
returns-clause-out g c =
    let q = packet_of c.args.self.now in
    let end : List ℕ = 32 ∷ codes_line q.code q.pdu.check_bytes in
    let front : Sent (data_line c.args.place q) (data_rest q) (g.W.Sink.contents c.args.writer.now) (g.W.Sink.contents c.write_all.new.writer) =
    Sent-more _ _ _ (Sent-start _ (g.W.Sink.contents c.args.writer.now)) (data_line-parts c.args.place q _ (c.as_bytes.ensures ∙ c.put_data_front.ensures)) c.in_ok-write_all.ensures.out in
    let messages : Sent (data_line c.args.place q) c.as_bytes-2.result.now (g.W.Sink.contents c.args.writer.now) (g.W.Sink.contents c.write_messages.new.writer) =
    rw (c.as_bytes-2.ensures, c.put_data_end.ensures) (Sent-more _ end _ front (ap (λ ms. messages_text ms ++ end) (sym c.messages.ensures)) c.in_ok-write_messages.ensures.out) in
    Sent-last c.write_all-2.result _ messages c.write_all-2.ensures.out
