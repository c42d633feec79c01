use Rattle.std.proofs.Common.{append-nil, refl, sym, []}
use Rattle.rasta_pcap.proofs.Sending.{Sent-failed, Sent-more, Sent-rest, Sent-start}
use Rattle.rasta_verdict.specs.Passed.{scripts_of}
use Rattle.rasta_verdict.proofs.RunTexts.{told_level-makes, told_level-parts}
use Rattle.rasta_verdict.proofs.run_text.write_level.Goals as goal

pub returns-in_err-client-clause-out : goal.returns-in_err-client-clause-out
returns-in_err-client-clause-out g c =
    Sent-failed c.from_residual.result _ _ _ c.from_residual.ensures.0 (Sent-start _ (g.W.Sink.contents c.args.writer.now))
    (told_level-parts c.args.store.now.packets (scripts_of c.args.scripts) c.args.level) c.in_err-client.ensures.out

pub returns-in_err-server-clause-out : goal.returns-in_err-server-clause-out
returns-in_err-server-clause-out g c =
    let client = Sent-more _ _ _ (Sent-start _ (g.W.Sink.contents c.args.writer.now)) (told_level-parts c.args.store.now.packets (scripts_of c.args.scripts) c.args.level) c.in_ok-client.ensures.out in
    Sent-failed c.from_residual-in_err-server.result _ _ _ c.from_residual-in_err-server.ensures.0 client refl c.in_err-server.ensures.out

pub returns-in_err-write_crossed-clause-out : goal.returns-in_err-write_crossed-clause-out
returns-in_err-write_crossed-clause-out g c =
    let text = told_level-makes c.args.store.now.packets (scripts_of c.args.scripts) c.args.level _ _ _ _
    c.pass_make-client_made.ensures.made (c.in_ok-client.ensures.rest.makes c.args.level) c.pass_make-server_made.ensures.made (c.in_ok-server.ensures.rest.makes c.args.level) in
    let client = Sent-more _ _ _ (Sent-start _ (g.W.Sink.contents c.args.writer.now)) text c.in_ok-client.ensures.out in
    let server = Sent-more _ _ _ client refl c.in_ok-server.ensures.out in
    Sent-failed c.from_residual-in_err-write_crossed.result _ [] _ c.from_residual-in_err-write_crossed.ensures.0 server (sym (append-nil _)) c.in_err-write_crossed.ensures.out

pub returns-clause-out : goal.returns-clause-out
returns-clause-out g c =
    let text = told_level-makes c.args.store.now.packets (scripts_of c.args.scripts) c.args.level _ _ _ _
    c.pass_make-client_made.ensures.made (c.in_ok-client.ensures.rest.makes c.args.level) c.pass_make-server_made.ensures.made (c.in_ok-server.ensures.rest.makes c.args.level) in
    let client = Sent-more _ _ _ (Sent-start _ (g.W.Sink.contents c.args.writer.now)) text c.in_ok-client.ensures.out in
    let server = Sent-more _ _ _ client refl c.in_ok-server.ensures.out in
    Sent-rest _ server c.in_ok-write_crossed.ensures.out
