use Rattle.std.proofs.Common.{◌≡◌, ◌∙◌, ℕ, Some, ap, subst}
use Rattle.rasta_build.proofs.Prelude.{Side, Client, Server, first_of, Pass}
use Rattle.std.specs.Prelude.{slice_get}
use Rattle.rasta_pdu.specs.declared.pdu.Pdu.{Pdu}
use Rattle.rasta_check.specs.Capture.Lists.{copy_of}
use Rattle.rasta_build.proofs.Answering.{sided, next_is, client_next, server_next}
use Rattle.rasta_build.proofs.proposal.Pass.explain_next.Goals as goal

pub returns-in-Some-Client-default-clause-err : goal.returns-in-Some-Client-default-clause-err
returns-in-Some-Client-default-clause-err g c =
    let client = g.S.SentList.content c.args.client.now in
    let server = g.S.SentList.content c.args.server.now in
    let sent : ℕ × Pdu = (c.in-Some-Client-default.place, c.in-Some-Client-default.pdu) in
    let side : c.in-Some-Client-default.field-0-0 ≡ Client = (let i = c.in-Some-Client-default.field-0-0-is in let e = c.in-Some-Client-default.ensures in cc) in
    let there : c.first_of.result ≡ Some (Client, sent) = c.in-Some-Client-default.is ∙ ap (λ (z : Side). Some (z, sent)) side in
    let first = subst (λ (t : Pass). first_of (slice_get client t.made) (slice_get server t.answered) ≡ Some (sided Client (copy_of sent))) c.self.view_is
    (next_is client server c.self.inside.made c.self.inside.answered c.get.result c.get-2.result c.first_of.result Client sent c.get.ensures.value c.get-2.ensures.value c.first_of.ensures there) in
    client_next client server c.args.self.now (copy_of sent) c.explain_client.result first c.explain_client.ensures.err

pub returns-in-Some-Server-default-clause-err : goal.returns-in-Some-Server-default-clause-err
returns-in-Some-Server-default-clause-err g c =
    let client = g.S.SentList.content c.args.client.now in
    let server = g.S.SentList.content c.args.server.now in
    let sent : ℕ × Pdu = (c.in-Some-Server-default.place, c.in-Some-Server-default.pdu) in
    let side : c.in-Some-Server-default.field-0-0 ≡ Server = (let i = c.in-Some-Server-default.field-0-0-is in let e = c.in-Some-Server-default.ensures in cc) in
    let there : c.first_of.result ≡ Some (Server, sent) = c.in-Some-Server-default.is ∙ ap (λ (z : Side). Some (z, sent)) side in
    let first = subst (λ (t : Pass). first_of (slice_get client t.made) (slice_get server t.answered) ≡ Some (sided Server (copy_of sent))) c.self.view_is
    (next_is client server c.self.inside.made c.self.inside.answered c.get.result c.get-2.result c.first_of.result Server sent c.get.ensures.value c.get-2.ensures.value c.first_of.ensures there) in
    server_next client server c.args.self.now (copy_of sent) c.explain_server.result first c.explain_server.ensures.err
