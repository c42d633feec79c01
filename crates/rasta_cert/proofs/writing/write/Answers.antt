use Rattle.std.proofs.Common.{◌≡◌, ◌++◌, List, ap, sym, refl, subst}
use Rattle.std.specs.Prelude.{codes}
use Rattle.rasta_pcap.proofs.Sending.{Sent-start, Sent-failed, Sent-more, Sent-last, where_succeeded}
use Rattle.rasta_cert.specs.declared.entry.Entry.{Entry}
use Rattle.rasta_cert.specs.Certificate.{AreEntries, entries_text, first_lines, line}
use Rattle.rasta_cert.proofs.Texts.{certificate_text-parts}
use Rattle.rasta_cert.proofs.writing.write.Goals as goal

pub returns-in_err-write_all-clause-out : goal.returns-in_err-write_all-clause-out
returns-in_err-write_all-clause-out g c =
    Sent-failed c.from_residual.result first_lines _ _ c.from_residual.ensures.0 (Sent-start _ (g.W.Sink.contents c.args.writer.now))
    (certificate_text-parts c.args.certificate.now) c.in_err-write_all.ensures.out

pub returns-in_err-write_entries-clause-out : goal.returns-in_err-write_entries-clause-out
returns-in_err-write_entries-clause-out g c =
    let scripts = c.args.certificate.now in
    let begun_rest = line (codes "server") ++ (entries_text scripts.server ++ line (codes "end")) in
    let s1 = Sent-more first_lines _ _ (Sent-start _ (g.W.Sink.contents c.args.writer.now)) (certificate_text-parts scripts) c.in_ok-write_all.ensures.out in
    let client : entries_text scripts.client ++ begun_rest ≡ entries_text c.client.result.now ++ begun_rest = ap (λ (es : List Entry). entries_text es ++ begun_rest) (sym c.client.ensures.script) in
    Sent-failed c.from_residual-in_err-write_entries.result _ _ _ c.from_residual-in_err-write_entries.ensures.0 s1 client c.in_err-write_entries.ensures.out

pub returns-in_err-write_all-2-clause-out : goal.returns-in_err-write_all-2-clause-out
returns-in_err-write_all-2-clause-out g c =
    let scripts = c.args.certificate.now in
    let begun_rest = line (codes "server") ++ (entries_text scripts.server ++ line (codes "end")) in
    let s1 = Sent-more first_lines _ _ (Sent-start _ (g.W.Sink.contents c.args.writer.now)) (certificate_text-parts scripts) c.in_ok-write_all.ensures.out in
    let client : entries_text scripts.client ++ begun_rest ≡ entries_text c.client.result.now ++ begun_rest = ap (λ (es : List Entry). entries_text es ++ begun_rest) (sym c.client.ensures.script) in
    let s2 = Sent-more _ _ _ s1 client c.in_ok-write_entries.ensures.out in
    Sent-failed c.from_residual-in_err-write_all-2.result (line (codes "server")) _ _ c.from_residual-in_err-write_all-2.ensures.0 s2 refl c.in_err-write_all-2.ensures.out

pub returns-in_err-write_entries-2-clause-out : goal.returns-in_err-write_entries-2-clause-out
returns-in_err-write_entries-2-clause-out g c =
    let scripts = c.args.certificate.now in
    let begun_rest = line (codes "server") ++ (entries_text scripts.server ++ line (codes "end")) in
    let s1 = Sent-more first_lines _ _ (Sent-start _ (g.W.Sink.contents c.args.writer.now)) (certificate_text-parts scripts) c.in_ok-write_all.ensures.out in
    let client : entries_text scripts.client ++ begun_rest ≡ entries_text c.client.result.now ++ begun_rest = ap (λ (es : List Entry). entries_text es ++ begun_rest) (sym c.client.ensures.script) in
    let s2 = Sent-more _ _ _ s1 client c.in_ok-write_entries.ensures.out in
    let s3 = Sent-more (line (codes "server")) _ _ s2 refl c.in_ok-write_all-2.ensures.out in
    let server : entries_text scripts.server ++ line (codes "end") ≡ entries_text c.server.result.now ++ line (codes "end") = ap (λ (es : List Entry). entries_text es ++ line (codes "end")) (sym c.server.ensures.script) in
    Sent-failed c.from_residual-in_err-write_entries-2.result _ _ _ c.from_residual-in_err-write_entries-2.ensures.0 s3 server c.in_err-write_entries-2.ensures.out

pub returns-clause-out : goal.returns-clause-out
returns-clause-out g c =
    let scripts = c.args.certificate.now in
    let begun_rest = line (codes "server") ++ (entries_text scripts.server ++ line (codes "end")) in
    let s1 = Sent-more first_lines _ _ (Sent-start _ (g.W.Sink.contents c.args.writer.now)) (certificate_text-parts scripts) c.in_ok-write_all.ensures.out in
    let client : entries_text scripts.client ++ begun_rest ≡ entries_text c.client.result.now ++ begun_rest = ap (λ (es : List Entry). entries_text es ++ begun_rest) (sym c.client.ensures.script) in
    let s2 = Sent-more _ _ _ s1 client c.in_ok-write_entries.ensures.out in
    let s3 = Sent-more (line (codes "server")) _ _ s2 refl c.in_ok-write_all-2.ensures.out in
    let server : entries_text scripts.server ++ line (codes "end") ≡ entries_text c.server.result.now ++ line (codes "end") = ap (λ (es : List Entry). entries_text es ++ line (codes "end")) (sym c.server.ensures.script) in
    let s4 = Sent-more _ _ _ s3 server c.in_ok-write_entries-2.ensures.out in
    Sent-last c.write_all-3.result _ s4 c.write_all-3.ensures.out

pub returns-clause-valid : goal.returns-clause-valid
returns-clause-valid g c =
    let client = subst AreEntries c.client.ensures.script c.in_ok-write_entries.ensures.valid in
    let server = subst AreEntries c.server.ensures.script c.in_ok-write_entries-2.ensures.valid in
    where_succeeded c.write_all-3.result ((client, server), c.client.ensures.few)
