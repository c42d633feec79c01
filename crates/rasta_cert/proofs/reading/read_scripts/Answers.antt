use Rattle.std.proofs.Common.{◌≡◌, inr, ◌++◌, ℕ, List, [], length, nat_eq, sym, subst, ap, ◌∙◌, arith}
use Rattle.std.proofs.lemmas.Bool.{eqb-true, false≢true}
use Rattle.std.proofs.lemmas.List.{append-nil, nil_from_length}
use Rattle.std.proofs.lemmas.Result.{err_from_is_err_and}
use Rattle.rasta_pcap.specs.Fault.{fault_at, wrong_syntax}
use Rattle.rasta_cert.specs.Certificate.{AreScripts, certificate_text}
use Rattle.rasta_cert.proofs.ReadingLemmas.{if_ok, or_refused, refused_at_first, refused_at_second, refused_after, refused_in_client, refused_in_server, whole_text}
use Rattle.rasta_cert.proofs.reading.read_scripts.Goals as goal

pub returns-in_default-clause-err : goal.returns-in_default-clause-err
returns-in_default-clause-err c = inr (refused_at_first c.args.text.now c.at.result c.in_default.ensures.none c.at.ensures)

pub returns-in_default-after_line-clause-err : goal.returns-in_default-after_line-clause-err
returns-in_default-after_line-clause-err c =
    inr (refused_at_second c.args.text.now c.in-Some.rest.now c.at-in_default-after_line.result c.in-Some.ensures.found c.in_default-after_line.ensures.none c.at-in_default-after_line.ensures)

pub returns-in_err-client-clause-err : goal.returns-in_err-client-clause-err
returns-in_err-client-clause-err c =
    let p = err_from_is_err_and c.from_residual.result c.from_residual.ensures.1 in
    rw (p.1, p.2) (or_refused c.in_err-client.ensures.err
    λ broken. refused_in_client c.args.text.now c.in-Some.rest.now c.in-Some-after_line.rest.now _ c.in-Some.ensures.found c.in-Some-after_line.ensures.found broken)

pub returns-in_err-server-clause-err : goal.returns-in_err-server-clause-err
returns-in_err-server-clause-err c =
    let p = err_from_is_err_and c.from_residual-in_err-server.result c.from_residual-in_err-server.ensures.1 in
    rw (p.1, p.2) (or_refused c.in_err-server.ensures.err
    λ broken. refused_in_server c.args.text.now c.in-Some.rest.now c.in-Some-after_line.rest.now c.in_ok-client.client.rest.now c.in_ok-client.client.entries.items _ _ _
    (omega (arith, c.len-first.ensures)) (omega (arith, c.len-most.ensures)) c.in-Some.ensures.found c.in-Some-after_line.ensures.found c.in_ok-client.ensures.ok broken)

pub returns-then-not-is_empty-clause-err : goal.returns-then-not-is_empty-clause-err
returns-then-not-is_empty-clause-err c =
    inr (refused_after c.args.text.now c.in-Some.rest.now c.in-Some-after_line.rest.now c.in_ok-client.client.rest.now c.in_ok-server.server.rest.now
    c.in_ok-client.client.entries.items c.in_ok-server.server.entries.items _ c.at-then-not-is_empty.result (omega (arith, c.len-most.ensures))
    c.in-Some.ensures.found c.in-Some-after_line.ensures.found c.in_ok-client.ensures.ok c.in_ok-server.ensures.ok
    (λ none. false≢true (c.if-not-is_empty.ensures ∙ ap (λ (l : List ℕ). nat_eq (length l) 0) none))
    (c.at-then-not-is_empty.ensures ∙ ap (λ (n : ℕ). fault_at wrong_syntax n) (omega (arith, c.len-first.ensures, c.len.ensures))))

pub returns-clause-ok : goal.returns-clause-ok
returns-clause-ok c =
    let rest = c.in_ok-server.server.rest.now in
    let none : rest ≡ [] = nil_from_length rest (eqb-true (length rest) 0 (sym c.if-not-is_empty.ensures)) in
    let client = c.in_ok-client.ensures.ok in
    let server = c.in_ok-server.ensures.ok in
    let whole = whole_text c.args.text.now c.in-Some.rest.now c.in-Some-after_line.rest.now c.in_ok-client.client.rest.now rest _ _ _
    c.in-Some.ensures.found c.in-Some-after_line.ensures.found client server in
    if_ok c.new.result _ _ _ c.new.ensures λ d made. (
      whole ∙ ap (λ (l : List ℕ). certificate_text (record { client = c.in_ok-client.client.entries.items; server = c.in_ok-server.server.entries.items }) ++ l) none
          ∙ append-nil _ ∙ ap certificate_text (sym made.0),
      (subst AreScripts (sym made.0) (client.valid, server.valid), made.1),
    )
