use Rattle.std.proofs.Common.{◌≡◌, ℕ, List, Err, subst}
use Rattle.rasta_pdu.specs.Params.{Parameters}
use Rattle.rasta_cert.specs.Certificate.{IsCertificate}
use Rattle.rasta_check.specs.Capture.SentLists.{FirstCopy}
use Rattle.rasta_check.specs.Verdict.Report.{BothFit}
use Rattle.rasta_build.specs.Completeness.{IsComplete}
use Rattle.rasta_verdict.proofs.Judging.{judged_claims, refusal_claims, refusal_of}
use Rattle.rasta_verdict.proofs.Proposals.{judged_decided, judged_stands, none_decided, none_stands}
use Rattle.rasta_verdict.proofs.Verdicts.{refusal_told}
use Rattle.rasta_verdict.proofs.proposed.judge_proposed.Goals as goal

-- what the builder is asked about
abbrev Asked : Type 0
Asked = Parameters × ℕ × List FirstCopy × List FirstCopy

pub returns-in-Ok-clause-stands : goal.returns-in-Ok-clause-stands
returns-in-Ok-clause-stands c =
    let same : ◌≡◌ {A = Asked} (c.params.result, c.len.result, c.client.result, c.server.result) (_, _, c.args.store.now.client, c.args.store.now.server) =
    (λ i. (c.params.ensures.value i, c.len.ensures.value i, c.client.ensures.value i, c.server.ensures.value i)) in
    judged_stands c.judge_scripts.result c.args.store.now c.in-Ok.certificate
    (subst (λ (x : Asked). IsCertificate c.in-Ok.certificate × BothFit x.0 x.1 x.2 x.3 c.in-Ok.certificate) same c.in-Ok.ensures.fits)
    c.judge_scripts.ensures.judged

pub returns-in-Ok-clause-decided : goal.returns-in-Ok-clause-decided
returns-in-Ok-clause-decided c =
    let same : ◌≡◌ {A = Asked} (c.params.result, c.len.result, c.client.result, c.server.result) (_, _, c.args.store.now.client, c.args.store.now.server) =
    (λ i. (c.params.ensures.value i, c.len.ensures.value i, c.client.ensures.value i, c.server.ensures.value i)) in
    judged_decided c.judge_scripts.result c.args.store.now c.in-Ok.certificate
    (subst (λ (x : Asked). IsCertificate c.in-Ok.certificate × BothFit x.0 x.1 x.2 x.3 c.in-Ok.certificate) same c.in-Ok.ensures.fits)
    c.judge_scripts.ensures.judged

pub returns-in-Ok-clause-headline : goal.returns-in-Ok-clause-headline
returns-in-Ok-clause-headline c = judged_claims c.judge_scripts.result c.args.store.now c.in-Ok.certificate c.judge_scripts.ensures.judged

pub returns-in-Err-clause-stands : goal.returns-in-Err-clause-stands
returns-in-Err-clause-stands c = none_stands c.unscripted.result c.args.store.now c.client.result c.server.result c.in-Err.fault c.in-Err.ensures.refused c.unscripted.ensures.ok

pub returns-in-Err-clause-decided : goal.returns-in-Err-clause-decided
returns-in-Err-clause-decided c =
    let same : ◌≡◌ {A = Asked} (c.params.result, c.len.result, c.client.result, c.server.result) (_, _, c.args.store.now.client, c.args.store.now.server) =
    (λ i. (c.params.ensures.value i, c.len.ensures.value i, c.client.ensures.value i, c.server.ensures.value i)) in
    none_decided c.unscripted.result c.args.store.now c.client.result c.server.result c.in-Err.fault c.client.ensures.crossing
    (subst (λ (x : Asked). IsComplete x.0 x.2 x.3 (Err c.in-Err.fault)) same (subst (IsComplete c.params.result c.client.result c.server.result) c.in-Err.is c.propose_lists.ensures.complete))
    c.in-Err.ensures.refused c.unscripted.ensures.ok

pub returns-in-Err-clause-told : goal.returns-in-Err-clause-told
returns-in-Err-clause-told c = refusal_told c.unscripted.result c.in-Err.fault c.unscripted.ensures.ok

pub returns-in-Err-clause-headline : goal.returns-in-Err-clause-headline
returns-in-Err-clause-headline c = refusal_claims c.unscripted.result c.args.store.now c.in-Err.fault (refusal_of c.unscripted.result c.in-Err.fault c.unscripted.ensures.ok)
