use Rattle.std.proofs.Common.{ap, refl, sym}
use Rattle.rasta_pcap.proofs.Extents.{HasRead-opened}
use Rattle.rasta_pcap.proofs.Sending.{on_err_map, where_begun}
use Rattle.rasta_show.specs.Show.{Shown, show_status, show_text, shown, status_after, text_from}
use Rattle.rasta_line.specs.Runs.{WritesText}
use Rattle.rasta_show.specs.Shown.{status_left, text_left}
use Rattle.rasta_show.proofs.Refusals.{broken_run, header_broken, header_refused}
use Rattle.rasta_show.proofs.Showing.{refusal, text_from-fault}
use Rattle.rasta_show.proofs.Streaming.{Streams-broken, Streams-ends, Streams-ends_begun, Streams-start, WritesBeginning-after, WritesText-after, ends_at_header, if_ok_map, opened_shown, refused_answer}
use Rattle.rasta_show.proofs.show.run_show.Goals as goal

pub returns-in-Ok-clause-text : goal.returns-in-Ok-clause-text
returns-in-Ok-clause-text g c =
    let p = c.args.params.now in
    let records = c.in-Ok.records in
    let header = c.in-Ok.ensures.opened in
    let same = opened_shown p records _ _ header c.in-Ok.ensures.start.0 in
    if_ok_map _ _ c.write_records.result
    (λ status h. WritesText-after (text_left p records) (show_text p) (status_left p records) (show_status p) status header.bytes _ _ _ _ _ header.consumed
    (λ rest. ap (text_from 0) (same rest)) (λ rest. ap (λ (s : Shown). status_after s.fault) (same rest)) h)
    c.write_records.ensures.text

pub returns-in-Ok-clause-begun : goal.returns-in-Ok-clause-begun
returns-in-Ok-clause-begun g c =
    let p = c.args.params.now in
    let records = c.in-Ok.records in
    let header = c.in-Ok.ensures.opened in
    let same = opened_shown p records _ _ header c.in-Ok.ensures.start.0 in
    on_err_map c.write_records.result
    (λ h. WritesBeginning-after (text_left p records) (show_text p) header.bytes _ _ _ _ _ header.consumed (λ rest. ap (text_from 0) (same rest)) h)
    c.write_records.ensures.begun

pub returns-in-Err-clause-text : goal.returns-in-Err-clause-text
returns-in-Err-clause-text g c =
    let p = c.args.params.now in
    let f = c.in-Err.fault in
    let header = header_refused _ f _ _ _ _ (sym c.if-is_refusal.ensures) c.in-Err.ensures.err in
    refused_answer (λ status. WritesText (show_text p) (show_status p) status
    (g.R.Source.remaining c.args.reader.now) (g.R.Source.remaining c.open.new.reader)
    (g.W.Sink.contents c.args.writer.now) (g.W.Sink.contents c.write_refusal.new.writer))
    c.write_refusal.result _ _ _
    (λ out. Streams-ends (shown p) _ 0 (refusal f) _ _ _ _ _ _ _ (Streams-start (shown p) _ _) (ends_at_header p f _ _ header) (text_from-fault 0 f) out)
    c.write_refusal.ensures.out c.write_refusal.ensures.answered

pub returns-in-Err-clause-begun : goal.returns-in-Err-clause-begun
returns-in-Err-clause-begun g c =
    let p = c.args.params.now in
    let f = c.in-Err.fault in
    let header = header_refused _ f _ _ _ _ (sym c.if-is_refusal.ensures) c.in-Err.ensures.err in
    where_begun c.write_refusal.result _ _ _
    (λ begun. Streams-ends_begun (shown p) _ 0 (refusal f) _ _ _ _ _ _ _ (Streams-start (shown p) _ _) (ends_at_header p f _ _ header) (text_from-fault 0 f) begun)
    c.write_refusal.ensures.out

pub returns-in-Err-2-clause-begun : goal.returns-in-Err-2-clause-begun
returns-in-Err-2-clause-begun g c =
    let p = c.args.params.now in
    let why = header_broken _ c.in-Err.fault _ _ _ _ (sym c.if-is_refusal.ensures) c.in-Err.ensures.err in
    Streams-broken (shown p) _ 0 why.0 _ _ _ _ _ (Streams-start (shown p) _ _) why.1

pub returns-in-Err-2-clause-err : goal.returns-in-Err-2-clause-err
returns-in-Err-2-clause-err g c =
    let why = header_broken _ c.in-Err.fault _ _ _ _ (sym c.if-is_refusal.ensures) c.in-Err.ensures.err in
    broken_run c.in-Err.fault _ _ _ _ _ refl why.2

pub returns-in-Ok-clause-bounded : goal.returns-in-Ok-clause-bounded
returns-in-Ok-clause-bounded g c = c.write_records.ensures.bounded _ (HasRead-opened _ _ _ c.in-Ok.ensures.opened)
