use Rattle.std.proofs.Common.{◌≡◌, ◌∙◌, ◌+◌, ◌-◌, ℕ, List, ap, subst, sym, arith}
use Rattle.rasta_pcap.specs.Stream.{ReadsSo, count_in, order_in}
use Rattle.rasta_pcap.proofs.Sending.{where_begun, where_failed}
use Rattle.rasta_show.specs.Show.{packet, passed_over, refused, sight_of}
use Rattle.rasta_line.specs.Runs.{WritesText}
use Rattle.rasta_show.specs.Shown.{packet_of, status_left, text_left}
use Rattle.rasta_show.proofs.Bounds.{GoesUpToRecord-part, GoesUpToRecord-whole, HasReadMore-more}
use Rattle.rasta_show.proofs.Refusals.{broken_run, where_broken, where_refused}
use Rattle.rasta_show.proofs.Showing.{left-after, nothing, refusal, text_from-fault, text_from-nothing}
use Rattle.rasta_show.proofs.Streaming.{Streams-broken, Streams-ends, Streams-ends_begun, Streams-left, Streams-packet, Streams-packet_begun, Streams-passed, ends_at_end, ends_at_fault, ends_refused, ends_with_window, left_shown, refused_answer, sees_record}
use Rattle.rasta_show.proofs.show.write_records.Goals as goal
use Rattle.rasta_show.proofs.show.write_records.Goals.{else-loop-test, in-Packet+in_ok-write_packet-in-Packet, in-PassedOver, then-loop-test+in-Ok-None}

-- ---- the stream is refused, or breaks off

pub returns-in-Err-clause-text : goal.returns-in-Err-clause-text
returns-in-Err-clause-text g c =
    let end : ℕ = c.last_record-end.result in
    let records = c.loop.records in
    let why = where_refused _ _ _ _ c.in-Err.fault _ _ _ _ (sym c.if-is_refusal.ensures) (c.in-Err.ensures.step.err c.loop.invariant.3) in
    let left = ends_at_fault c.args.params.now (end - (c.loop.counter + 1)) (order_in records) (count_in records) c.in-Err.fault _ _ why in
    refused_answer (λ status. WritesText (text_left c.args.params.now c.args.records) (status_left c.args.params.now c.args.records) status
    (g.R.Source.remaining c.args.reader.now) (g.R.Source.remaining c.advance.new.reader)
    (g.W.Sink.contents c.args.writer.now) (g.W.Sink.contents c.write_refusal.new.writer))
    c.write_refusal.result _ _ _
    (λ out. Streams-ends _ _ c.loop.place (refusal c.in-Err.fault) _ _ _ _ _ _ _
    (Streams-left _ _ _ _ _ end c.loop.counter _ _ _ _ c.loop-test.true c.loop.invariant.0) left (text_from-fault c.loop.place c.in-Err.fault) out)
    c.write_refusal.ensures.out c.write_refusal.ensures.answered

pub returns-in-Err-clause-begun : goal.returns-in-Err-clause-begun
returns-in-Err-clause-begun g c =
    let end : ℕ = c.last_record-end.result in
    let records = c.loop.records in
    let why = where_refused _ _ _ _ c.in-Err.fault _ _ _ _ (sym c.if-is_refusal.ensures) (c.in-Err.ensures.step.err c.loop.invariant.3) in
    let left = ends_at_fault c.args.params.now (end - (c.loop.counter + 1)) (order_in records) (count_in records) c.in-Err.fault _ _ why in
    where_begun c.write_refusal.result _ _ _ (λ begun. Streams-ends_begun _ _ c.loop.place (refusal c.in-Err.fault) _ _ _ _ _ _ _
    (Streams-left _ _ _ _ _ end c.loop.counter _ _ _ _ c.loop-test.true c.loop.invariant.0) left (text_from-fault c.loop.place c.in-Err.fault) begun)
    c.write_refusal.ensures.out

pub returns-in-Err-2-clause-begun : goal.returns-in-Err-2-clause-begun
returns-in-Err-2-clause-begun g c =
    let why = where_broken _ _ _ _ c.in-Err.fault _ _ _ _ (sym c.if-is_refusal.ensures) (c.in-Err.ensures.step.err c.loop.invariant.3) in
    Streams-broken _ _ c.loop.place why.0 _ _ _ _ _ c.loop.invariant.0 why.1

pub returns-in-Err-2-clause-err : goal.returns-in-Err-2-clause-err
returns-in-Err-2-clause-err g c =
    let why = where_broken _ _ _ _ c.in-Err.fault _ _ _ _ (sym c.if-is_refusal.ensures) (c.in-Err.ensures.step.err c.loop.invariant.3) in
    broken_run c.in-Err.fault _ _ _ _ _ c.loop.invariant.1 why.2

-- ---- a record is shown

pub returns-in_err-write_packet-in-Packet-clause-begun :
    goal.returns-in_err-write_packet-in-Packet-clause-begun
returns-in_err-write_packet-in-Packet-clause-begun g c =
    let p = c.args.params.now in
    let end : ℕ = c.last_record-end.result in
    let records = c.loop.records in
    let q = packet_of c.in-Packet.packet in
    let found = rw c.in-Ok-Some.field-0-is at (c.in-Ok-Some.ensures.step.found c.loop.invariant.3) in
    let seen = sees_record p (end - (c.loop.counter + 1)) (order_in records) (count_in records) _ (packet q) _ _ found
    (c.in-Packet.ensures.sight ∙ ap (λ (b : List ℕ). sight_of p (c.in-Ok-Some.number, b)) c.buffer-bytes.ensures.bytes) in
    where_failed c.from_residual.result (Streams-packet_begun _ _ _ c.loop.place q _ _ _ _ _ _
    (Streams-left _ _ _ _ _ end c.loop.counter _ _ _ _ c.loop-test.true c.loop.invariant.0) seen c.in_err-write_packet-in-Packet.ensures.out)

pub returns-in-Refused-clause-text : goal.returns-in-Refused-clause-text
returns-in-Refused-clause-text g c =
    let p = c.args.params.now in
    let end : ℕ = c.last_record-end.result in
    let records = c.loop.records in
    let f = c.in-Refused.fault in
    let found = rw c.in-Ok-Some.field-0-is at (c.in-Ok-Some.ensures.step.found c.loop.invariant.3) in
    let seen = sees_record p (end - (c.loop.counter + 1)) (order_in records) (count_in records) _ (refused f) _ _ found
    (c.in-Refused.ensures.sight ∙ ap (λ (b : List ℕ). sight_of p (c.in-Ok-Some.number, b)) c.buffer-bytes.ensures.bytes) in
    refused_answer (λ status. WritesText (text_left p c.args.records) (status_left p c.args.records) status
    (g.R.Source.remaining c.args.reader.now) (g.R.Source.remaining c.advance.new.reader)
    (g.W.Sink.contents c.args.writer.now) (g.W.Sink.contents c.write_refusal-in-Refused.new.writer))
    c.write_refusal-in-Refused.result _ _ _
    (λ out. Streams-ends _ _ c.loop.place (refusal f) _ _ _ _ _ _ _
    (Streams-left _ _ _ _ _ end c.loop.counter _ _ _ _ c.loop-test.true c.loop.invariant.0) (ends_refused _ (left_shown p (end - (c.loop.counter + 1)) (order_in records) c.in-Ok-Some.number) f _ _ seen) (text_from-fault c.loop.place f) out)
    c.write_refusal-in-Refused.ensures.out c.write_refusal-in-Refused.ensures.answered

pub returns-in-Refused-clause-begun : goal.returns-in-Refused-clause-begun
returns-in-Refused-clause-begun g c =
    let p = c.args.params.now in
    let end : ℕ = c.last_record-end.result in
    let records = c.loop.records in
    let f = c.in-Refused.fault in
    let found = rw c.in-Ok-Some.field-0-is at (c.in-Ok-Some.ensures.step.found c.loop.invariant.3) in
    let seen = sees_record p (end - (c.loop.counter + 1)) (order_in records) (count_in records) _ (refused f) _ _ found
    (c.in-Refused.ensures.sight ∙ ap (λ (b : List ℕ). sight_of p (c.in-Ok-Some.number, b)) c.buffer-bytes.ensures.bytes) in
    where_begun c.write_refusal-in-Refused.result _ _ _ (λ begun. Streams-ends_begun _ _ c.loop.place (refusal f) _ _ _ _ _ _ _
    (Streams-left _ _ _ _ _ end c.loop.counter _ _ _ _ c.loop-test.true c.loop.invariant.0) (ends_refused _ (left_shown p (end - (c.loop.counter + 1)) (order_in records) c.in-Ok-Some.number) f _ _ seen) (text_from-fault c.loop.place f) begun)
    c.write_refusal-in-Refused.ensures.out

pub loop-preserved : goal.loop-preserved
loop-preserved g c =
    let p = c.args.params.now in
    let end : ℕ = c.last_record-end.result in
    let k = end - (c.loop.counter + 1) in
    let old = c.loop.records in
    let step = c.in-Ok-Some.ensures.step in
    let found = rw c.in-Ok-Some.field-0-is at (step.found c.loop.invariant.3) in
    let count = rw c.in-Ok-Some.field-0-is at step.count in
    let progress = rw c.in-Ok-Some.field-0-is at step.progress in
    let sight = ap (λ (b : List ℕ). sight_of p (c.in-Ok-Some.number, b)) c.buffer-bytes.ensures.bytes in
    let before = Streams-left _ _ _ _ _ end c.loop.counter _ _ _ _ c.loop-test.true c.loop.invariant.0 in
    let one_more = HasReadMore-more _ (order_in old) c.loop.counter (count_in old) _ _ _ _ c.loop.invariant.7 found in
    elim c.match-sight.branch [
      | in-PassedOver w ↦ (
        rw (w.writer-is, w.place-is, step.order, count) (Streams-passed _ _ _ c.loop.place _ _ _ _ _ before
            (sees_record p k (order_in old) (count_in old) _ passed_over _ _ found (w.in-PassedOver.ensures.sight ∙ sight))),
        step.steady ∙ c.loop.invariant.1,
        rw w.writer-is c.loop.invariant.2,
        progress,
        omega arith,
        c.loop.invariant.5,
        omega arith,
        rw step.order one_more,
        c.sight.ensures.params ∙ c.loop.invariant.8,
      )
      | in-Packet+in_ok-write_packet-in-Packet w ↦
          let q = packet_of w.in-Packet.packet in (
            rw (w.writer-is, w.place-is, step.order, count) (Streams-packet _ _ _ c.loop.place q _ _ _ _ _ _ before
                (sees_record p k (order_in old) (count_in old) _ (packet q) _ _ found (w.in-Packet.ensures.sight ∙ sight))
                w.in_ok-write_packet-in-Packet.ensures.out),
            step.steady ∙ c.loop.invariant.1,
            rw w.writer-is (w.in_ok-write_packet-in-Packet.ensures.written ∙ c.loop.invariant.2),
            progress,
            omega arith,
            c.loop.invariant.5,
            omega arith,
            rw step.order one_more,
            c.sight.ensures.params ∙ c.loop.invariant.8,
          )
    ]

-- ---- the records end

pub returns-in_err-write_all-clause-begun : goal.returns-in_err-write_all-clause-begun
returns-in_err-write_all-clause-begun g c =
    let p = c.args.params.now in
    let end : ℕ = c.last_record-end.result in
    let order = order_in c.loop.records in
    let count = count_in c.loop.records in
    let old = g.R.Source.remaining c.loop.reader in
    let ended : ReadsSo (λ bytes. left_shown p (end - c.loop.counter) order count bytes ≡ nothing) old (g.R.Source.remaining c.loop-test.reader) =
    elim c.loop-test.branch [
      | else-loop-test w ↦
          let none_left : end - c.loop.counter ≡ 0 = omega (arith, w.loop-test.false) in
          rw w.reader-is (subst (λ n. ReadsSo (λ bytes. left_shown p n order count bytes ≡ nothing) old old) (sym none_left)
          (ends_with_window p order count old))
      | then-loop-test+in-Ok-None w ↦
          rw w.reader-is (subst (λ n. ReadsSo (λ bytes. left_shown p n order count bytes ≡ nothing) old (g.R.Source.remaining w.advance.new.reader))
          (sym (left-after end c.loop.counter w.loop-test.true))
          (ends_at_end p (end - (c.loop.counter + 1)) order count _ _
          (rw w.in-Ok-None.field-0-is at (w.in-Ok-None.ensures.step.found c.loop.invariant.3))))
    ] in
    where_failed c.from_residual-in_err-write_all.result (Streams-ends_begun _ _ c.loop.place nothing c.as_bytes.result.now _ _ _ _ _ _
    c.loop.invariant.0 ended (text_from-nothing c.loop.place ∙ sym (c.as_bytes.ensures ∙ c.count_line.ensures))
    c.in_err-write_all.ensures.out)

pub returns-clause-text : goal.returns-clause-text
returns-clause-text g c =
    let p = c.args.params.now in
    let end : ℕ = c.last_record-end.result in
    let order = order_in c.loop.records in
    let count = count_in c.loop.records in
    let old = g.R.Source.remaining c.loop.reader in
    let ended : ReadsSo (λ bytes. left_shown p (end - c.loop.counter) order count bytes ≡ nothing) old (g.R.Source.remaining c.loop-test.reader) =
    elim c.loop-test.branch [
      | else-loop-test w ↦
          let none_left : end - c.loop.counter ≡ 0 = omega (arith, w.loop-test.false) in
          rw w.reader-is (subst (λ n. ReadsSo (λ bytes. left_shown p n order count bytes ≡ nothing) old old) (sym none_left)
          (ends_with_window p order count old))
      | then-loop-test+in-Ok-None w ↦
          rw w.reader-is (subst (λ n. ReadsSo (λ bytes. left_shown p n order count bytes ≡ nothing) old (g.R.Source.remaining w.advance.new.reader))
          (sym (left-after end c.loop.counter w.loop-test.true))
          (ends_at_end p (end - (c.loop.counter + 1)) order count _ _
          (rw w.in-Ok-None.field-0-is at (w.in-Ok-None.ensures.step.found c.loop.invariant.3))))
    ] in
    Streams-ends _ _ c.loop.place nothing c.as_bytes.result.now _ _ _ _ _ _
    c.loop.invariant.0 ended (text_from-nothing c.loop.place ∙ sym (c.as_bytes.ensures ∙ c.count_line.ensures))
    c.in_ok-write_all.ensures.out

-- ---- nothing is read after the window's last record

pub returns-in-Err-clause-bounded : goal.returns-in-Err-clause-bounded
returns-in-Err-clause-bounded g c = GoesUpToRecord-part _ c.last_record-end.result _ (order_in c.loop.records) c.loop.counter _ _ _
    c.loop.invariant.7 c.loop-test.true c.loop.invariant.5 (c.in-Err.ensures.step.within c.loop.invariant.3)

pub returns-in-Err-2-clause-bounded : goal.returns-in-Err-2-clause-bounded
returns-in-Err-2-clause-bounded g c = GoesUpToRecord-part _ c.last_record-end.result _ (order_in c.loop.records) c.loop.counter _ _ _
    c.loop.invariant.7 c.loop-test.true c.loop.invariant.5 (c.in-Err.ensures.step.within c.loop.invariant.3)

pub returns-in_err-write_packet-in-Packet-clause-bounded : goal.returns-in_err-write_packet-in-Packet-clause-bounded
returns-in_err-write_packet-in-Packet-clause-bounded g c = GoesUpToRecord-part _ c.last_record-end.result _ (order_in c.loop.records) c.loop.counter _ _ _
    c.loop.invariant.7 c.loop-test.true c.loop.invariant.5 (c.in-Ok-Some.ensures.step.within c.loop.invariant.3)

pub returns-in-Refused-clause-bounded : goal.returns-in-Refused-clause-bounded
returns-in-Refused-clause-bounded g c = GoesUpToRecord-part _ c.last_record-end.result _ (order_in c.loop.records) c.loop.counter _ _ _
    c.loop.invariant.7 c.loop-test.true c.loop.invariant.5 (c.in-Ok-Some.ensures.step.within c.loop.invariant.3)

pub returns-in_err-write_all-clause-bounded : goal.returns-in_err-write_all-clause-bounded
returns-in_err-write_all-clause-bounded g c =
    let limit = c.args.params.now.last_record in
    let end : ℕ = c.last_record-end.result in
    let order = order_in c.loop.records in
    elim c.loop-test.branch [
      | else-loop-test w ↦ rw w.reader-is (GoesUpToRecord-whole limit end _ order c.loop.counter _ _ c.loop.invariant.7 c.loop.invariant.6 c.loop.invariant.5)
      | then-loop-test+in-Ok-None w ↦ rw w.reader-is (GoesUpToRecord-part limit end _ order c.loop.counter _ _ _
          c.loop.invariant.7 w.loop-test.true c.loop.invariant.5 (w.in-Ok-None.ensures.step.within c.loop.invariant.3))
    ]

pub returns-clause-bounded : goal.returns-clause-bounded
returns-clause-bounded g c =
    let limit = c.args.params.now.last_record in
    let end : ℕ = c.last_record-end.result in
    let order = order_in c.loop.records in
    elim c.loop-test.branch [
      | else-loop-test w ↦ rw w.reader-is (GoesUpToRecord-whole limit end _ order c.loop.counter _ _ c.loop.invariant.7 c.loop.invariant.6 c.loop.invariant.5)
      | then-loop-test+in-Ok-None w ↦ rw w.reader-is (GoesUpToRecord-part limit end _ order c.loop.counter _ _ _
          c.loop.invariant.7 w.loop-test.true c.loop.invariant.5 (w.in-Ok-None.ensures.step.within c.loop.invariant.3))
    ]
