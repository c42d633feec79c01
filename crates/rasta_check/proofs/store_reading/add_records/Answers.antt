use Rattle.std.proofs.Common.{◌∙◌, ◌+◌, ◌-◌, ℕ, suc, refl, subst, inl, inr, ⊎_elim, arith, rules}
use Rattle.rasta_pcap.proofs.Extents.{HasRead-more, ReadsUpToRecord-part, ReadsUpToRecord-whole}
use Rattle.rasta_check.specs.Internals.Storing.{IsFailure}
use Rattle.rasta_check.proofs.Internals.PartialReading.{Underway-begun, Underway-ends, Underway-record, all_at_end, all_with_window, ReadsSo-then}
use Rattle.rasta_check.proofs.store_reading.add_records.Goals as goal
use Rattle.rasta_check.proofs.store_reading.add_records.Goals.{else-loop-test, then-loop-test+in-Ok-false}

pub returns-in-Err : goal.returns-in-Err
returns-in-Err g c =
    let more : ℕ = c.args.last - (c.loop.counter + 1) in
    record {
      value = search rules;
      err = ⊎_elim
          (λ e. inl (subst (λ n. IsFailure c.in-Err.fault n (g.R.Source.failure_count c.add_next.new.reader)) c.loop.invariant.1 e))
          (λ e. inr (Underway-ends _ _ _ _ _ _ (c.loop.invariant.0 (suc more) (omega (arith, c.loop-test.true))) (ReadsSo-then _ _ (λ bytes faults. faults more) e)))
          c.in-Err.ensures.err;
      begun = Underway-begun _ _ _ _ _ (c.loop.invariant.0 _ refl) c.in-Err.ensures.begun;
      bounded = λ first start. ReadsUpToRecord-part c.args.last _ c.loop.counter first _ _ (c.loop.invariant.4 first start) c.loop-test.true c.in-Err.ensures.within;
      steady = search rules;
    }

pub loop-preserved : goal.loop-preserved
loop-preserved g c =
    let added = rw c.in-Ok-true.field-0-test at c.in-Ok-true.ensures.next in (
      λ left e. Underway-record _ _ _ _ _ left _ _ _ (c.loop.invariant.0 (suc left) (omega (arith, c.loop-test.true))) added,
      c.in-Ok-true.ensures.steady ∙ c.loop.invariant.1,
      added.goes_on,
      omega (arith, c.loop-test.true),
      λ first start. rw added.order (HasRead-more _ c.loop.counter _ _ first _ _ (c.loop.invariant.4 first start) added.read),
    )

pub returns-clause-value : goal.returns-clause-value
returns-clause-value g c =
    let k = c.loop.store in
    let records = c.loop.records in
    elim c.loop-test.branch [
      | else-loop-test w ↦
          rw (w.reader-is, w.store-is) (Underway-ends _ _ _ _ _ _ (c.loop.invariant.0 0 (omega (arith, w.loop-test.false))) (all_with_window k records (g.R.Source.remaining c.loop.reader)))
      | then-loop-test+in-Ok-false w ↦
          let more : ℕ = c.args.last - (c.loop.counter + 1) in
          let end = rw w.in-Ok-false.field-0-test at w.in-Ok-false.ensures.next in
          rw (w.reader-is, w.store-is, end.0) (Underway-ends _ _ _ _ _ _ (c.loop.invariant.0 (suc more) (omega (arith, w.loop-test.true))) (all_at_end k records more _ _ end.1))
    ]

pub returns-clause-bounded : goal.returns-clause-bounded
returns-clause-bounded g c first start =
    let h = c.loop.invariant.4 first start in
    elim c.loop-test.branch [
      | else-loop-test w ↦ rw w.reader-is (ReadsUpToRecord-whole c.args.last _ c.loop.counter first _ h c.loop.invariant.3)
      | then-loop-test+in-Ok-false w ↦
          rw w.reader-is (ReadsUpToRecord-part c.args.last _ c.loop.counter first _ _ h w.loop-test.true w.in-Ok-false.ensures.within)
    ]
