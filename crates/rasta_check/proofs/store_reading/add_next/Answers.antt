use Rattle.std.proofs.Common.{◌∙◌, ap, inl, inr, sym, ⊎_elim, rules}
use Rattle.rasta_check.proofs.Prelude.{after_record}
use Rattle.rasta_check.proofs.Internals.PartialReading.{next_faulty, why}
use Rattle.rasta_check.proofs.store_reading.add_next.Goals as goal

pub returns-in-Err-add_record-clause-err : goal.returns-in-Err-add_record-clause-err
returns-in-Err-add_record-clause-err g c =
    let k = c.args.store.now in
    let found = rw c.in-Ok-Some.field-0-is at (c.in-Ok-Some.ensures.step.found c.requires) in
    ⊎_elim
    (λ e. inl (inl e))
    (λ e. inr (next_faulty k c.args.records.now c.in-Ok-Some.number _ c.in-Err-add_record.fault _ _ found (ap (λ b. after_record k (c.in-Ok-Some.number, b)) (sym c.buffer-bytes.ensures.bytes) ∙ e)))
    c.in-Err-add_record.ensures.value

pub returns-in-Err : goal.returns-in-Err
returns-in-Err g c =
    let w = why c.args.store.now _ c.args.records.now _ c.in-Err.fault _ _ _ _ (c.in-Err.ensures.step.err c.requires) in
    record { next = search rules; err = w.1; begun = w.0; within = search rules; steady = search rules }
