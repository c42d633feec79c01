use Rattle.std.proofs.Common.{inl, inr, ⊎_elim, subst, rules}
use Rattle.rasta_check.proofs.Prelude.{MatchResult-weaker, Crossing, OfConnection}
use Rattle.std.proofs.lemmas.Result.{IfOk-weaker, on_err_weaker}
use Rattle.rasta_pcap.proofs.Extents.{HasRead-opened, ReadsUpToRecord-header}
use Rattle.rasta_check.proofs.Internals.PartialReading.{Underway-begun, Underway-opened, header_answer, refused, refused_names_side, stored}
use Rattle.rasta_check.proofs.store_reading.store.Goals as goal

pub returns-in-Ok : goal.returns-in-Ok
returns-in-Ok g c =
    let h : OfConnection c.args.p = subst (λ (k : Crossing). OfConnection k.params) c.new.ensures.value c.new.ensures.crossing.valid in
    let opened = Underway-opened c.args.p c.new.result c.in-Ok.records c.last_record-last.result _ _ c.in-Ok.ensures.opened c.in-Ok.ensures.start.0
    c.new.ensures.value c.last_record-last.ensures.value in
    let err = MatchResult-weaker c.add_records.result c.add_records.ensures.err (λ k e. tt)
    (λ f. ⊎_elim (λ e. inl (rw c.in-Ok.ensures.steady at e)) (λ e. inr (refused c.args.p h _ _ _ _ opened f e))) in
    record {
      value = IfOk-weaker c.add_records.result _ _ (stored c.args.p h _ _ _ _ opened) c.add_records.ensures.value;
      err = err;
      side = MatchResult-weaker c.add_records.result err (λ k e. tt) (λ f. refused_names_side c.args.p f _ _ _ _);
      begun = on_err_weaker c.add_records.result (Underway-begun _ _ _ _ _ opened) c.add_records.ensures.begun;
      bounded = rw (← c.last_record-last.ensures.value) (c.add_records.ensures.bounded _ (HasRead-opened _ _ _ c.in-Ok.ensures.opened));
      steady = search rules;
    }

pub returns-in-Err : goal.returns-in-Err
returns-in-Err g c =
    let answer = header_answer c.args.p _ c.in-Err.fault _ _ _ _ c.last_record-last.ensures.valid c.in-Err.ensures.err in
    record {
      value = search rules;
      err = answer.1;
      side = refused_names_side c.args.p c.in-Err.fault _ _ _ _ answer.1;
      begun = answer.0;
      bounded = ReadsUpToRecord-header c.args.p.last_record _ _ c.in-Err.ensures.bounded;
      steady = search rules;
    }
