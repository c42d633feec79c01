use Rattle.std.proofs.Common.{[], ◌∷◌, ◌++◌, refl, sym}
use Rattle.std.proofs.lemmas.Result.{IfOk-weaker}
use Rattle.rasta_pcap.proofs.Sending.{where_succeeded}
use Rattle.seatmelon_reading.proofs.Passing.{noted_next}
use Rattle.seatmelon_reading.proofs.Told.{true_as}
use Rattle.seatmelon_reading.proofs.pass.Pass.add.Goals as goal

pub returns-clause-noted : goal.returns-clause-noted
returns-clause-noted c = IfOk-weaker c.note.result _ _
    (λ _ note records r noted is next timed.
    let pass = c.args.self.now in
    noted_next pass.notes c.pass.new.self.notes c.note.new.self pass.params pass.without.now records r (c.args.record.now.number, c.args.record.now.bytes.now) c.args.time c.window_place-place.result
    c.of-sight.result c.in_ok-pass.ensures.kept.notes note c.window_place-place.ensures c.of-sight.ensures noted is next timed)
    c.note.ensures.noted

pub returns-clause-told : goal.returns-clause-told
returns-clause-told c = where_succeeded c.note.result (λ records q passed count is timed.
    true_as _ _ _ _ _ _ (records ++ q ∷ []) c.pass.new.self.refusal (sym c.note.ensures.kept) refl refl
    (c.in_ok-pass.ensures.told records q (record { noted = passed.noted; lower = passed.lower; stored = passed.stored; refused = passed.refused; told = passed.told }) count is timed))
