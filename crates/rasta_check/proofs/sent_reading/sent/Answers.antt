use Rattle.std.proofs.Common.{◌≡◌, ◌⊎◌, Ok, Err, ap, sym, inl, inr, ⊎_elim, subst, MatchResult, arith}
use Rattle.rasta_check.proofs.Prelude.{MatchResult-weaker, Fault, no_memory, AreBytes, Crossing, crossing_of, OfConnection, in_header}
use Rattle.rasta_check.proofs.Capture.Readings.{after-opened, after-refused}
use Rattle.rasta_check.proofs.Capture.DefiniteFaults.{is_definite, opening_definite}
use Rattle.rasta_check.proofs.Capture.FaultlessCaptures.{crossed_in}
use Rattle.rasta_check.proofs.Capture.RefusedCaptures.{is_refused, opening_faulty, read_is_faulty}
use Rattle.rasta_check.proofs.Capture.FaultNumbers.{file_names_side, memory_names_side}
use Rattle.rasta_check.proofs.sent_reading.sent.Goals as goal

connection : (c : goal.After-add_records) → OfConnection c.args.p
connection c = subst (λ (k : Crossing). OfConnection k.params) c.new.ensures.value c.new.ensures.crossing.valid

bytes : (c : goal.After-add_records) → AreBytes c.args.file.now
bytes c = record { fits = λ i. omega (arith, c.type_inv.file i) }

-- memory aside, this is what the file reads as
all_read : (c : goal.After-add_records) → MatchResult c.add_records.result (λ s. crossing_of c.args.p c.args.file.now ≡ Ok s) (λ f. (f ≡ no_memory) ⊎ (crossing_of c.args.p c.args.file.now ≡ Err f))
all_read c = grind (arith, after-opened)

pub returns-in-Ok : goal.returns-in-Ok
returns-in-Ok c =
    let p = c.args.p in
    let file = c.args.file.now in
    let h = connection c in
    let are = bytes c in
    let read = all_read c in
    record {
      value = MatchResult-weaker c.add_records.result read (λ s. crossed_in p file s h are) (λ f. ⊎_elim (λ e. inl e) (λ e. inr (is_refused p file h are f e)));
      only = MatchResult-weaker c.add_records.result read (λ s e. tt) (λ f. ⊎_elim (λ e. inl e) (λ e. inr (read_is_faulty p file f h are e)));
      side = MatchResult-weaker c.add_records.result read (λ s e. tt) (λ f. ⊎_elim (memory_names_side f) (file_names_side p file f));
      definite = MatchResult-weaker c.add_records.result read (λ s e. tt)
          (λ f. ⊎_elim (λ e is. absurd (let none = ap (λ (x : Fault). x.end) e in cc)) (λ e is. (is_definite p file f h are e is).impossible));
    }

pub returns-in-Err : goal.returns-in-Err
returns-in-Err c =
    let p = c.args.p in
    let file = c.args.file.now in
    let f = c.in-Err.fault in
    let none = sym c.in-Err.ensures in
    record {
      value = inr (in_header f none);
      only = inr (opening_faulty p file f c.last_record-last.ensures.valid none);
      side = file_names_side p file f (after-refused p file f none);
      definite = opening_definite p file f none;
    }
