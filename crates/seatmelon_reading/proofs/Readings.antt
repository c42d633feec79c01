-- A reading is made of what was passed.
use Rattle.std.proofs.Common.{◌≡◌, ◌∙◌, ℕ, List, [], take, Option, None, Some, Result, Ok, IfSome, ap, sym, subst}
use Rattle.sha2.specs.Sha256.{sha256}
use Rattle.rasta_pcap.specs.declared.fault.Fault.{Fault}
use Rattle.rasta_pcap.specs.Captured.{Captured, captured_in}
use Rattle.rasta_pdu.specs.Params.{Parameters}
use Rattle.rasta_check.specs.Capture.Building.{crossed_in}
use Rattle.rasta_check.specs.Capture.Crossing.{Crossing, nothing_crossed}
use Rattle.seatmelon_capture.specs.Header.{header_in}
use Rattle.seatmelon_capture.specs.declared.header.FileHeader.{FileHeader}
use Rattle.seatmelon_pcapng.specs.Formats.{capture_of, format_of}
use Rattle.seatmelon_pcapng.specs.Peeked.{begins_pcapng}
use Rattle.seatmelon_pcapng.specs.declared.format.Format.{Format}
use Rattle.seatmelon_reading.specs.Noted.{AreNotes}
use Rattle.seatmelon_reading.specs.Passing.{AreUnjudged, IsBegun, IsPassed}
use Rattle.seatmelon_reading.specs.Reading.{HasCrossed, IsReading, crossing_without, standing_in, standing_with}
use Rattle.seatmelon_reading.specs.Tapes.{taped_in}
use Rattle.seatmelon_reading.specs.Told.{due_of}
use Rattle.seatmelon_reading.specs.declared.notes.Notes.{Notes}
use Rattle.seatmelon_reading.specs.declared.pass.Pass.{Pass}
use Rattle.seatmelon_reading.proofs.Told.{true_as}
use Rattle.seatmelon_reading.proofs.Unjudged.{unjudged_behind, unjudged_as}

abbrev crossed : Crossing → Result Crossing Fault
crossed k = Ok k

notes_with : (p q : Parameters) (v w : List ℕ) (records : List Captured) (n : Notes) → p ≡ q → v ≡ w → AreNotes p v records n → AreNotes q w records n
notes_with p q v w records n e f h = subst (λ (x : List ℕ). AreNotes q x records n) f (subst (λ (x : Parameters). AreNotes x v records n) e h)

made_of : (p : Parameters) (without : List ℕ) (input : Option (List ℕ)) (start last : Pass) (store : Crossing) (digest : List ℕ) (header : Option FileHeader) (format : Format)
    → start.params ≡ p → start.without.now ≡ without → standing_in start ≡ Ok (nothing_crossed p) → AreNotes p without [] start.notes → taped_in start.unjudged ≡ [] → store ≡ crossed_in last.builder
    → IfSome input (λ file. start.notes.zero_is_no_time ≡ begins_pcapng file) → IfSome input (λ file. IsPassed (capture_of file) start last)
    → IfSome input (λ file. digest ≡ sha256 file) → IfSome input (λ file. header ≡ header_in (take 24 file)) → IfSome input (λ file. format ≡ format_of file)
    → IfSome input (λ file. IsReading p without file (record { store = store; refusal = last.refusal; notes = last.notes; unjudged = last.unjudged; digest = digest; header = header; format = format }))
made_of p without None start last store digest header format params left_out standing noted none is untimed passed summed headed formed = tt
made_of p without (Some file) start last store digest header format params left_out standing noted none is untimed passed summed headed formed =
    let capture = capture_of file in
    let begun : IsBegun start = record {
      standing = standing ∙ ap (λ (q : Parameters). crossed (nothing_crossed q)) (sym params);
      noted = notes_with p start.params without start.without.now [] start.notes (sym params) (sym left_out) noted;
      unjudged = none;
    } in
    let through = passed begun in record {
      crossed = ap (λ (k : Crossing). standing_with k last.refusal) is ∙ through.standing
          ∙ ap (λ (q : Parameters). crossing_without q start.without.now capture) params ∙ ap (λ (w : List ℕ). crossing_without p w capture) left_out;
      stored = subst (λ (k : Crossing). HasCrossed p without (captured_in capture) k last.refusal) (sym is)
          (subst (λ (w : List ℕ). HasCrossed p w (captured_in capture) (crossed_in last.builder) last.refusal) left_out
          (subst (λ (q : Parameters). HasCrossed q start.without.now (captured_in capture) (crossed_in last.builder) last.refusal) params through.stored));
      noted = notes_with start.params p start.without.now without (captured_in capture) last.notes params left_out through.noted;
      unjudged = unjudged_behind p without (captured_in capture) store last.unjudged
          (subst (λ (k : Crossing). AreUnjudged p without (captured_in capture) k last.unjudged) (sym is)
          (unjudged_as start.params p start.without.now without (captured_in capture) (crossed_in last.builder) last.unjudged params left_out through.unjudged));
      untimed = through.zero ∙ untimed;
      told = true_as start.notes.zero_is_no_time (begins_pcapng file) start.params p start.without.now without (captured_in capture) last.refusal untimed params left_out through.told;
      due = λ r e. last.due r e ∙ ap (λ (k : Crossing). due_of k r.fault) (sym is);
      summed = summed;
      header = headed;
      format = formed;
    }

-- where that is what the reader gives
pub reading_made : (p : Parameters) (without : List ℕ) (given input : Option (List ℕ)) (start last : Pass) (store : Crossing) (digest : List ℕ) (header : Option FileHeader) (format : Format)
    → input ≡ given
    → start.params ≡ p → start.without.now ≡ without → standing_in start ≡ Ok (nothing_crossed p) → AreNotes p without [] start.notes → taped_in start.unjudged ≡ [] → store ≡ crossed_in last.builder
    → IfSome input (λ file. start.notes.zero_is_no_time ≡ begins_pcapng file) → IfSome input (λ file. IsPassed (capture_of file) start last)
    → IfSome input (λ file. digest ≡ sha256 file) → IfSome input (λ file. header ≡ header_in (take 24 file)) → IfSome input (λ file. format ≡ format_of file)
    → IfSome given (λ file. IsReading p without file (record { store = store; refusal = last.refusal; notes = last.notes; unjudged = last.unjudged; digest = digest; header = header; format = format }))
reading_made p without given input start last store digest header format same params left_out standing noted none is untimed passed summed headed formed =
    subst (λ o. IfSome o (λ file. IsReading p without file (record { store = store; refusal = last.refusal; notes = last.notes; unjudged = last.unjudged; digest = digest; header = header; format = format }))) same
    (made_of p without input start last store digest header format params left_out standing noted none is untimed passed summed headed formed)
