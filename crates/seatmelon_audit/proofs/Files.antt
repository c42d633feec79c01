-- What crosses by a file, by the records of all of it.
use Rattle.std.proofs.Common.{◌≡◌, ◌∙◌, ℕ, ◌<◌, ◌≤◌, List, [], ◌∷◌, length, map, cond, take, nat_lt, Option, None, Result, Ok, Err, ap, refl, sym}
use Rattle.std.proofs.lemmas.List.{length-map, take-map}
use Rattle.rasta_pcap.specs.declared.fault.Fault.{Fault}
use Rattle.rasta_pcap.specs.Capture.{Numbered, max_records, reading_of}
use Rattle.rasta_pcap.specs.Capture as captures
use Rattle.rasta_pcap.specs.Captured.{captured_in, numbered}
use Rattle.rasta_pcap.proofs.Firsts.{file_first}
use Rattle.rasta_pcap.proofs.Walks.{walk-is_reading}
use Rattle.rasta_pdu.specs.Params.{Parameters}
use Rattle.rasta_check.specs.Capture.Crossing.{Crossing, nothing_crossed}
use Rattle.rasta_check.specs.Capture.Reading.{after_reading, after_record, after_records, then_crossing, at_end, crossing_of}
use Rattle.seatmelon_audit.specs.Records.{crossed_by}

abbrev Outcome : Type 0
Outcome = Result Crossing Fault

-- ---- the records with their times

pub numbers_in : (file : List ℕ) → map numbered (captured_in file) ≡ (reading_of max_records file).records
numbers_in file = ap (λ (g : captures.Reading). g.records) (walk-is_reading max_records file)

-- ---- what crosses

ended_by : (s : Outcome) (rs : List Numbered) (f : Option Fault) → ((n : Crossing) → after_records n rs f ≡ then_crossing (after_records n rs None) (λ (m : Crossing). at_end m f))
    → then_crossing s (λ (n : Crossing). after_records n rs f) ≡ then_crossing (then_crossing s (λ (n : Crossing). after_records n rs None)) (λ (m : Crossing). at_end m f)
ended_by (Ok k) rs f h = h k
ended_by (Err e) rs f h = refl

records_ended : (rs : List Numbered) (f : Option Fault) (k : Crossing) → after_records k rs f ≡ then_crossing (after_records k rs None) (λ (m : Crossing). at_end m f)
unfolding after_records
records_ended [] f k = refl
records_ended (r ∷ rs) f k = ended_by (after_record k r) rs f (records_ended rs f)

-- the fault of a file, where it stands before the end of the window
abbrev pub fault_before : Parameters → List ℕ → Option Fault
fault_before p file = cond (nat_lt (length (captured_in file)) p.last_record) (reading_of max_records file).fault None

-- what crosses by a file crosses by its records in the window, up to the fault that ends them
pub crossing_whole : (p : Parameters) (file : List ℕ) → 0 < p.last_record → p.last_record ≤ max_records
    → crossing_of p file ≡ then_crossing (crossed_by p (captured_in file)) (λ (m : Crossing). at_end m (fault_before p file))
crossing_whole p file some few =
    let whole = reading_of max_records file in
    let records : take p.last_record whole.records ≡ map numbered (take p.last_record (captured_in file)) = ap (take p.last_record) (sym (numbers_in file)) ∙ take-map numbered p.last_record (captured_in file) in
    let size : length whole.records ≡ length (captured_in file) = ap length (sym (numbers_in file)) ∙ length-map (captured_in file) numbered in
    ap (λ (g : captures.Reading). after_reading (nothing_crossed p) g) (file_first p.last_record max_records file some few)
    ∙ ap (λ n. after_records (nothing_crossed p) (take p.last_record whole.records) (cond (nat_lt n p.last_record) whole.fault None)) size
    ∙ ap (λ l. after_records (nothing_crossed p) l (fault_before p file)) records
    ∙ records_ended (map numbered (take p.last_record (captured_in file))) (fault_before p file) (nothing_crossed p)
