-- What a reading of a capture says of its file, where some records are left out.
use Rattle.std.specs.Prelude.{◌≡◌, ◌≢◌, ⊤, ℕ, ◌&&◌, List, length, take, drop, filter, map, not, nat_le, nat_lt, Bool}
use Rattle.std.specs.Prelude.{Option, None, Some, Result, Ok, Err, if◌then◌else◌}
use Rattle.sha2.specs.Sha256.{sha256}
use Rattle.std.specs.Option.{ForSome}
use Rattle.rasta_pcap.specs.declared.fault.Fault.{Fault}
use Rattle.rasta_pcap.specs.Capture.{Numbered, reading_of}
use Rattle.rasta_pcap.specs.Capture as captures
use Rattle.rasta_pcap.specs.Captured.{Captured, captured_in, numbered}
use Rattle.rasta_pcap.specs.Fault.{no_memory, read_failed}
use Rattle.rasta_pdu.specs.Params.{Parameters}
use Rattle.rasta_check.specs.Capture.Building.{crossed_in}
use Rattle.rasta_check.specs.Capture.Crossing.{Crossing, nothing_crossed}
use Rattle.rasta_check.specs.Capture.Reading.{after_reading, after_record, after_records}
use Rattle.seatmelon_capture.specs.Header.{header_in}
use Rattle.seatmelon_pcapng.specs.Formats.{capture_of, format_of}
use Rattle.seatmelon_pcapng.specs.Peeked.{begins_pcapng}
use Rattle.seatmelon_reading.specs.Noted.{AreNotes, is_left_out, numbered_seen, seen_inside}
use Rattle.seatmelon_reading.specs.Tapes.{taped_in}
use Rattle.seatmelon_reading.specs.declared.capture_refusal.CaptureRefusal.{CaptureRefusal}
use Rattle.seatmelon_reading.specs.declared.pass.Pass.{Pass}
use Rattle.seatmelon_reading.specs.declared.reading.Reading.{Reading}
use Rattle.seatmelon_reading.specs.Told.{IsTrueOf, due_of}

-- the records that stay
abbrev pub stays : List ℕ → Numbered → Bool
stays without r = not (is_left_out without r.0)

abbrev pub reading_without : List ℕ → captures.Reading → captures.Reading
reading_without without r = record { records = filter (stays without) r.records; fault = r.fault }

-- what crossed by the records of a file that stay, up to the last record of the window, or the first fault
abbrev pub crossing_without : Parameters → List ℕ → List ℕ → Result Crossing Fault
crossing_without p without file =
    after_reading (nothing_crossed p) (reading_without without (reading_of p.last_record file))

-- ---- on the way

-- what crossed, or the first fault
abbrev pub standing_with : Crossing → Option CaptureRefusal → Result Crossing Fault
standing_with k None = Ok k
standing_with k (Some refusal) = Err refusal.fault

abbrev pub standing_in : Pass → Result Crossing Fault
standing_in pass = standing_with (crossed_in pass.builder) pass.refusal

-- a record is judged unless it stands behind the window
abbrev pub after_judged : Parameters → Result Crossing Fault → Numbered → Result Crossing Fault
after_judged p (Err first) r = Err first
after_judged p (Ok k) r = if nat_lt p.last_record r.0 then Ok k else after_record k r

-- one that is left out is passed over
abbrev pub after_next : Parameters → List ℕ → Result Crossing Fault → Numbered → Result Crossing Fault
after_next p without standing r = if is_left_out without r.0 then standing else after_judged p standing r

-- the fault that ends the reading counts unless it stands behind the window
abbrev pub after_end : Parameters → Result Crossing Fault → Fault → Result Crossing Fault
after_end p (Err first) fault = Err first
after_end p (Ok k) fault = if nat_lt p.last_record fault.place then Ok k else Err fault

-- once the capture is refused, what crossed stays
abbrev pub StaysOnceRefused : Pass → Pass → Type 0
StaysOnceRefused old new = ForSome new.refusal (λ r. crossed_in new.builder ≡ crossed_in old.builder)

-- parameters, records that are left out, and notes are as they were
pub record IsSameBut (old new : Pass) : Type 0 where
  pub params : new.params ≡ old.params
  pub without : new.without.now ≡ old.without.now
  pub notes : new.notes ≡ old.notes
  pub stays : StaysOnceRefused old new

-- ---- what crossed before a fault

-- the records that stay, up to the last of the window
abbrev pub judged_of : Parameters → List ℕ → List Captured → List Numbered
judged_of p without records =
    filter (λ (r : Numbered). stays without r && nat_le r.0 p.last_record) (map numbered records)

-- the packets of these records are those that crossed
abbrev pub HaveCrossed : Parameters → List ℕ → List Captured → Crossing → Type 0
HaveCrossed p without records k = after_records (nothing_crossed p) (judged_of p without records) None ≡ Ok k

abbrev pub records_before : ℕ → List Captured → List Captured
records_before place records = filter (λ (r : Captured). nat_lt r.number place) records

-- what crossed is that of all records of the window, or of those before the refused one
abbrev pub HasCrossed : Parameters → List ℕ → List Captured → Crossing → Option CaptureRefusal → Type 0
HasCrossed p without records k None = HaveCrossed p without records k
HasCrossed p without records k (Some r) = HaveCrossed p without (records_before r.fault.place records) k

-- ---- the whole

-- this was read of a file: of its capture, which is the file itself or that of a pcapng file, and of the file as it is
pub record IsReading (p : Parameters) (without file : List ℕ) (r : Reading) : Type 0 where
  pub crossed : standing_with r.store r.refusal ≡ crossing_without p without (capture_of file)
  pub stored : HasCrossed p without (captured_in (capture_of file)) r.store r.refusal
  pub noted : AreNotes p without (captured_in (capture_of file)) r.notes
  -- the packets of the connection behind those that crossed
  pub unjudged : taped_in r.unjudged
      ≡ drop (length r.store.packets) (map numbered_seen (seen_inside p without (captured_in (capture_of file))))
  pub untimed : r.notes.zero_is_no_time ≡ begins_pcapng file
  pub told : ForSome r.refusal (IsTrueOf (begins_pcapng file) p without (captured_in (capture_of file)))
  pub due : ForSome r.refusal (λ f. f.next_number ≡ due_of r.store f.fault)
  pub summed : r.digest ≡ sha256 file
  pub header : r.header ≡ header_in (take 24 file)
  pub format : r.format ≡ format_of file

-- it tells a fault, which is no lack of memory and no failed read
abbrev pub TellsFault : Option CaptureRefusal → Type 0
TellsFault None = ⊤
TellsFault (Some refusal) = (refusal.fault ≢ no_memory) × (refusal.fault ≢ read_failed)
