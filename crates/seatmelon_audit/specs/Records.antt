-- What the records of a capture say of a connection.
use Rattle.std.specs.Prelude.{◌≡◌, ⊤, ℕ, zero, suc, List, [], ◌∷◌, ◌++◌, take, map, filter, not, nat_eq, nat_le}
use Rattle.std.specs.Prelude.{is_some, ◌&&◌, ◌-◌, Bool, Option, None, Some, option_map, slice_get, Result, Ok, Err}
use Rattle.std.specs.Prelude.{if◌then◌else◌}
use Rattle.std.specs.List.{last_or, list_any}
use Rattle.std.specs.Option.{option_or}
use Rattle.rasta_pcap.specs.declared.fault.Fault.{Fault}
use Rattle.rasta_pcap.specs.declared.time.CaptureTime.{CaptureTime}
use Rattle.rasta_pcap.specs.Capture.{Numbered}
use Rattle.rasta_pcap.specs.Captured.{Captured, numbered}
use Rattle.rasta_pdu.specs.Params.{Parameters}
use Rattle.rasta_check.specs.Capture.Crossing.{Crossing, nothing_crossed}
use Rattle.rasta_check.specs.Capture.Reading.{after_record, after_records, packet_at}
use Rattle.seatmelon_audit.specs.declared.line.Span.{Span}
use Rattle.seatmelon_audit.specs.declared.line.Stamp.{Stamp}
use Rattle.seatmelon_audit.specs.declared.line.Standing.{Standing}
use Rattle.seatmelon_audit.specs.declared.line.Standing.TheVariants.{OutOfMemory, Reading, Refused}
use Rattle.seatmelon_audit.specs.declared.line.Subject.{Subject}

-- what crossed by these records up to the last one of the window, or the first fault
abbrev pub crossed_by : Parameters → List Captured → Result Crossing Fault
crossed_by p records = after_records (nothing_crossed p) (map numbered (take p.last_record records)) None

-- what crossed by the records before the one that a fault of the capture names
abbrev pub crossed_before : Parameters → List Captured → Fault → Result Crossing Fault
crossed_before p records fault = crossed_by p (take (fault.place - 1) records)

-- the record holds a packet of the connection, and stands in its window
abbrev pub is_held : Parameters → Numbered → Bool
is_held p r = nat_le r.0 p.last_record && is_some (packet_at p r)

abbrev pub holds_packet : Parameters → Captured → Bool
holds_packet p r = is_held p (numbered r)

-- it does so of one of these connections
abbrev pub is_any_held : List Parameters → Numbered → Bool
is_any_held recorded r = list_any (λ (p : Parameters). is_held p r) recorded

-- the records that do, by the places of their packets
abbrev pub holding : Parameters → List Captured → List Captured
holding p records = filter (holds_packet p) records

-- the records that do of none of these connections
abbrev pub others_in : List Parameters → List Captured → List Captured
others_in recorded records = filter (λ (r : Captured). not (is_any_held recorded (numbered r))) records

abbrev pub stamp_of : Captured → Stamp
stamp_of r = record { «record» = r.number; time = r.time }

-- those that hold its packets
abbrev pub stamps_held : Parameters → List Captured → List Stamp
stamps_held p records = map stamp_of (holding p records)

-- the first and the last of them
abbrev pub span_of : List Stamp → Span
span_of stamps = record { first = slice_get stamps 0; last = last_or None stamps }

abbrev pub subject_at : ℕ → Option CaptureTime → Subject
subject_at number time = record { «record» = number; time = time }

-- the record that a fault of the capture names: its number and, where it was read whole, its time
abbrev pub subject_of : List Captured → ℕ → Option Subject
subject_of records zero = None
subject_of records (suc before) =
    Some (subject_at (suc before) (option_map (λ (r : Captured). r.time) (slice_get records before)))

-- the record that the fault behind the last record names: it has no time, as it was not read whole
abbrev pub subject_behind : ℕ → Option Subject
subject_behind place = if nat_eq place 0 then None else Some (subject_at place None)

-- ---- the next record

-- what is noted of its packet, if it holds one
abbrev pub stamps_at : Parameters → Numbered → CaptureTime → List Stamp
stamps_at p r t = if is_some (packet_at p r) then record { «record» = r.0; time = t } ∷ [] else []

abbrev pub pushed_at : Parameters → List Stamp → List Stamp → Numbered → Option CaptureTime → Type 0
pushed_at p old new r time = (t : CaptureTime) → time ≡ Some t → new ≡ old ++ stamps_at p r t

-- after a record that is judged the connection stands so
abbrev pub IsJudgedSo : Standing → Parameters → Crossing → Crossing → List Stamp → List Stamp → Numbered
    → Option CaptureTime → Type 0
IsJudgedSo Reading p k next old new r time = (after_record k r ≡ Ok next) × pushed_at p old new r time
IsJudgedSo (Refused refusal) p k next old new r time = (after_record k r ≡ Err refusal.fault)
    × (refusal.subject ≡ Some (subject_at r.0 time)) × (next ≡ k) × pushed_at p old new r time
IsJudgedSo OutOfMemory p k next old new r time = ⊤

-- a packet is noted
abbrev pub IsNoted : List Stamp → List Stamp → ℕ → Option CaptureTime → Type 0
IsNoted old new number time = (t : CaptureTime) → time ≡ Some t
    → new ≡ old ++ record { «record» = number; time = t } ∷ []

abbrev pub stamp_at : ℕ → Option CaptureTime → Option Stamp
stamp_at number time = option_map (λ (t : CaptureTime). record { «record» = number; time = t }) time

-- with one record more, if its time is known
abbrev pub span_with : Span → Option Stamp → Span
span_with s None = s
span_with s (Some stamp) = record { first = option_or s.first (Some stamp); last = Some stamp }

-- a connection of which this crossed, and whose packets are noted so, stands so
abbrev pub IsStanding : Standing → Result Crossing Fault → List Captured → Parameters → Crossing → List Stamp → Type 0
IsStanding Reading crossed records p k packets = (crossed ≡ Ok k) × (packets ≡ map stamp_of (holding p records))
IsStanding (Refused refusal) crossed records p k packets = (crossed ≡ Err refusal.fault)
    × (refusal.subject ≡ subject_of records refusal.fault.place)
    × (crossed_before p records refusal.fault ≡ Ok k) × (packets ≡ map stamp_of (holding p records))
IsStanding OutOfMemory crossed records p k packets = ⊤
