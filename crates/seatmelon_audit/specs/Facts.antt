-- What is told of the packets of a connection, whatever becomes of it.
use Rattle.std.specs.Prelude.{◌≡◌, ⊤, ℕ, List, ◌++◌, slice_get, Option, None, Some, option_map, Result, Ok, Err}
use Rattle.std.specs.Option.{option_and_then}
use Rattle.rasta_pcap.specs.declared.fault.Fault.{Fault}
use Rattle.rasta_pcap.specs.Captured.{Captured, captured_in}
use Rattle.rasta_udp.specs.Frame.{Packet}
use Rattle.rasta_pdu.specs.Params.{Parameters}
use Rattle.rasta_pdu.specs.declared.quiet_point.Quiet.{Quiet}
use Rattle.rasta_check.specs.Capture.Crossing.{Crossing}
use Rattle.rasta_check.specs.Capture.Reading.{crossing_of}
use Rattle.seatmelon_middle.specs.Course.{course_of}
use Rattle.seatmelon_middle.specs.Packets.{opens_first}
use Rattle.seatmelon_middle.specs.declared.course.Course.{Course}
use Rattle.seatmelon_middle.specs.declared.course.Disconnection.{Disconnection}
use Rattle.seatmelon_audit.specs.Files.{StandsThrough}
use Rattle.seatmelon_audit.specs.Records.{crossed_before, span_of, stamps_held}
use Rattle.seatmelon_audit.specs.Shown.{packets_held}
use Rattle.seatmelon_audit.specs.declared.answer.Answer.{Answer}
use Rattle.seatmelon_audit.specs.declared.answer.Answer.TheVariants as answers
use Rattle.seatmelon_audit.specs.declared.facts.Facts.{Facts}
use Rattle.seatmelon_audit.specs.declared.line.Line.{Line}
use Rattle.seatmelon_audit.specs.declared.line.Stamp.{Stamp}

-- this crossed before the record at which the capture is refused, if it is
abbrev pub CrossedFirst : Parameters → List Captured → Result Crossing Fault → Crossing → Type 0
CrossedFirst p records (Ok crossed) k = k ≡ crossed
CrossedFirst p records (Err fault) k = crossed_before p records fault ≡ Ok k

-- the course by what crossed before a refusal, and by the packets of the window behind that
pub record IsCourse (p : Parameters) (file : List ℕ) (c : Course) : Type 0 where
  pub crossed : Crossing
  pub behind : List Packet
  pub first : CrossedFirst p (captured_in file) (crossing_of p file) crossed
  pub all : packets_held p (captured_in file) ≡ crossed.packets ++ behind
  pub course : c ≡ course_of p crossed behind

-- it is known but where there was no memory
abbrev pub IsCourseIfKnown : Parameters → List ℕ → Answer → Option Course → Type 0
IsCourseIfKnown p file answer None = answer ≡ answers.OutOfMemory
IsCourseIfKnown p file answer (Some c) = IsCourse p file c

-- the record before which the parameters have a quiet point: the first one of the window
abbrev pub quiet_record : Parameters → Option ℕ
quiet_record p = option_map (λ (q : Quiet). p.first_record) p.quiet

-- ---- the records at places of a course

abbrev pub ending_place : Option Course → Option ℕ
ending_place course = option_map (λ (d : Disconnection). d.place) (option_and_then (λ (c : Course). c.ending) course)

abbrev pub reopening_place : Option Course → Option ℕ
reopening_place course = option_and_then (λ (c : Course). c.reopening) course

abbrev pub stamp_there : List Stamp → Option ℕ → Option Stamp
stamp_there stamps place = option_and_then (λ (i : ℕ). slice_get stamps i) place

-- ---- all that is told

-- the window of the parameters, and the record before which they have a quiet point; the first and the last record that
-- hold a packet in the window, and whether the first one opens the connection; the course, and the records of the
-- disconnection request and of the packet that opens another connection
pub record IsFacts (p : Parameters) (file : List ℕ) (answer : Answer) (f : Facts) : Type 0 where
  pub first_record : f.first_record ≡ p.first_record
  pub last_record : f.last_record ≡ p.last_record
  pub quiet_record : f.quiet_record ≡ quiet_record p
  pub span : f.span ≡ span_of (stamps_held p (captured_in file))
  pub opens : f.opens ≡ opens_first p (packets_held p (captured_in file))
  pub course : IsCourseIfKnown p file answer f.course
  pub ending : f.ending ≡ stamp_there (stamps_held p (captured_in file)) (ending_place f.course)
  pub reopening : f.reopening ≡ stamp_there (stamps_held p (captured_in file)) (reopening_place f.course)

-- ---- on the way

-- where the course of a connection is known, all records that hold its packets are noted
abbrev pub AreNotedIfKnown : Line → List ℕ → Option Course → Type 0
AreNotedIfKnown l file None = ⊤
AreNotedIfKnown l file (Some c) = l.packets.items ≡ stamps_held l.params (captured_in file)

-- this is the course of a connection in each file that was read to its end
abbrev pub IsCourseOf : Line → Answer → Option Course → Type 0
IsCourseOf l answer course = (file : List ℕ) → StandsThrough file l
    → IsCourseIfKnown l.params file answer course × AreNotedIfKnown l file course

-- by what is kept of a connection, and by its course
abbrev pub facts_by : Line → Option Course → Facts
facts_by l course = record {
  first_record = l.params.first_record;
  last_record = l.params.last_record;
  quiet_record = quiet_record l.params;
  span = l.span;
  opens = l.opens;
  course = course;
  ending = stamp_there l.packets.items (ending_place course);
  reopening = stamp_there l.packets.items (reopening_place course);
}
