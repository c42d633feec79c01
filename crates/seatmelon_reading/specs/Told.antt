-- What a refusal tells of the records so far.
use Rattle.std.specs.Prelude.{◌≡◌, ◌≢◌, ℕ, ◌+◌, ◌<◌, ◌%◌, ◌^◌, ◌==◌, List, All, Bool, true, Option, None, Some, option_map}
use Rattle.std.specs.Prelude.{IsSomeAnd, slice_get, if◌then◌else◌}
use Rattle.std.specs.List.{Contains, last_or}
use Rattle.std.specs.Option.{ForSome, option_and_then}
use Rattle.rasta_pcap.specs.declared.fault.Fault.{Fault}
use Rattle.rasta_pcap.specs.declared.fault.Side.{Side}
use Rattle.rasta_pcap.specs.declared.time.CaptureTime.{CaptureTime}
use Rattle.rasta_pcap.specs.Captured.{Captured}
use Rattle.rasta_pcap.specs.Fault.{number_gap}
use Rattle.rasta_udp.specs.Frame.{Packet, packet_in}
use Rattle.rasta_pdu.specs.Fields.{field_at}
use Rattle.rasta_pdu.specs.Params.{Parameters}
use Rattle.rasta_check.specs.Capture.Crossing.{Crossing, sent_by}
use Rattle.rasta_check.specs.Capture.Reading.{packet_found}
use Rattle.rasta_check.specs.Capture.SentLists.{FirstCopy}
use Rattle.seatmelon_reading.specs.Codes.{codes_from, own_codes}
use Rattle.seatmelon_reading.specs.Noted.{Seen, seen_inside, sighting_of}
use Rattle.seatmelon_reading.specs.Times.{is_time, time_of, time_told}
use Rattle.seatmelon_reading.specs.declared.capture_refusal.Beside.{Beside}
use Rattle.seatmelon_reading.specs.declared.capture_refusal.CaptureRefusal.{CaptureRefusal}
use Rattle.seatmelon_reading.specs.declared.capture_refusal.Wanted.{Wanted}
use Rattle.seatmelon_reading.specs.declared.notes.Notes.{Notes}
use Rattle.seatmelon_reading.specs.declared.notes.Sighting.{Sighting}

-- ---- what its end was to use next

-- one more, modulo 2^32, than the number of what an end sent last; none where it sent nothing
abbrev pub number_due : List FirstCopy → Option ℕ
number_due sent = option_map (λ (copy : FirstCopy). (copy.pdu.number + 1) % 2 ^ 32) (last_or None sent)

-- that of the end of which a fault speaks, after what crossed
abbrev pub due_of : Crossing → Fault → Option ℕ
due_of k fault = option_and_then (λ (side : Side). number_due (sent_by k side)) fault.end

-- ---- what is told

-- the record of the fault was captured at this time, and these are its bytes
pub record IsCapturedAt (records : List Captured) (r : CaptureRefusal) (time : CaptureTime) : Type 0 where
  pub captured : Captured
  pub read : Contains records captured
  pub numbered : captured.number ≡ r.fault.place
  pub timed : captured.time ≡ time
  pub held : captured.bytes ≡ r.frame.items

-- the number of the packet that is told beside the refused one: that which was due where its end's numbers have a gap,
-- else its own
abbrev pub number_beside : Parameters → CaptureRefusal → Option ℕ
number_beside p r = if r.fault.number == number_gap then r.next_number
    else option_and_then (λ (packet : Packet). field_at 4 4 packet.payload)
    (packet_found (packet_in p.channels r.frame.items))

-- a packet of the connection in the window, of the end of the refused one and with that number, is told with its
-- datagram; its record is another
pub record IsBeside (zero : Bool) (p : Parameters) (without : List ℕ) (records : List Captured)
    (r : CaptureRefusal) (b : Beside) : Type 0 where
  pub seen : Seen
  pub read : Contains (seen_inside p without records) seen
  pub sighted : b.sighting ≡ sighting_of zero seen
  pub held : b.bytes.items ≡ seen.packet.payload
  pub end : r.fault.end ≡ Some seen.packet.side
  pub number : (found : ℕ) × (number_beside p r ≡ Some found) × (field_at 4 4 seen.packet.payload ≡ Some found)
  pub other : seen.captured.number ≢ r.fault.place

-- A time that is told of the refused record is one, and that of the captured record with its number, whose bytes are
-- kept, and which has no time where none is told; what is told beside it is another packet of its end; and the safety
-- codes that are counted are those of the packets of the connection from the record of the fault on.
pub record IsTrueOf (zero : Bool) (p : Parameters) (without : List ℕ) (records : List Captured)
    (r : CaptureRefusal) : Type 0 where
  pub timed : ForSome r.time (IsCapturedAt records r)
  pub genuine : ForSome r.time (λ t. is_time zero t ≡ true)
  -- of the record that the fault names, if it was read whole: its time, if it has one, and its bytes
  pub held : (c : Captured) → Contains records c → c.number ≡ r.fault.place
      → (r.time ≡ time_of zero c) × (r.frame.items ≡ c.bytes)
  pub beside : ForSome r.beside (IsBeside zero p without records r)
  pub codes : r.codes ≡ codes_from p r.fault.place (seen_inside p without records)

-- ---- on the way

-- what is asked for is the packet to be told beside the refused one
pub record IsAskedFor (p : Parameters) (r : CaptureRefusal) (wanted : Wanted) : Type 0 where
  pub end : r.fault.end ≡ Some wanted.side
  pub number : number_beside p r ≡ Some wanted.number

-- a packet with this sighting is told, which is what is asked for
pub record IsFound (wanted : Wanted) (sighting : Sighting) (packet : Packet) (b : Beside) : Type 0 where
  pub sighted : b.sighting ≡ sighting
  pub held : b.bytes.items ≡ packet.payload
  pub end : packet.side ≡ wanted.side
  pub number : field_at 4 4 packet.payload ≡ Some wanted.number

-- it is one of those that crossed, with the sighting at its place
pub record HasBeenFound (k : Crossing) (sightings : List Sighting) (wanted : Wanted) (b : Beside) : Type 0 where
  pub place : ℕ
  pub sighting : Sighting
  pub packet : Packet
  pub crossed : slice_get k.packets place ≡ Some packet
  pub noted : slice_get sightings place ≡ Some sighting
  pub found : IsFound wanted sighting packet b

-- a refusal as it is made, after what crossed
pub record IsMadeOf (p : Parameters) (k : Crossing) (f : Fault) (bytes : List ℕ) (captured : Option CaptureTime)
    (notes : Notes) (r : CaptureRefusal) : Type 0 where
  pub fault : r.fault ≡ f
  pub frame : r.frame.items ≡ bytes
  pub time : r.time ≡ time_told notes.zero_is_no_time captured
  pub due : r.next_number ≡ due_of k f
  pub wanted : ForSome r.wanted (IsAskedFor p r)
  pub beside : ForSome r.beside (λ b. IsSomeAnd r.wanted (λ w. HasBeenFound k notes.packets.items w b))
  pub codes : r.codes ≡ own_codes p bytes captured

-- a refusal but for its safety codes and the packet beside it
pub record IsSameRefusal (old new : CaptureRefusal) : Type 0 where
  pub fault : new.fault ≡ old.fault
  pub frame : new.frame.items ≡ old.frame.items
  pub time : new.time ≡ old.time
  pub due : new.next_number ≡ old.next_number
  pub wanted : new.wanted ≡ old.wanted

-- each of these records has a lower number
abbrev pub AreLower : ℕ → List Captured → Type 0
AreLower number records = All (λ (r : Captured). r.number < number) records
