-- What the records of a window hold, and how it is read.
use Rattle.std.specs.Prelude.{ℕ, ◌==◌, List, filter_map, Bool, true, false, Option, Some, None, Result, Ok, Err}
use Rattle.std.specs.Prelude.{option_map, if◌then◌else◌}
use Rattle.rasta_pcap.specs.declared.fault.Fault.{Fault}
use Rattle.rasta_pcap.specs.Capture.{Numbered}
use Rattle.rasta_udp.specs.Frame.{Packet, packet_of}
use Rattle.rasta_pdu.specs.Params.{Parameters}
use Rattle.rasta_pdu.specs.Pdu.{RedundancyPdu, decode_of}
use Rattle.rasta_pdu.specs.Records.{recorded_packet}
use Rattle.seatmelon_show.specs.declared.decoding.Decoding.{Decoding}
use Rattle.seatmelon_show.specs.declared.decoding.Decoding.TheVariants.{Whole, OtherCode, Faulty}
use Rattle.seatmelon_show.specs.declared.sight.Found.{Found}
use Rattle.seatmelon_show.specs.declared.sight.Found.TheVariants.{Datagram, Unreadable}
use Rattle.seatmelon_show.specs.declared.sight.Sight.{Sight}

-- a packet of the recorded channels, or why the datagram of a frame between the recorded hosts can't be read, and the
-- number of the record that holds it
pub record Seen : Type 0 where
  pub number : ℕ
  pub found : Result Packet Fault

abbrev pub found_of : Found → Result Packet Fault
found_of (Datagram d) = Ok (packet_of d)
found_of (Unreadable fault) = Err fault

abbrev pub seen_of : Sight → Seen
seen_of s = record { number = s.number; found = found_of s.found }

-- what a frame holds, if it is one of the recorded channels or can't be read
abbrev pub found_by : Result (Option Packet) Fault → Option (Result Packet Fault)
found_by (Ok (Some packet)) = Some (Ok packet)
found_by (Ok None) = None
found_by (Err fault) = Some (Err fault)

-- what a record holds, unless it stands before the window
abbrev pub sighted_in : Parameters → Numbered → Option Seen
sighted_in p r = option_map (λ found. record { number = r.0; found = found }) (found_by (recorded_packet p r))

-- what the records of a reading that ends with the window's last record hold, in order
abbrev pub all_sighted : Parameters → List Numbered → List Seen
all_sighted p records = filter_map (sighted_in p) records

-- a PDU whose code is wrong has all that is asked for before the code
abbrev pub decoding_by : Result RedundancyPdu Fault → Decoding
decoding_by (Ok pdu) = Whole
decoding_by (Err fault) = if fault.number == 25 then OtherCode else Faulty fault

abbrev pub decoding_of_found : Parameters → Result Packet Fault → Decoding
decoding_of_found p (Ok packet) = decoding_by (decode_of p packet.side packet.payload)
decoding_of_found p (Err fault) = Faulty fault

-- how what was seen is read
abbrev pub decoding_of : Parameters → Seen → Decoding
decoding_of p s = decoding_of_found p s.found

abbrev pub is_other_code : Decoding → Bool
is_other_code Whole = false
is_other_code OtherCode = true
is_other_code (Faulty fault) = false

-- its safety code isn't that of the recorded start words
abbrev pub has_other_code : Parameters → Seen → Bool
has_other_code p s = is_other_code (decoding_of p s)
