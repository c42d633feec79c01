-- Safety codes of the packets of a connection from a refused one on.
use Rattle.std.specs.Prelude.{ℕ, ◌+◌, ◌==◌, List, length, filter, nat_le, Bool, true, false, Option, None, Some, Result}
use Rattle.std.specs.Prelude.{Ok, Err, if◌then◌else◌}
use Rattle.rasta_pcap.specs.declared.fault.Fault.{Fault}
use Rattle.rasta_pcap.specs.declared.time.CaptureTime.{CaptureTime}
use Rattle.rasta_udp.specs.Frame.{Packet, packet_in}
use Rattle.rasta_pdu.specs.Params.{Parameters}
use Rattle.rasta_pdu.specs.Pdu.{RedundancyPdu, decode_of}
use Rattle.rasta_check.specs.Capture.Reading.{packet_found}
use Rattle.seatmelon_reading.specs.Noted.{Seen}
use Rattle.seatmelon_reading.specs.declared.code_count.CodeCount.{CodeCount}
use Rattle.seatmelon_reading.specs.declared.code_count.CodeFit.{CodeFit}
use Rattle.seatmelon_reading.specs.declared.code_count.CodeFit.TheVariants.{NotJudged, Wrong, Fits}

-- a PDU that is read has the code that is due; one whose code is wrong is refused by 25, and only the ids, by 26, are
-- judged after it
abbrev pub fit_of_reading : Result RedundancyPdu Fault → CodeFit
fit_of_reading (Ok pdu) = Fits
fit_of_reading (Err f) = if f.number == 25 then Wrong else if f.number == 26 then Fits else NotJudged

-- what is found of the safety code of a packet
abbrev pub code_fit : Parameters → Packet → CodeFit
code_fit p packet = if p.code_length == 0 then NotJudged else fit_of_reading (decode_of p packet.side packet.payload)

abbrev pub is_judged : CodeFit → Bool
is_judged NotJudged = false
is_judged Wrong = true
is_judged Fits = true

abbrev pub is_fitting : CodeFit → Bool
is_fitting NotJudged = false
is_fitting Wrong = false
is_fitting Fits = true

-- the packet has a code that can be judged
abbrev pub has_judged : Parameters → Seen → Bool
has_judged p s = is_judged (code_fit p s.packet)

-- it has the code that is due
abbrev pub has_fitting : Parameters → Seen → Bool
has_fitting p s = is_fitting (code_fit p s.packet)

-- the packets whose record has this number or a higher one
abbrev pub seen_from : ℕ → List Seen → List Seen
seen_from number seen = filter (λ (s : Seen). nat_le number s.captured.number) seen

-- the codes of these packets from this record on
abbrev pub codes_from : Parameters → ℕ → List Seen → CodeCount
codes_from p number seen = record {
  judged = length (filter (has_judged p) (seen_from number seen));
  fitting = length (filter (has_fitting p) (seen_from number seen));
}

-- ---- on the way

abbrev pub no_codes : CodeCount
no_codes = record { judged = 0; fitting = 0 }

-- with one packet more, of whose code this is found
abbrev pub codes_with : CodeCount → CodeFit → CodeCount
codes_with c NotJudged = c
codes_with c Wrong = record { judged = c.judged + 1; fitting = c.fitting }
codes_with c Fits = record { judged = c.judged + 1; fitting = c.fitting + 1 }

-- of the packet of one record
abbrev pub codes_of : Parameters → Option Packet → CodeCount
codes_of p None = no_codes
codes_of p (Some packet) = codes_with no_codes (code_fit p packet)

-- of the refused record alone, if it was read whole
abbrev pub own_codes : Parameters → List ℕ → Option CaptureTime → CodeCount
own_codes p frame None = no_codes
own_codes p frame (Some time) = codes_of p (packet_found (packet_in p.channels frame))

-- with the packet of one record more, if the count reaches it
abbrev pub codes_next : Parameters → ℕ → ℕ → Packet → CodeCount → CodeCount
codes_next p place number packet c = if nat_le place number then codes_with c (code_fit p packet) else c
