-- What is told to be wrong with the packet of a refused record.
use Rattle.std.specs.Prelude.{◌≡◌, ℕ, ◌+◌, ◌-◌, ◌==◌, ◌&&◌, ◌||◌, Bool, true, false, List, length, take, slice_range}
use Rattle.std.specs.Prelude.{[], ◌∷◌, ◌⊎◌, nat_eq, Option, None, Some, option_map, unwrap_or}
use Rattle.std.specs.List.{list_any}
use Rattle.rasta_md4.specs.Md4.{md4}
use Rattle.rasta_pcap.specs.declared.fault.Fault.{Fault}
use Rattle.rasta_pcap.specs.Fault.{copy_differs, number_gap, redundancy_length, safety_length, too_short, wrong_code}
use Rattle.rasta_pcap.specs.Fault.{wrong_ids, wrong_payload, wrong_type}
use Rattle.rasta_udp.specs.Frame.{Packet, packet_in}
use Rattle.rasta_pdu.specs.Params.{Parameters}
use Rattle.rasta_pdu.specs.Fields.{field_at}
use Rattle.rasta_pdu.specs.Pdu.{check_at, code_at, has_fields, receiver_of, sender_of}
use Rattle.rasta_check.specs.Capture.Crossing.{Crossing, sent_by}
use Rattle.rasta_check.specs.Capture.Reading.{packet_found}
use Rattle.seatmelon_packets.specs.Features.{features_by}
use Rattle.seatmelon_packets.specs.Trials.{all_trials}
use Rattle.seatmelon_packets.specs.declared.lengths.Fits.{Fits}
use Rattle.seatmelon_packets.specs.declared.recognizer.Features.{Features}
use Rattle.seatmelon_reading.specs.declared.capture_refusal.Beside.{Beside}
use Rattle.seatmelon_reading.specs.declared.capture_refusal.CaptureRefusal.{CaptureRefusal}
use Rattle.seatmelon_reading.specs.declared.notes.Sighting.{Sighting}
use Rattle.seatmelon_account.specs.Crossed.{has_opening}
use Rattle.seatmelon_account.specs.Differences.{differing}
use Rattle.seatmelon_account.specs.Gaps.{IsGap}
use Rattle.seatmelon_account.specs.Layouts.{IsLayout}
use Rattle.seatmelon_account.specs.declared.differences.Codes.{Codes}
use Rattle.seatmelon_account.specs.declared.gap.Gap.{Gap}
use Rattle.seatmelon_account.specs.declared.refusal.RefusedPacket.{RefusedPacket}
use Rattle.seatmelon_account.specs.declared.trouble.FirstCopy.{FirstCopy}
use Rattle.seatmelon_account.specs.declared.trouble.Trouble.{Trouble}
use Rattle.seatmelon_account.specs.declared.trouble.Trouble.TheVariants as troubles

abbrev pub sighting_beside : Beside → Sighting
sighting_beside b = b.sighting

-- the safety code that is found in a datagram, and the digest of what it covers
pub record AreCodes (p : Parameters) (datagram : List ℕ) (codes : Codes) : Type 0 where
  pub found : codes.found.now ≡ slice_range datagram (code_at p datagram) (check_at p datagram)
  pub digest : codes.digest ≡ md4 p.md4_start (slice_range datagram 8 (code_at p datagram))

-- the other packet with the same number is told as it was found beside the refused one, with the first bytes in which
-- this datagram differs from it
abbrev pub TellsOther : CaptureRefusal → List ℕ → Option FirstCopy → Type 0
TellsOther r datagram None = r.beside ≡ None
TellsOther r datagram (Some first) = (beside : Beside) × (r.beside ≡ Some beside) × (first.sighting ≡ beside.sighting)
    × (first.bytes.now ≡ beside.bytes.items)
    × (first.differences.items ≡ take 16 (differing 0 datagram beside.bytes.items))

-- the codes are told where the datagram is long enough for them
abbrev pub TellsCodes : Parameters → List ℕ → Option Codes → Type 0
TellsCodes p datagram None = has_fields p datagram ≡ false
TellsCodes p datagram (Some codes) = AreCodes p datagram codes

-- the gap is told where the end of this packet sent something before it, and its datagram goes so far
abbrev pub TellsGap : Crossing → CaptureRefusal → Packet → Option Gap → Type 0
TellsGap k r packet None = (length (sent_by k packet.side) ≡ 0) ⊎ (field_at 4 4 packet.payload ≡ None)
TellsGap k r packet (Some gap) = IsGap (sent_by k packet.side) (has_opening k) packet.payload gap
    × (gap.later ≡ option_map sighting_beside r.beside)

-- the faults of a packet that say more than their number does
abbrev pub faults_told : List ℕ
faults_told = wrong_code ∷ copy_differs ∷ number_gap ∷ wrong_ids ∷ redundancy_length ∷ too_short ∷ safety_length
    ∷ wrong_type ∷ wrong_payload ∷ []

-- what is told of a packet with these parameters, behind what crossed, each by the number of its fault
abbrev pub TellsTrouble : Parameters → Crossing → CaptureRefusal → Packet → Trouble → Type 0
TellsTrouble p k r packet (troubles.Code codes first) = (r.fault.number ≡ wrong_code)
    × TellsCodes p packet.payload codes × TellsOther r packet.payload first
TellsTrouble p k r packet (troubles.Copy first) = (r.fault.number ≡ copy_differs) × TellsOther r packet.payload first
TellsTrouble p k r packet (troubles.Gap gap) = (r.fault.number ≡ number_gap) × TellsGap k r packet gap
TellsTrouble p k r packet (troubles.Ids receiver sender) = (r.fault.number ≡ wrong_ids)
    × (receiver ≡ receiver_of p packet.side) × (sender ≡ sender_of p packet.side)
TellsTrouble p k r packet (troubles.Length due) = (r.fault.number ≡ redundancy_length) × (due ≡ length packet.payload)
TellsTrouble p k r packet (troubles.TooShort least) = (r.fault.number ≡ too_short)
    × (least ≡ 36 + p.code_length + p.check_length)
TellsTrouble p k r packet (troubles.SafetyLength due) = (r.fault.number ≡ safety_length)
    × (due ≡ check_at p packet.payload - 8)
TellsTrouble p k r packet (troubles.Type found) = (r.fault.number ≡ wrong_type)
    × (found ≡ unwrap_or (field_at 2 10 packet.payload) 0)
TellsTrouble p k r packet (troubles.Payload layout) = (r.fault.number ≡ wrong_payload)
    × IsLayout p packet.payload layout
TellsTrouble p k r packet troubles.Other = list_any (nat_eq r.fault.number) faults_told ≡ false

-- what is wrong with a packet may be that other lengths of the codes were recorded
abbrev pub may_be_lengths : Fault → Bool
may_be_lengths fault =
    (fault.number == too_short) || ((fault.number == safety_length) || (fault.number == wrong_payload))

abbrev pub fits_of : Features → Fits
fits_of found = found.fits

-- the lengths that a datagram fits, where they are asked for
abbrev pub lengths_if : Bool → List ℕ → Option Fits
lengths_if true datagram = option_map fits_of (features_by all_trials datagram)
lengths_if false datagram = None

-- the packet of the refused record is told, if it holds one of the recorded channels
pub record IsRefusedPacket (p : Parameters) (k : Crossing) (r : CaptureRefusal) (packet : Packet)
    (told : RefusedPacket) : Type 0 where
  pub sender : told.sender ≡ packet.side
  pub channel : told.channel ≡ packet.channel
  pub datagram : told.datagram.now ≡ packet.payload
  pub trouble : TellsTrouble p k r packet told.trouble
  pub first : told.is_first ≡ (length k.packets == 0)
  pub lengths : told.lengths ≡ lengths_if (may_be_lengths r.fault && (length k.packets == 0)) packet.payload

abbrev pub packet_refused : Parameters → CaptureRefusal → Option Packet
packet_refused p r = packet_found (packet_in p.channels r.frame.items)

abbrev pub TellsPacket : Parameters → Crossing → CaptureRefusal → Option RefusedPacket → Type 0
TellsPacket p k r None = packet_refused p r ≡ None
TellsPacket p k r (Some told) = (packet : Packet) × (packet_refused p r ≡ Some packet)
    × IsRefusedPacket p k r packet told
