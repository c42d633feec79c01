-- The numbers of a capture's faults: those of a packet are 20 to 28 and name its side, all others are lower and name none.
use Rattle.std.proofs.Common.{◌≡◌, ℕ, ◌<◌, ◌≤◌, List, Option, Some, None, Result, Err, refl, arith, subst, inl, inr}
use Rattle.rasta_check.proofs.Prelude.{dec_lt, yes, no, Fault, Side, no_memory, number_gap, Numbered, reading_of, Packet, packet_in, Parameters, Kind, decode_of}
use Rattle.rasta_check.proofs.Prelude.{FirstCopy, packet_fault, Crossing, crossing_of, sent_by}
use Rattle.std.specs.Prelude.{IsSome, IfErr, IfSome, ◌↔◌}
use Rattle.rasta_pcap.specs.Fault.{not_pcap, redundancy_length}
use Rattle.rasta_pcap.proofs.Captures.{IsRefused-place, IsRefused-reading_of, opening-by_reading_of}
use Rattle.rasta_pcap.proofs.Headers.{opening-fault_place}
use Rattle.rasta_udp.specs.declared.channel.Channel.{Channel}
use Rattle.rasta_udp.specs.Frame.{Fields, found_by, datagram_of, map_found}
use Rattle.rasta_pdu.specs.Pdu.{decode_kind}
use Rattle.rasta_check.proofs.Capture.Readings.{Leads, Step, bad_frame, bad_packet, no_room, file_leads}

-- ---- faults that name no side

-- one of the file, a record or a frame
abbrev pub IsLow : Fault → Type 0
IsLow f = (not_pcap ≤ f.number) × (f.number < redundancy_length)

-- it speaks of a side exactly where it is one of 20 to 28; all others are lower
abbrev pub IsSided : Fault → Type 0
IsSided f = (IsSome f.end → (redundancy_length ≤ f.number) × (f.number ≤ number_gap)) × (f.end ≡ None → IsLow f)

found_low : (channels : List Channel) (x : Fields) → IfErr (found_by channels x) IsLow
unfolding found_by
found_low channels x = grind arith

mapped_low : {A B : Type 0} (h : A → B) (r : Result (Option A) Fault) → IfErr r IsLow → IfErr (map_found h r) IsLow
mapped_low h r l = grind arith

packet_low : (channels : List Channel) (frame : List ℕ) → IfErr (packet_in channels frame) IsLow
unfolding packet_in datagram_of
packet_low channels frame = grind (arith, mapped_low, found_low)

-- ---- faults of a packet

abbrev IsOfPacket : ℕ → Type 0
IsOfPacket number = (redundancy_length ≤ number) × (number ≤ number_gap)

kind_between : (p : Parameters) (side : Side) (bytes : List ℕ) (o : Option Kind) → IfErr (decode_kind p side bytes o) (λ f. IsOfPacket f.number)
kind_between p side bytes o = grind arith

decode_between : (p : Parameters) (side : Side) (bytes : List ℕ) → IfErr (decode_of p side bytes) (λ f. IsOfPacket f.number)
unfolding decode_of
decode_between p side bytes = grind (arith, kind_between)

packet_between : (p : Parameters) (sent : List FirstCopy) (a : Packet) → IfSome (packet_fault p sent a) IsOfPacket
packet_between p sent a = (let d = decode_between p a.side a.payload in grind arith)

-- ---- faults of a file

sideless : (f : Fault) → IsLow f → f.end ≡ None → IsSided f
sideless f low none = grind arith

-- the fault that ends a reading
reading_sided : (limit : ℕ) (file : List ℕ) (f : Fault) → (reading_of limit file).fault ≡ Some f → IsSided f
reading_sided limit file f e = elim (dec_lt 0 f.place) [
  | yes l ↦ (let w = IsRefused-reading_of limit file f e l in let none = IsRefused-place limit file _ f w in let refused = w.refused in grind arith)
  | no l ↦ (let e = opening-by_reading_of limit file f e (omega arith) in grind (arith, opening-fault_place))
]

step_sided : (k : Crossing) (r : Numbered) (f : Fault) → Step k r (Err f) → IsSided f
step_sided k r f (bad_frame g t found) = sideless f (subst (λ (q : Result (Option Packet) Fault). IfErr q IsLow) found (packet_low k.params.channels r.1)) refl
step_sided k r f (bad_packet a n t found some) = ((λ is. subst (λ (o : Option ℕ). IfSome o IsOfPacket) some (packet_between k.params (sent_by k a.side) a)), λ e. absurd (cc))
step_sided k r f (no_room a t found none full) = sideless f (omega arith, omega arith) refl

pub file_sided : (p : Parameters) (file : List ℕ) (f : Fault) → crossing_of p file ≡ Err f → IsSided f
file_sided p file f e = elim (subst (Leads p _ _) e (file_leads p file)) [ inl w ↦ reading_sided p.last_record file f w.2 | inr w ↦ step_sided _ _ f w.step ]

-- it names a side exactly where it is one of a packet
abbrev pub NamesSide : Fault → Type 0
NamesSide f = IsSome f.end ↔ (redundancy_length ≤ f.number) × (f.number ≤ number_gap)

pub file_names_side : (p : Parameters) (file : List ℕ) (f : Fault) → crossing_of p file ≡ Err f → NamesSide f
file_names_side p file f e = (let w = file_sided p file f e in grind arith)

pub memory_names_side : (f : Fault) → f ≡ no_memory → NamesSide f
memory_names_side f e = grind arith
