-- The classic capture of a file has its packets as records.
use Rattle.std.proofs.Common.{◌≡◌, ◌∙◌, ℕ, zero, suc, ◌+◌, ◌-◌, ◌^◌, ◌<◌, ◌≤◌, List, [], ◌∷◌, ◌++◌, append_assoc, length, length-append, length-take, take, drop, drop_at, map, min, Option, None, Some, Result, Ok, Err, IfOk, Bool, true, false, nat_lt, nat_le, nat_eq, cond, refl, ap, sym, inl, inr, slice_range, arith}
use Rattle.std.specs.Prelude.{⊤, slice_get}
use Rattle.std.specs.List.{AllByRecursion, flat_map}
use Rattle.std.proofs.lemmas.Bool.{ltb-false}
use Rattle.std.proofs.lemmas.Bool.Decides.{nat_tests}
use Rattle.std.proofs.lemmas.List.Concat.{flat_map-cons}
use Rattle.byteorder.specs.Endian.{little_bytes, little_number}
use Rattle.byteorder.specs.Numbers.{length-bytes_low_first, little_number-reads_back}
use Rattle.rasta_pcap.specs.Capture.{RecordEntry, IsCapture, IsEntry, IsHeader, IsRefusedFile, Numbered, entry_bytes, max_records, next}
use Rattle.rasta_pcap.specs.Fault.{cut_record, fault_at, too_many}
use Rattle.rasta_pcap.specs.declared.fault.Fault.{Fault}
use Rattle.rasta_pcap.specs.declared.pcap.Endianness.TheVariants as ends
use Rattle.seatmelon_cooked.specs.declared.form.Kind.{Kind}
use Rattle.seatmelon_cooked.specs.Forms.{kind_of}
use Rattle.seatmelon_cooked.proofs.FrameLengths.{frame_of-short}
use Rattle.seatmelon_pcapng.specs.Blocks.{bounded_by, enhanced_packet, ethernet, front_of, full_turn, has_version, interface_description, most_captured, most_interfaces, obsolete_packet, packet_by, packet_of, packet_turn, packet_with, section_header, simple_packet, simple_turn, stamp_in, turn_by, turn_of}
use Rattle.seatmelon_pcapng.specs.Moments.{moment_at, no_moment}
use Rattle.seatmelon_pcapng.specs.Orders.{field}
use Rattle.seatmelon_pcapng.specs.Readings.{Next, Packet, Reading, State, by_front, by_turn, classic_of, cooked_in, front_bytes, header_bytes, mark_of, next_of, packet_bytes, packet_in, packets_in, read_step, reading_from, reading_of, state_after}
use Rattle.seatmelon_pcapng.specs.Readings.Next.{ended, refused, goes}
use Rattle.seatmelon_pcapng.specs.declared.block.Found.{Found}
use Rattle.seatmelon_pcapng.specs.declared.block.Turn.{Turn}
use Rattle.seatmelon_pcapng.specs.declared.block.Turn.TheVariants as turns
use Rattle.seatmelon_pcapng.specs.declared.front.Front.{Front}
use Rattle.seatmelon_pcapng.specs.declared.interface.Interface.{Interface}
use Rattle.seatmelon_pcapng.specs.declared.order.Order.{Order}
use Rattle.seatmelon_pcapng.specs.declared.refusal.Reason.{Reason}
use Rattle.seatmelon_pcapng.specs.declared.refusal.Reason.TheVariants as reasons
use Rattle.seatmelon_pcapng.specs.declared.refusal.Refusal.{Refusal}
use Rattle.seatmelon_pcapng.specs.declared.time.Moment.{Moment}

-- ---- no packet has too many bytes

abbrev IsShort : Turn → Type 0
IsShort turns.Section = ⊤
IsShort (turns.Interface i) = ⊤
IsShort (turns.Packet found) = found.end ≤ found.start + most_captured
IsShort (turns.Cooked found kind) = found.end ≤ found.start + most_captured
IsShort (turns.Foreign found link_type) = found.end ≤ found.start + most_captured
IsShort turns.Other = ⊤

either : (b : Bool) (x y : Result Turn Reason) → IfOk x IsShort → IfOk y IsShort → IfOk (cond b x y) IsShort
either true x y h k = h
either false x y h k = k

-- nothing is told of a packet that is neither one of Ethernet nor one with a cooked header
with-short : (kind : Option Kind) (found : Found) (link_type : ℕ) → found.end ≤ found.start + most_captured → IsShort (packet_with kind link_type found)
with-short None found link_type h = omega arith
with-short (Some kind) found link_type h = h

told-short : (is : Bool) (found : Found) (link_type : ℕ) → found.end ≤ found.start + most_captured
    → IsShort (cond is (turns.Packet found) (packet_by link_type found))
told-short true found link_type h = h
told-short false found link_type h = with-short (kind_of link_type) found link_type h

packet_turn-short : (i : Interface) (moment : Moment) (original captured start room : ℕ) → IfOk (packet_turn i moment original captured start room) IsShort
packet_turn-short i moment original captured start room = either (nat_lt room captured) (Err reasons.CapturedBeyond) _ tt (by (nat_lt most_captured captured) refl)
  where
    by : (long : Bool) → nat_lt most_captured captured ≡ long → IfOk (cond long (Err reasons.CapturedTooLong)
        (Ok (packet_of i (record { moment = moment; original = original; start = start; end = start + captured })))) IsShort
    by true e = tt
    by false e =
        let few : captured ≤ most_captured = ltb-false most_captured captured e in
        told-short (nat_eq i.link_type ethernet) (record { moment = moment; original = original; start = start; end = start + captured }) i.link_type (omega (arith, few))

full_turn-short : (order : Order) (i : Option Interface) (block : List ℕ) → IfOk (full_turn order i block) IsShort
full_turn-short order None block = tt
full_turn-short order (Some i) block =
    packet_turn-short i (moment_at i (stamp_in order block)) (field order 4 24 block) (field order 4 20 block) 28 (length block - 32)

simple_turn-short : (order : Order) (i : Option Interface) (block : List ℕ) → IfOk (simple_turn order i block) IsShort
simple_turn-short order None block = tt
simple_turn-short order (Some i) block =
    packet_turn-short i no_moment (field order 4 8 block) (bounded_by i.snap_length (field order 4 8 block)) 12 (length block - 16)

turn_by-short : (interfaces : List Interface) (order : Order) (kind : ℕ) (block : List ℕ) → IfOk (turn_by interfaces order kind block) IsShort
turn_by-short interfaces order kind block =
    either (nat_eq kind section_header) _ _ (either (has_version order block) (Ok turns.Section) (Err reasons.Version) tt tt)
    (either (nat_eq kind interface_description) _ _ (either (nat_le most_interfaces (length interfaces)) (Err reasons.TooManyInterfaces) _ tt tt)
    (either (nat_eq kind enhanced_packet) _ _ (full_turn-short order (slice_get interfaces (field order 4 8 block)) block)
    (either (nat_eq kind obsolete_packet) _ _ (full_turn-short order (slice_get interfaces (field order 2 8 block)) block)
    (either (nat_eq kind simple_packet) _ (Ok turns.Other) (simple_turn-short order (slice_get interfaces 0) block) tt))))

turn_of-short : (interfaces : List Interface) (front : Front) (block : List ℕ) → IfOk (turn_of interfaces front block) IsShort
turn_of-short interfaces front block =
    either (nat_eq (field front.order 4 (front.len - 4) block) front.len) _ (Err reasons.Trailer) (turn_by-short interfaces front.order front.kind block) tt

abbrev IsShortNext : Next → Type 0
IsShortNext ended = ⊤
IsShortNext (refused reason) = ⊤
IsShortNext (goes front turn) = IsShort turn

either_next : (b : Bool) (x y : Next) → IsShortNext x → IsShortNext y → IsShortNext (cond b x y)
either_next true x y h k = h
either_next false x y h k = k

by_turn-short : (front : Front) (r : Result Turn Reason) → IfOk r IsShort → IsShortNext (by_turn front r)
by_turn-short front (Err reason) h = tt
by_turn-short front (Ok turn) h = h

by_front-short : (s : State) (r : Result Front Reason) → IsShortNext (by_front s r)
by_front-short s (Err reason) = tt
by_front-short s (Ok front) =
    either_next (nat_lt (length s.rest) front.len) (refused reasons.Cut) _ tt
    (by_turn-short front (turn_of s.interfaces front (take front.len s.rest)) (turn_of-short s.interfaces front (take front.len s.rest)))

next_of-short : (s : State) → IsShortNext (next_of s)
next_of-short s =
    either_next (nat_eq (length s.rest) 0) ended _ tt
    (either_next (nat_lt (length s.rest) 12) (refused reasons.Cut) _ tt (by_front-short s (front_of s.order s.rest)))

abbrev HasFew : Packet → Type 0
HasFew p = length p.bytes ≤ most_captured

packet-few : (block : List ℕ) (found : Found) → found.end ≤ found.start + most_captured → HasFew (packet_in block found)
packet-few block found h =
    let size : length (slice_range block found.start found.end) ≡ min (found.end - found.start) (length (drop found.start block)) =
    length-take (found.end - found.start) (drop found.start block) in
    omega (arith, size, h)

cooked-few : (block : List ℕ) (found : Found) (kind : Kind) → found.end ≤ found.start + most_captured → HasFew (cooked_in block found kind)
cooked-few block found kind h =
    let shorter = frame_of-short kind (slice_range block found.start found.end) in
    let few = packet-few block found h in
    omega (arith, shorter, few)

packets_in-few : (block : List ℕ) (turn : Turn) (more : List Packet) → IsShort turn → AllByRecursion HasFew more → AllByRecursion HasFew (packets_in block turn ++ more)
packets_in-few block turns.Section more h k = k
packets_in-few block (turns.Interface i) more h k = k
packets_in-few block (turns.Packet found) more h k = (packet-few block found h, k)
packets_in-few block (turns.Cooked found kind) more h k = (cooked-few block found kind h, k)
packets_in-few block (turns.Foreign found link_type) more h k = (packet-few block found h, k)
packets_in-few block turns.Other more h k = k

read_step-few : (s : State) (n : Next) (more : Reading) → IsShortNext n → AllByRecursion HasFew more.packets → AllByRecursion HasFew (read_step s n more).packets
read_step-few s ended more h k = tt
read_step-few s (refused reason) more h k = tt
read_step-few s (goes front turn) more h k = packets_in-few (take front.len s.rest) turn more.packets h k

reading_from-few : (left : ℕ) (s : State) → AllByRecursion HasFew (reading_from left s).packets
unfolding reading_from
reading_from-few zero s = tt
reading_from-few (suc left) s =
    read_step-few s (next_of s) (reading_from left (state_after s (next_of s))) (next_of-short s) (reading_from-few left (state_after s (next_of s)))

-- ---- a packet as a record

abbrev entry_of : Packet → RecordEntry
entry_of p = record { header = front_bytes p; bytes = p.bytes }

-- the third of four numbers of four bytes
module _ (a b c d : List ℕ) (la : length a ≡ 4) (lb : length b ≡ 4) where
  front-size : length c ≡ 4 → length d ≡ 4 → length (a ++ (b ++ (c ++ d))) ≡ 16
  front-size lc ld =
      let first : length (a ++ (b ++ (c ++ d))) ≡ length a + length (b ++ (c ++ d)) = length-append a (b ++ (c ++ d)) in
      let second : length (b ++ (c ++ d)) ≡ length b + length (c ++ d) = length-append b (c ++ d) in
      let third : length (c ++ d) ≡ length c + length d = length-append c d in
      omega (arith, first, second, third, la, lb, lc, ld)

  front-third : drop 8 (a ++ (b ++ (c ++ d))) ≡ c ++ d
  front-third =
      let both : length (a ++ b) ≡ length a + length b = length-append a b in
      ap (drop 8) (sym (append_assoc a b (c ++ d))) ∙ drop_at (a ++ b) (c ++ d) 8 (omega (arith, both, la, lb))

is_entry : (p : Packet) → HasFew p → IsEntry ends.Little (entry_of p)
is_entry p few =
    let a = little_bytes 4 p.seconds in
    let b = little_bytes 4 p.nanoseconds in
    let c = little_bytes 4 (length p.bytes) in
    let d = little_bytes 4 p.original in
    let la = length-bytes_low_first 0 4 p.seconds in
    let lb = length-bytes_low_first 0 4 p.nanoseconds in
    let fits : length p.bytes < 256 ^ 4 = omega (arith, few) in record {
      size = front-size a b c d la lb (length-bytes_low_first 0 4 (length p.bytes)) (length-bytes_low_first 0 4 p.original);
      captured = ap (little_number 4) (front-third a b c d la lb) ∙ little_number-reads_back 4 (length p.bytes) d fits;
      bounded = few;
    }

each_entry : (packets : List Packet) → AllByRecursion HasFew packets → AllByRecursion (IsEntry ends.Little) (map entry_of packets)
each_entry [] h = tt
each_entry (p ∷ packets) h = (is_entry p h.0, each_entry packets h.1)

entries_bytes : (packets : List Packet) → flat_map packet_bytes packets ≡ flat_map entry_bytes (map entry_of packets)
entries_bytes [] = refl
entries_bytes (p ∷ packets) =
    flat_map-cons packet_bytes p packets ∙ ap (λ l. packet_bytes p ++ l) (entries_bytes packets) ∙ sym (flat_map-cons entry_bytes (entry_of p) (map entry_of packets))

abbrev frames_of : List Packet → List (List ℕ)
frames_of packets = map (λ (p : Packet). p.bytes) packets

entries_frames : (packets : List Packet) → frames_of packets ≡ map (λ (e : RecordEntry). e.bytes) (map entry_of packets)
entries_frames [] = refl
entries_frames (p ∷ packets) = ap (λ l. p.bytes ∷ l) (entries_frames packets)

entries_count : (packets : List Packet) → length (map entry_of packets) ≡ length packets
entries_count [] = refl
entries_count (p ∷ packets) = ap suc (entries_count packets)

-- ---- the whole file

header_is : IsHeader ends.Little header_bytes
header_is = record { size = refl; magic = inr refl; major = refl; minor = refl; link_type = refl }

whole_is : (r : Reading) (mark : List ℕ) → mark_of r.refusal ≡ mark → classic_of r ≡ header_bytes ++ (flat_map entry_bytes (map entry_of r.packets) ++ mark)
whole_is r mark e =
    ap (λ l. header_bytes ++ (l ++ mark_of r.refusal)) (entries_bytes r.packets) ∙ ap (λ l. header_bytes ++ (flat_map entry_bytes (map entry_of r.packets) ++ l)) e

pub classic-is_capture : (file : List ℕ) → (reading_of file).refusal ≡ None → length (reading_of file).packets ≤ max_records
    → IsCapture max_records (classic_of (reading_of file)) (frames_of (reading_of file).packets)
classic-is_capture file none few =
    let r = reading_of file in
    let count : length (map entry_of r.packets) ≡ length r.packets = entries_count r.packets in record {
      order = ends.Little;
      header = header_bytes;
      entries = map entry_of r.packets;
      rest = [];
      is_header = header_is;
      each = each_entry r.packets (reading_from-few (length file) _);
      whole = whole_is r [] (ap mark_of none);
      bytes_are = entries_frames r.packets;
      within = omega (arith, count, few);
      stops = inl refl;
    }

abbrev failing : Fault → Result (Option Numbered) Fault
failing f = Err f

not_all : (n m : ℕ) → m < n → nat_le n m ≡ false
not_all n m h = grind (arith, nat_tests)

cut_there : (count n : ℕ) → count ≡ n → n < max_records → next (record { order = ends.Little; rest = 0 ∷ []; count = count }) ≡ failing (fault_at cut_record (n + 1))
cut_there count n e few =
    ap (λ b. cond b (failing (fault_at too_many (count + 1))) (failing (fault_at cut_record (count + 1)))) (not_all max_records count (omega (arith, e)))
    ∙ ap (λ (k : ℕ). failing (fault_at cut_record (k + 1))) e

pub classic-is_refused : (file : List ℕ) (refusal : Refusal) → (reading_of file).refusal ≡ Some refusal → length (reading_of file).packets < max_records
    → IsRefusedFile max_records (classic_of (reading_of file)) (frames_of (reading_of file).packets) (fault_at cut_record (length (reading_of file).packets + 1))
classic-is_refused file refusal some few =
    let r = reading_of file in
    let count : length (map entry_of r.packets) ≡ length r.packets = entries_count r.packets in record {
      order = ends.Little;
      header = header_bytes;
      entries = map entry_of r.packets;
      rest = 0 ∷ [];
      is_header = header_is;
      each = each_entry r.packets (reading_from-few (length file) _);
      whole = whole_is r (0 ∷ []) (ap mark_of some);
      bytes_are = entries_frames r.packets;
      below = omega (arith, count, few);
      refused = cut_there (length (map entry_of r.packets)) (length r.packets) count few;
    }
