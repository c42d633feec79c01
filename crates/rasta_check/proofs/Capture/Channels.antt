-- Packets are found on recorded channels.
use Rattle.std.proofs.Common.{◌≡◌, ℕ, ◌+◌, ◌<◌, ◌≤◌, List, [], ◌∷◌, ◌++◌, length, Option, Some, None, Result, Ok, Err, Bool, cond, nat_lt, refl, ap, sym, ◌∙◌, arith, subst}
use Rattle.rasta_check.proofs.Prelude.{if◌then◌else◌, Fault, Packet, packet_in, packet_of, Parameters, CrossRecorded, all_push}
use Rattle.std.specs.Prelude.{slice_range, true, false, IfOk, IfSome}
use Rattle.std.specs.List.{find}
use Rattle.rasta_udp.specs.declared.channel.Channel.{Channel}
use Rattle.rasta_udp.specs.declared.channel.Datagram.{Datagram}
use Rattle.rasta_pcap.specs.Capture.{Numbered}
use Rattle.rasta_pdu.specs.Records.{at_record, recorded_packet}
use Rattle.rasta_udp.specs.Frame.{Direction, Fields, Found, directions_from, direction_of, fields_of, goes, found_by, is_tagged, map_found, untagged_of, without_tag, moved_on, datagram_of, packet_at}
use Rattle.rasta_check.specs.Capture.SentLists.{IsRecorded}

-- a channel's number is one of so many from this one on
abbrev Among : ℕ → ℕ → ℕ → Type 0
Among number count channel = (number ≤ channel) × (channel < number + count)

direction_among : (x : Fields) (number : ℕ) (channels : List Channel)
    → IfSome (find (λ (e : Direction). goes x e.source e.destination) (directions_from number channels)) (λ d. Among number (length channels) d.channel)
direction_among x number [] = tt
direction_among x number (c ∷ cs) = (let more = direction_among x (number + 1) cs in grind arith)

-- what is found, if anything, is so
abbrev Finds : {A : Type 0} → (A → Type 0) → Result (Option A) Fault → Type 0
Finds P r = IfOk r (λ o. IfSome o P)

mapped_finds : {A B : Type 0} (h : A → B) (P : A → Type 0) (Q : B → Type 0) (r : Result (Option A) Fault) → ((a : A) → P a → Q (h a)) → Finds P r → Finds Q (map_found h r)
mapped_finds h P Q r more w = grind arith

abbrev OnChannel : List Channel → Found → Type 0
OnChannel channels d = Among 1 (length channels) d.channel

found_among : (channels : List Channel) (x : Fields) → Finds (OnChannel channels) (found_by channels x)
unfolding found_by direction_of
found_among channels x = (let w = direction_among x 1 channels in grind arith)

datagram_among : (channels : List Channel) (frame : List ℕ) → Finds (OnChannel channels) (datagram_of channels frame)
unfolding datagram_of
datagram_among channels frame =
    let inner = mapped_finds (moved_on 4) (OnChannel channels) (OnChannel channels) _ (λ d w. w) (found_among channels (fields_of (without_tag frame))) in
    elim (is_tagged frame) as (λ b. Finds (OnChannel channels) (if b then map_found (moved_on 4) (untagged_of channels (without_tag frame)) else untagged_of channels frame))
    [ true ↦ inner | false ↦ found_among channels (fields_of frame) ]

-- a packet's channel is recorded, and its payload is a range of the frame
packet_finds : (channels : List Channel) (frame : List ℕ)
    → Finds (λ a. Among 1 (length channels) a.channel × ((start end : ℕ) × (slice_range frame start end ≡ a.payload))) (packet_in channels frame)
unfolding packet_in
packet_finds channels frame = mapped_finds (packet_at frame) (OnChannel channels) _ (datagram_of channels frame) (λ d w. (w, (d.start, d.end, refl))) (datagram_among channels frame)

pub in_range : (channels : List Channel) (frame : List ℕ) (a : Packet) → packet_in channels frame ≡ Ok (Some a) → (start end : ℕ) × (slice_range frame start end ≡ a.payload)
in_range channels frame a h = (subst (Finds _) h (packet_finds channels frame)).1

-- the packet that a frame holds was sent on a recorded channel
pub is_recorded : (p : Parameters) (frame : List ℕ) (a : Packet) → packet_in p.channels frame ≡ Ok (Some a) → IsRecorded p a.channel
is_recorded p frame a h = (let w = (subst (Finds _) h (packet_finds p.channels frame)).0 in let low = w.0 in let high = w.1 in (omega arith, omega arith))

-- a packet that a record holds is that of its frame
in_frame : (b : Bool) (number : ℕ) (x : Result (Option Packet) Fault) (a : Packet) → cond b (Ok None) (at_record number x) ≡ Ok (Some a)
    → x ≡ Ok (Some a)
in_frame true number x a e = absurd cc
in_frame false number (Ok found) a e = e
in_frame false number (Err fault) a e = absurd cc

-- so was the datagram that the code finds in it
pub is_recorded_by : (p : Parameters) (r : Numbered) (o : Result (Option Datagram) Fault) (q : Option Datagram) (found : Datagram)
    → map_found packet_of o ≡ recorded_packet p r → o ≡ Ok q → q ≡ Some found → IsRecorded p found.channel
is_recorded_by p r o q found a e f =
    is_recorded p r.1 (packet_of found)
    (in_frame (nat_lt r.0 p.first_record) r.0 (packet_in p.channels r.1) (packet_of found) (sym a ∙ ap (map_found packet_of) (e ∙ ap Ok f)))

-- packets on recorded channels, and one more
pub recorded_more : (p : Parameters) (packets : List Packet) (a : Packet) → CrossRecorded p packets → IsRecorded p a.channel → CrossRecorded p (packets ++ a ∷ [])
recorded_more p packets a all one = all_push packets a all one
