-- What records show, one by one, and the text of it.
use Rattle.std.proofs.Common.{◌≡◌, ℕ, suc, zero, ◌+◌, ◌-◌, ◌<◌, ◌++◌, append_assoc, List, [], ◌∷◌, length, Some, None, refl, ap, ◌∙◌, arith}
use Rattle.rasta_pcap.specs.declared.fault.Fault.{Fault}
use Rattle.rasta_pcap.specs.declared.pcap.Endianness.{Endianness}
use Rattle.rasta_pcap.specs.Capture.{Numbered, Reading, cursor_at, reading, with_record}
use Rattle.rasta_pcap.proofs.Steps.{reading-none_left}
use Rattle.rasta_pdu.specs.Params.{Parameters}
use Rattle.rasta_show.specs.Lines.{ShownPacket, packet_line, packets_line}
use Rattle.rasta_line.specs.Texts.{refused_line}
use Rattle.rasta_show.specs.Show.{packet, sight_of, Shown, with_sight, shown_in, shown_of, lines_from, last_line, text_from}

-- nothing is shown of nothing
abbrev pub nothing : Shown
nothing = record { packets = []; fault = None }

-- a fault alone is shown
abbrev pub refusal : Fault → Shown
refusal f = record { packets = []; fault = Some f }

pub shown-nothing : (p : Parameters) → shown_of p (record { records = []; fault = None }) ≡ nothing
unfolding shown_in
shown-nothing p = refl

pub shown-refusal : (p : Parameters) (f : Fault) → shown_of p (record { records = []; fault = Some f }) ≡ refusal f
unfolding shown_in
shown-refusal p f = refl

pub shown-record : (p : Parameters) (r : Numbered) (more : Reading) → shown_of p (with_record r more) ≡ with_sight (sight_of p r) (shown_of p more)
unfolding shown_in
shown-record p r more = refl

pub shown-none_left : (p : Parameters) (order : Endianness) (rest : List ℕ) (count : ℕ) → shown_of p (reading zero (cursor_at order rest count)) ≡ nothing
shown-none_left p order rest count = ap (shown_of p) (reading-none_left (cursor_at order rest count)) ∙ shown-nothing p

-- a packet's line stands before the text of what follows
pub text_from-packet : (place : ℕ) (q : ShownPacket) (s : Shown)
    → text_from place (with_sight (packet q) s) ≡ packet_line place q ++ text_from (place + 1) s
unfolding text_from lines_from
text_from-packet place q s =
    let count : place + length (q ∷ s.packets) ≡ place + 1 + length s.packets = omega arith in
    ap (λ (n : ℕ). (packet_line place q ++ lines_from (place + 1) s.packets) ++ last_line n s.fault) count
    ∙ append_assoc (packet_line place q) (lines_from (place + 1) s.packets) (last_line (place + 1 + length s.packets) s.fault)

pub text_from-fault : (place : ℕ) (f : Fault) → text_from place (record { packets = []; fault = Some f }) ≡ refused_line f
unfolding text_from lines_from
text_from-fault place f = refl

pub text_from-nothing : (place : ℕ) → text_from place nothing ≡ packets_line place
unfolding text_from lines_from
text_from-nothing place = ap packets_line (let same : place + 0 ≡ place = omega arith in same)

-- one record more is left than after it
pub left-after : (end counter : ℕ) → counter < end → end - counter ≡ suc (end - (counter + 1))
left-after end counter below = omega arith
