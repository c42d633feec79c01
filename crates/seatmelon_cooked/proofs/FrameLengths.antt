-- How long frames and their headers are, and how a header is made.
use Rattle.std.proofs.Common.{◌≡◌, ◌∙◌, ℕ, ◌+◌, ◌-◌, ◌<◌, ◌≤◌, Bool, true, false, cond, nat_eq, nat_lt, List, [], ◌∷◌, ◌++◌, append-nil, append_assoc, length, length-append, length-drop, length-take-le, take, drop, ap, refl, sym, arith}
use Rattle.std.proofs.lemmas.Bool.Decides.{nat_tests}
use borrow.Rule.Slice.PartMut.{put_mid}
use lib.Seq.{drop_at, take-append_seam}
use Rattle.seatmelon_cooked.specs.declared.form.Kind.{Kind}
use Rattle.seatmelon_cooked.specs.declared.form.Kind.TheVariants.{Sll, Sll2}
use Rattle.seatmelon_cooked.specs.Frames.{address_in, address_length_in, ethernet_frame, excess, frame_header, frame_of, header_length, no_address, protocol_in, sender_in}

-- a cooked header is longer than that of Ethernet
pub header_length-least : (kind : Kind) → 14 ≤ header_length kind
header_length-least Sll = omega arith
header_length-least Sll2 = omega arith

-- ---- fields that are there

length-part : (packet : List ℕ) (at n : ℕ) → at + n ≤ length packet → length (take n (drop at packet)) ≡ n
length-part packet at n h =
    let behind : length (drop at packet) ≡ length packet - at = length-drop at packet in
    length-take-le n (drop at packet) (omega (arith, behind))

pub length-address_in : (kind : Kind) (packet : List ℕ) → header_length kind ≤ length packet → length (address_in kind packet) ≡ 6
length-address_in Sll packet h = length-part packet 6 6 (omega arith)
length-address_in Sll2 packet h = length-part packet 12 6 (omega arith)

pub length-protocol_in : (kind : Kind) (packet : List ℕ) → header_length kind ≤ length packet → length (protocol_in kind packet) ≡ 2
length-protocol_in Sll packet h = length-part packet 14 2 (omega arith)
length-protocol_in Sll2 packet h = length-part packet 0 2 (omega arith)

length-either : (b : Bool) (xs ys : List ℕ) (n : ℕ) → length xs ≡ n → length ys ≡ n → length (cond b xs ys) ≡ n
length-either true xs ys n g h = g
length-either false xs ys n g h = h

pub length-sender_in : (kind : Kind) (packet : List ℕ) → header_length kind ≤ length packet → length (sender_in kind packet) ≡ 6
length-sender_in kind packet h = length-either (nat_eq (address_length_in kind packet) 6) (address_in kind packet) no_address 6 (length-address_in kind packet h) refl

pub length-frame_header : (kind : Kind) (packet : List ℕ) → header_length kind ≤ length packet → length (frame_header kind packet) ≡ 14
length-frame_header kind packet h =
    let sender = length-sender_in kind packet h in
    let protocol = length-protocol_in kind packet h in
    let first : length no_address ≡ 6 = refl in
    let whole : length (frame_header kind packet) ≡ length no_address + length (sender_in kind packet ++ protocol_in kind packet) =
    length-append no_address (sender_in kind packet ++ protocol_in kind packet) in
    let rest : length (sender_in kind packet ++ protocol_in kind packet) ≡ length (sender_in kind packet) + length (protocol_in kind packet) =
    length-append (sender_in kind packet) (protocol_in kind packet) in
    omega (arith, sender, protocol, first, whole, rest)

-- both are written into zeros
abbrev pub zeros : List ℕ
zeros = 0 ∷ 0 ∷ 0 ∷ 0 ∷ 0 ∷ 0 ∷ 0 ∷ 0 ∷ 0 ∷ 0 ∷ 0 ∷ 0 ∷ 0 ∷ 0 ∷ []

abbrev last_zeros : List ℕ
last_zeros = 0 ∷ 0 ∷ []

pub header-made : (sender protocol : List ℕ) → length sender ≡ 6 → put_mid 12 2 (put_mid 6 6 zeros sender) protocol ≡ no_address ++ (sender ++ protocol)
header-made sender protocol size =
    let front : List ℕ = no_address ++ sender in
    let whole : length front ≡ length no_address + length sender = length-append no_address sender in
    let first : length no_address ≡ 6 = refl in
    let length_front : length front ≡ 12 = omega (arith, whole, first, size) in
    let there : take 12 (front ++ last_zeros) ≡ front = ap (λ (k : ℕ). take k (front ++ last_zeros)) (sym length_front) ∙ take-append_seam front last_zeros in
    ap (λ (l : List ℕ). take 12 l ++ (protocol ++ drop 2 (drop 12 l))) (sym (append_assoc no_address sender last_zeros))
    ∙ ap (λ (l : List ℕ). l ++ (protocol ++ drop 2 (drop 12 (front ++ last_zeros)))) there
    ∙ ap (λ (l : List ℕ). front ++ (protocol ++ drop 2 l)) (drop_at front last_zeros 12 length_front)
    ∙ ap (λ (l : List ℕ). front ++ l) (append-nil protocol)
    ∙ append_assoc no_address sender protocol

-- ---- whole frames, and none

is_less : (n m : ℕ) → n < m → nat_lt n m ≡ true
is_less n m h = grind (arith, nat_tests)

not_less : (n m : ℕ) → m ≤ n → nat_lt n m ≡ false
not_less n m h = grind (arith, nat_tests)

-- of a packet that was captured cut inside its header
pub frame_of-cut : (kind : Kind) (packet : List ℕ) → length packet < header_length kind → frame_of kind packet ≡ []
frame_of-cut kind packet h = ap (λ (b : Bool). cond b [] (ethernet_frame kind packet)) (is_less (length packet) (header_length kind) h)

-- of one whose header is whole
pub frame_of-whole : (kind : Kind) (packet : List ℕ) → header_length kind ≤ length packet → frame_of kind packet ≡ ethernet_frame kind packet
frame_of-whole kind packet h = ap (λ (b : Bool). cond b [] (ethernet_frame kind packet)) (not_less (length packet) (header_length kind) h)

pub length-frame_of : (kind : Kind) (packet : List ℕ) → header_length kind ≤ length packet → length (frame_of kind packet) ≡ length packet - excess kind
length-frame_of kind packet h =
    let least = header_length-least kind in
    let header = length-frame_header kind packet h in
    let whole : length (frame_of kind packet) ≡ length (frame_header kind packet) + length (drop (header_length kind) packet) =
    ap length (frame_of-whole kind packet h) ∙ length-append (frame_header kind packet) (drop (header_length kind) packet) in
    let rest : length (drop (header_length kind) packet) ≡ length packet - header_length kind = length-drop (header_length kind) packet in
    omega (arith, least, header, whole, rest)

-- a frame is no longer than its packet
frame_of-shorter : (b : Bool) (kind : Kind) (packet : List ℕ) → nat_lt (length packet) (header_length kind) ≡ b → length (frame_of kind packet) ≤ length packet
frame_of-shorter true kind packet e =
    let cut : length packet < header_length kind = grind (arith, nat_tests) in
    let none : length (frame_of kind packet) ≡ 0 = ap length (frame_of-cut kind packet cut) in
    omega (arith, none)
frame_of-shorter false kind packet e =
    let whole : header_length kind ≤ length packet = grind (arith, nat_tests) in
    let size = length-frame_of kind packet whole in
    omega (arith, size)

pub frame_of-short : (kind : Kind) (packet : List ℕ) → length (frame_of kind packet) ≤ length packet
frame_of-short kind packet = frame_of-shorter (nat_lt (length packet) (header_length kind)) kind packet refl
