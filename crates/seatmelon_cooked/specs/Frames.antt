-- A packet with a cooked header, and the same packet as a frame of Ethernet.
use Rattle.std.specs.Prelude.{ℕ, ◌-◌, List, [], ◌∷◌, ◌++◌, drop, length, nat_lt, slice_range, take, ◌==◌, if◌then◌else◌}
use Rattle.byteorder.specs.Endian.{big_number}
use Rattle.seatmelon_cooked.specs.declared.form.Form.{Form}
use Rattle.seatmelon_cooked.specs.declared.form.Kind.{Kind}
use Rattle.seatmelon_cooked.specs.declared.form.Kind.TheVariants.{Sll, Sll2}
use Rattle.seatmelon_cooked.specs.Forms.{number_in, spelled}

-- how many bytes the cooked header has
abbrev pub header_length : Kind → ℕ
header_length Sll = 16
header_length Sll2 = 20

-- by how many bytes it is longer than that of Ethernet
abbrev pub excess : Kind → ℕ
excess kind = header_length kind - 14

-- the protocol, which is the EtherType of a frame of Ethernet
abbrev pub protocol_in : Kind → List ℕ → List ℕ
protocol_in Sll packet = slice_range packet 14 16
protocol_in Sll2 packet = slice_range packet 0 2

-- how long the sender's link-layer address is
abbrev pub address_length_in : Kind → List ℕ → ℕ
address_length_in Sll packet = big_number 2 (drop 4 packet)
address_length_in Sll2 packet = big_number 1 (drop 11 packet)

-- the first six bytes of its field
abbrev pub address_in : Kind → List ℕ → List ℕ
address_in Sll packet = slice_range packet 6 12
address_in Sll2 packet = slice_range packet 12 18

-- an address that isn't known
abbrev pub no_address : List ℕ
no_address = 0 ∷ 0 ∷ 0 ∷ 0 ∷ 0 ∷ 0 ∷ []

-- the sender's address, where it is one of Ethernet by its length
abbrev pub sender_in : Kind → List ℕ → List ℕ
sender_in kind packet = if address_length_in kind packet == 6 then address_in kind packet else no_address

-- the header of the frame: no receiver is known
abbrev pub frame_header : Kind → List ℕ → List ℕ
frame_header kind packet = no_address ++ (sender_in kind packet ++ protocol_in kind packet)

-- the frame
abbrev pub ethernet_frame : Kind → List ℕ → List ℕ
ethernet_frame kind packet = frame_header kind packet ++ drop (header_length kind) packet

-- a packet that was captured cut inside its header has no frame
abbrev pub frame_of : Kind → List ℕ → List ℕ
frame_of kind packet = if nat_lt (length packet) (header_length kind) then [] else ethernet_frame kind packet

abbrev pub frame_length : Kind → List ℕ → ℕ
frame_length kind packet =
    if nat_lt (length packet) (header_length kind) then 0 else length packet - excess kind

-- the header of a record in place of this one, of a frame of so many bytes: the time is the same, and the original length
-- is less by what the cooked header is longer
abbrev pub ethernet_front : Form → List ℕ → ℕ → List ℕ
ethernet_front form header length_now = take 8 header
    ++ (spelled form.order length_now ++ spelled form.order (number_in form.order 4 (drop 12 header) - excess form.kind))

-- the record of a packet whose record has this header
abbrev pub ethernet_record : Form → List ℕ → List ℕ → List ℕ
ethernet_record form header packet =
    ethernet_front form header (frame_length form.kind packet) ++ frame_of form.kind packet
