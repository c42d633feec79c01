-- Captures of frames that have Linux cooked headers: link types 113 (SLL) and 276 (SLL2).
use Rattle.std.specs.Prelude.{ℕ, List, drop, length, nat_lt, Option, None, Some, Bool, ◌==◌, ◌&&◌, if◌then◌else◌}
use Rattle.byteorder.specs.Endian.{big_bytes, big_number, little_bytes, little_number}
use Rattle.rasta_pcap.specs.Capture.{is_magic}
use Rattle.seatmelon_cooked.specs.declared.form.Form.{Form}
use Rattle.seatmelon_cooked.specs.declared.form.Kind.{Kind}
use Rattle.seatmelon_cooked.specs.declared.form.Kind.TheVariants.{Sll, Sll2}
use Rattle.seatmelon_cooked.specs.declared.order.Order.{Order}
use Rattle.seatmelon_cooked.specs.declared.order.Order.TheVariants.{Little, Big}

-- the first n bytes as a number, in the order of the computer that wrote the file
abbrev pub number_in : Order → ℕ → List ℕ → ℕ
number_in Little n bytes = little_number n bytes
number_in Big n bytes = big_number n bytes

-- a number of four bytes, in that order
abbrev pub spelled : Order → ℕ → List ℕ
spelled Little number = little_bytes 4 number
spelled Big number = big_bytes 4 number

-- the byte order in which a file begins with a magic number
abbrev pub order_of : List ℕ → Option Order
order_of file =
    if is_magic (number_in Little 4 file) then Some Little
    else if is_magic (number_in Big 4 file) then Some Big
    else None

-- which cooked header frames of a link type have
abbrev pub kind_of : ℕ → Option Kind
kind_of link_type = if link_type == 113 then Some Sll else if link_type == 276 then Some Sll2 else None

-- the link type of frames that have it
abbrev pub link_type_of : Kind → ℕ
link_type_of Sll = 113
link_type_of Sll2 = 276

abbrev pub formed : Order → Option Kind → Option Form
formed order None = None
formed order (Some kind) = Some (record { order = order; kind = kind })

abbrev pub is_version : Order → List ℕ → Bool
is_version order file = number_in order 2 (drop 4 file) == 2 && number_in order 2 (drop 6 file) == 4

abbrev pub form_by : Option Order → List ℕ → Option Form
form_by None file = None
form_by (Some order) file =
    if is_version order file then formed order (kind_of (number_in order 4 (drop 20 file))) else None

-- the byte order and the cooked header of a file that begins with these 24 bytes; none of another file
abbrev pub form_in : List ℕ → Option Form
form_in header = if nat_lt (length header) 24 then None else form_by (order_of header) header
