-- Numbers in the byte order of a section.
use Rattle.std.specs.Prelude.{ℕ, List, drop, Option, None, Some, ◌==◌, if◌then◌else◌}
use Rattle.byteorder.specs.Endian.{big_number, little_number}
use Rattle.seatmelon_pcapng.specs.declared.order.Order.{Order}
use Rattle.seatmelon_pcapng.specs.declared.order.Order.TheVariants.{Little, Big}

-- the first n bytes as a number
abbrev pub number_in : Order → ℕ → List ℕ → ℕ
number_in Little n bytes = little_number n bytes
number_in Big n bytes = big_number n bytes

-- the n bytes at an offset as a number
abbrev pub field : Order → ℕ → ℕ → List ℕ → ℕ
field order n at bytes = number_in order n (drop at bytes)

-- the number by which a section header tells its byte order
abbrev pub byte_order_magic : ℕ
byte_order_magic = 0x1a2b3c4d

-- the byte order that a section header tells
abbrev pub order_told : List ℕ → Option Order
order_told bytes =
    if field Little 4 8 bytes == byte_order_magic then Some Little
    else if field Big 4 8 bytes == byte_order_magic then Some Big
    else None
