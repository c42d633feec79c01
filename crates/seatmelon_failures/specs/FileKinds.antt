-- What the first bytes of a file tell of it.
use Rattle.std.specs.Prelude.{ℕ, List, [], ◌∷◌, Bool, true, false, ◌==◌, ◌||◌, ◌&&◌, length, nat_le, nat_lt}
use Rattle.std.specs.Prelude.{if◌then◌else◌}
use Rattle.std.specs.List.{list_all}
use Rattle.seatmelon_failures.specs.declared.file_kind.FileKind.{FileKind}
use Rattle.seatmelon_failures.specs.declared.file_kind.FileKind.TheVariants.{Capture, Gzip, Pcapng, Text, Other}

-- the list begins with these bytes
abbrev pub begins_with : List ℕ → List ℕ → Bool
begins_with [] bytes = true
begins_with (x ∷ xs) [] = false
begins_with (x ∷ xs) (y ∷ ys) = (x == y) && begins_with xs ys

-- a tab, a line end, or printable ASCII
abbrev pub is_text_character : ℕ → Bool
is_text_character b = (b == 9) || ((b == 10) || ((b == 13) || (nat_le 32 b && nat_le b 126)))

-- at least one byte, and only bytes of a text
abbrev pub holds_text : List ℕ → Bool
holds_text bytes = nat_lt 0 (length bytes) && list_all is_text_character bytes

-- the magic numbers of classic captures: with microseconds in either byte order, and with nanoseconds
abbrev pub begins_capture : List ℕ → Bool
begins_capture start = begins_with (212 ∷ 195 ∷ 178 ∷ 161 ∷ []) start
    || (begins_with (161 ∷ 178 ∷ 195 ∷ 212 ∷ []) start
    || (begins_with (77 ∷ 60 ∷ 178 ∷ 161 ∷ []) start
    || begins_with (161 ∷ 178 ∷ 60 ∷ 77 ∷ []) start))

abbrev pub kind_of_start : List ℕ → FileKind
kind_of_start start = if begins_capture start then Capture
    else if begins_with (31 ∷ 139 ∷ []) start then Gzip
    else if begins_with (10 ∷ 13 ∷ 13 ∷ 10 ∷ []) start then Pcapng
    else if holds_text start then Text
    else Other
