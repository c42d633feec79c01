-- What a text says: the number that it spells, and its parts.
use Rattle.std.specs.Prelude.{ℕ, List, ◌&&◌, ◌==◌, nat_le, nat_lt, length, if◌then◌else◌, Option, Some, None}
use Rattle.std.specs.Fmt.{decimal}
use Rattle.std.specs.List.{position_or_len, before_first, after_first}
use Rattle.std.specs.Str.{bytes_eq}
use Rattle.std.specs.Str.Parse.{digits_value}

-- the number, not above the bound, whose decimal text this is
unfoldable pub decimal_of : ℕ → List ℕ → Option ℕ
decimal_of most text =
    let n = digits_value 10 text in
    if bytes_eq text (decimal n) && nat_le n most then Some n else None

-- the parts of a text around the first of this byte
unfoldable pub cut : ℕ → List ℕ → Option (List ℕ × List ℕ)
cut byte text =
    if nat_lt (position_or_len (λ b. b == byte) text) (length text)
    then Some (before_first (λ b. b == byte) text, after_first (λ b. b == byte) text) else None

-- one step after another, as far as each gives a value
abbrev pub and_then : {A B : Type 0} → Option A → (A → Option B) → Option B
and_then None f = None
and_then (Some x) f = f x
