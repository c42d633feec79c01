-- The start words of a digest as a text: 32 hexadecimal digits of either case.
use Rattle.std.specs.Prelude.{ℕ, List, [], ◌∷◌, Option, Some, None, Result, Ok, Err, drop, take}
use Rattle.std.specs.Int.{from_be_bytes, w32}
use Rattle.hex.specs.Hex.{decode_sized}
use Rattle.hex.specs.declared.error.FromHexError.{FromHexError}

-- the word of the four bytes from a place on, highest byte first
abbrev pub big_word_at : List ℕ → ℕ → ℕ
big_word_at bytes at = from_be_bytes w32 (take 4 (drop at bytes))

-- four words of four bytes each
abbrev pub four_words : List ℕ → List ℕ
four_words bytes = big_word_at bytes 0 ∷ big_word_at bytes 4 ∷ big_word_at bytes 8 ∷ big_word_at bytes 12 ∷ []

abbrev pub words_in : Result (List ℕ) FromHexError → Option (List ℕ)
words_in (Ok bytes) = Some (four_words bytes)
words_in (Err e) = None

-- the words of the 16 bytes whose digits these are
unfoldable pub words_of : List ℕ → Option (List ℕ)
words_of text = words_in (decode_sized text 16)
