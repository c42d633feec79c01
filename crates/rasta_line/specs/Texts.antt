-- What several texts share: lines of words, the names of ends, messages, and refusals.
use Rattle.std.specs.Prelude.{ℕ, List, [], ◌∷◌, ◌++◌, Option, Some, None, codes}
use Rattle.std.specs.Fmt.{decimal}
use Rattle.hex.specs.Hex.{encode_lower}
use Rattle.rasta_pcap.specs.declared.fault.Fault.{Fault}
use Rattle.rasta_pcap.specs.declared.fault.Side.{Side}
use Rattle.rasta_pcap.specs.declared.fault.Side.TheVariants.{Client, Server}
use Rattle.rasta_pcap.specs.Fault.{name_of}

-- the name of an end
abbrev pub side_text : Side → List ℕ
side_text Client = codes "client"
side_text Server = codes "server"

abbrev pub end_text : Option Side → List ℕ
end_text (Some side) = side_text side
end_text None = codes "-"

-- words with one space between them, and the end of the line
abbrev pub line_of : List (List ℕ) → List ℕ
line_of [] = 10 ∷ []
line_of (word ∷ []) = word ++ 10 ∷ []
line_of (word ∷ next ∷ words) = word ++ (32 ∷ line_of (next ∷ words))

-- words, each with a space after it, before the rest of a line
abbrev pub words_before : List (List ℕ) → List ℕ → List ℕ
words_before [] rest = rest
words_before (word ∷ words) rest = word ++ (32 ∷ words_before words rest)

-- a message in lower case digits; an empty one is a dot
abbrev pub message_text : List ℕ → List ℕ
message_text [] = codes "."
message_text (b ∷ bs) = encode_lower (b ∷ bs)

-- a refusal: number, name, place and end
unfoldable pub refused_line : Fault → List ℕ
refused_line f = line_of (codes "refused" ∷ decimal f.number ∷ name_of f.number ∷ decimal f.place ∷ end_text f.end ∷ [])
