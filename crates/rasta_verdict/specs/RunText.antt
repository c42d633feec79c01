-- The text of a run: a line for each take, make and copy, in order.
use Rattle.std.specs.Prelude.{ℕ, List, [], ◌∷◌, codes}
use Rattle.std.specs.List.{flat_map}
use Rattle.std.specs.Fmt.{decimal}
use Rattle.rasta_pcap.specs.declared.fault.Side.{Side}
use Rattle.rasta_end.specs.declared.why.Why.{Why}
use Rattle.rasta_cert.specs.Certificate.{Scripts, why_line}
use Rattle.rasta_check.specs.Capture.Crossing.{Crossing}
use Rattle.rasta_check.specs.Run.Lines.{What, took, made, copied, brought, waited, Line}
use Rattle.rasta_check.specs.Run.Levels.{run_lines}
use Rattle.rasta_line.specs.Texts.{words_before, line_of, side_text}

-- `LEVEL SIDE take NUMBER`
unfoldable pub take_text : ℕ → Side → ℕ → List ℕ
take_text level side number = line_of (decimal level ∷ side_text side ∷ codes "take" ∷ decimal number ∷ [])

-- `PLACE SIDE make NUMBER CLOCK WHY`
unfoldable pub make_text : ℕ → Side → ℕ → ℕ × Why → List ℕ
make_text place side number m =
    words_before (decimal place ∷ side_text side ∷ codes "make" ∷ decimal number ∷ decimal m.0 ∷ []) (why_line m.1)

-- `PLACE SIDE copy NUMBER`
unfoldable pub copy_text : ℕ → Side → ℕ → List ℕ
copy_text place side number = line_of (decimal place ∷ side_text side ∷ codes "copy" ∷ decimal number ∷ [])

-- an arrival and the rise of a clock are left out
unfoldable pub what_text : ℕ → Side → What → List ℕ
what_text level side (took number) = take_text level side number
what_text level side (made number clock why) = make_text level side number (clock, why)
what_text level side (copied number) = copy_text level side number
what_text level side (brought number) = []
what_text level side (waited clock) = []

unfoldable pub line_text : Line → List ℕ
line_text line = what_text line.level line.side line.what

-- what two scripts tell of what crossed
unfoldable pub run_text : Crossing → Scripts → List ℕ
run_text k scripts = flat_map line_text (run_lines k.packets k.client k.server scripts.client scripts.server)
