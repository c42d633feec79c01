-- Scripts and what is read of them, as the code holds them.
use Rattle.std.specs.Prelude.{ℕ, List, Option, option_map, option_to_list}
use Rattle.rasta_end.specs.declared.why.Why.{Why}
use Rattle.rasta_cert.specs.Certificate.{Scripts}
use Rattle.rasta_verdict.specs.declared.run_lines.Made.{Made}
use Rattle.rasta_verdict.specs.declared.run_text.Rests.{Rests}

-- the clock and the reason of a make
abbrev pub clock_and_why : Made → ℕ × Why
clock_and_why made = (made.clock, made.why)

-- a make, if there is one
abbrev pub makes_of : Option Made → List (ℕ × Why)
makes_of made = option_to_list (option_map clock_and_why made)

-- what is left of both scripts
abbrev pub scripts_of : Rests → Scripts
scripts_of rests = record { client = rests.client.now; server = rests.server.now }
