-- Where what is judged begins.
use Rattle.std.specs.Prelude.{ℕ, nat_lt, Option, None, Some, if◌then◌else◌}
use Rattle.rasta_pdu.specs.Params.{Parameters}
use Rattle.rasta_pdu.specs.declared.quiet_point.Quiet.{Quiet}
use Rattle.seatmelon_account.specs.declared.explained.Start.{Start}
use Rattle.seatmelon_account.specs.declared.explained.Start.TheVariants as starts

abbrev pub start_by : ℕ → Option Quiet → ℕ → Start
start_by first_record (Some quiet) before = starts.Quiet first_record quiet
start_by first_record None before = if nat_lt 0 before then starts.LaterOpening else starts.Opening

-- at the quiet point that is recorded, before the first record of the window; else before the opening, where so many
-- packets of the recorded channels stand before the window
abbrev pub start_in : Parameters → ℕ → Start
start_in p before = start_by p.first_record p.quiet before
