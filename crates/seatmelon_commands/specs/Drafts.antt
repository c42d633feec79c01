-- Which connection is drafted.
use Rattle.std.specs.Prelude.{◌≡◌, ◌⊎◌, ℕ, ◌-◌, ◌<◌, ◌≤◌, ◌==◌, ◌&&◌, ◌||◌, Bool, true, false, List, Some, length}
use Rattle.std.specs.Prelude.{slice_get}
use Rattle.std.specs.Option.{option_copied}
use Rattle.rasta_pdu.specs.Params.{Parameters}
use Rattle.seatmelon_connections.specs.declared.connection.Connection.{Connection}
use Rattle.seatmelon_connections.specs.Noted.{first_id_in, lacks_quiet_point_in, second_id_in}
use Rattle.seatmelon_survey.specs.Findings.{Findings}
use Rattle.seatmelon_commands.specs.declared.answer.Answer.{Answer}
use Rattle.seatmelon_commands.specs.declared.answer.Answer.TheVariants.{Survey, SurveyJson, Draft}
use Rattle.seatmelon_commands.specs.declared.answer.Draft as drafts

-- the draft is that of the connection of this number, from 1, and names the fault of the capture by the format of its
-- file; the survey stands where there is none at all, in words
abbrev pub IsAnswer : Findings → ℕ → Answer → Type 0
IsAnswer survey number (Survey s) = (s.now ≡ survey) × (length survey.connections ≡ 0)
IsAnswer survey number (SurveyJson s) = ⊥
IsAnswer survey number (Draft d) =
    (1 ≤ number) × (slice_get survey.connections (number - 1) ≡ Some d.connection.now) × (d.fault ≡ survey.fault)
    × (d.format ≡ survey.format)

-- parameters have the ids of a connection's ends
abbrev pub has_ids_of : Parameters → Connection → Bool
has_ids_of p c = ((p.client_id == first_id_in c) && (p.server_id == second_id_in c))
    || ((p.client_id == second_id_in c) && (p.server_id == first_id_in c))

-- a draft is the same, but for the parameters that it keeps, which are of its connection
pub record KeepsParams (old : drafts.Draft) (p : Parameters) (new : drafts.Draft) : Type 0 where
  pub connection : new.connection ≡ old.connection
  pub fault : new.fault ≡ old.fault
  pub format : new.format ≡ old.format
  pub kept : option_copied new.kept ≡ Some p
  pub ids : has_ids_of p new.connection.now ≡ true

-- a draft has no quiet point, though one is wanted behind a record
abbrev pub lacks_quiet_point : Answer → Bool
lacks_quiet_point (Survey s) = false
lacks_quiet_point (SurveyJson s) = false
lacks_quiet_point (Draft d) = lacks_quiet_point_in d.connection.now

-- no connection has this number
abbrev pub IsOutside : List Connection → ℕ → Type 0
IsOutside connections number = (number ≡ 0) ⊎ (length connections < number)
