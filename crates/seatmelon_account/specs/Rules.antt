-- The rule that refuses a PDU, as it is told of what the walk beside the verdict met.
use Rattle.std.specs.Prelude.{◌≡◌, ◌≤◌, ◌^◌, ℕ, ◌+◌, Option, None, Some, option_map, ⊤}
use Rattle.std.specs.Option.{option_and_then}
use Rattle.rasta_pcap.specs.Fault.{other_side}
use Rattle.rasta_pcap.specs.declared.fault.Side.{Side}
use Rattle.rasta_pdu.specs.Params.{Parameters, quiet_of}
use Rattle.rasta_pdu.specs.Pdu.{value_of}
use Rattle.rasta_pdu.specs.declared.quiet_point.Quiet.{Quiet}
use Rattle.rasta_check.specs.Capture.Crossing.{Crossing, sent_by}
use Rattle.rasta_build.specs.Stopping.{IsMet}
use Rattle.rasta_build.specs.declared.obstacles.Obstacle.{Obstacle}
use Rattle.rasta_build.specs.declared.rules.Confirmation.{Confirmation}
use Rattle.rasta_build.specs.declared.rules.Rule.{Rule}
use Rattle.rasta_build.specs.declared.rules.Rule.TheVariants as rules
use Rattle.seatmelon_account.specs.Crossed.{pdu_at}
use Rattle.seatmelon_account.specs.declared.rules.BrokenRule.{BrokenRule}
use Rattle.seatmelon_account.specs.declared.rules.Deadline.{Deadline}

-- the deadline of an end: T_max after what was confirmed, or that of the quiet point
abbrev pub deadline_by : Parameters → Side → Option Confirmation → Option ℕ
deadline_by p side (Some confirmed) = option_map (λ (time : ℕ). time + p.t_max) confirmed.time
deadline_by p side None = option_and_then (λ (q : Quiet). (quiet_of q side).deadline) p.quiet

-- a deadline that is known is told, if it has 64 bits, as each clock has
abbrev pub TellsDeadline : Option ℕ → Option ℕ → Type 0
TellsDeadline known None = (time : ℕ) → known ≡ Some time → 2 ^ 64 ≤ time
TellsDeadline known (Some time) = known ≡ Some time

-- a deadline as it is told of an end that makes a PDU at this clock
pub record IsMissed (p : Parameters) (side : Side) (clock : ℕ) (confirmed : Option Confirmation)
    (told : Deadline) : Type 0 where
  pub made_at : told.clock ≡ clock
  pub confirmed_time : told.confirmed_time ≡ option_and_then (λ (c : Confirmation). c.time) confirmed
  pub t_max : told.t_max ≡ p.t_max
  pub slack : told.slack ≡ p.slack
  pub deadline : TellsDeadline (deadline_by p side confirmed) told.deadline

-- one is told exactly where the rule that was met speaks of it
abbrev pub IsDeadlineOf : Parameters → Side → Rule → Option Deadline → Type 0
IsDeadlineOf p side (rules.Deadline fault clock confirmed) None = ⊥
IsDeadlineOf p side (rules.Deadline fault clock confirmed) (Some told) = IsMissed p side clock confirmed told
IsDeadlineOf p side rule None = ⊤
IsDeadlineOf p side rule (Some told) = ⊥

-- the rule that was met, the PDU that it refuses, and to which end that was sent
pub record IsBroken (k : Crossing) (met : Obstacle) (told : BrokenRule) : Type 0 where
  pub rule : told.rule ≡ met.rule
  pub refused : pdu_at (sent_by k met.side) met.place ≡ Some (value_of told.pdu)
  pub peer : told.peer ≡ other_side met.side
  pub deadline : IsDeadlineOf k.params met.side met.rule told.deadline

-- what a walk over what crossed meets is told, and nothing only where it meets nothing
abbrev pub TellsRule : Crossing → Option BrokenRule → Type 0
TellsRule k None = IsMet k.params k.client k.server None
TellsRule k (Some told) = (met : Obstacle) × IsMet k.params k.client k.server (Some met) × IsBroken k met told
