-- What some definitions mean, as laws.
use Rattle.std.specs.Prelude.{◌≡◌, ℕ, suc, ◌+◌, ◌%◌, ◌^◌, ◌<◌, ◌≤◌, nat_lt, if◌then◌else◌, List, [], ◌∷◌, ◌++◌, length}
use Rattle.std.specs.Prelude.{Option, Some, None, slice_get}
use Rattle.rasta_pdu.specs.declared.kind.Kind.{Kind}
use Rattle.rasta_pdu.specs.declared.kind.Kind.TheVariants.{RetransmissionResponse, Data, RetransmittedData}
use Rattle.rasta_pdu.specs.Params.{Parameters}
use Rattle.rasta_end.specs.Units.{units_conveyed, responses_in}
use Rattle.rasta_end.specs.State.{raised}
use Rattle.rasta_end.specs.TakeRule.{deadline_from}

-- the units conveyed through the position that an ask names, where that stands before this one, else 0
abbrev pub units_of_ask : List ℕ → List Kind → ℕ → Option ℕ → ℕ
units_of_ask asks kinds position None = 0
units_of_ask asks kinds position (Some ask) = if nat_lt ask position then units_conveyed asks kinds ask else 0

-- the units conveyed through a position, by its type and the types before it: through the first, none; a
-- retransmission response answers the ask of its number; data and retransmitted data convey one unit more than the
-- position before; all others as many
abbrev pub units_by_type : List ℕ → List Kind → List Kind → Kind → ℕ
units_by_type asks kinds [] kind = 0
units_by_type asks kinds (b ∷ bs) RetransmissionResponse =
    units_of_ask asks kinds (length (b ∷ bs)) (slice_get asks (responses_in (b ∷ bs)))
units_by_type asks kinds (b ∷ bs) Data = suc (units_conveyed asks kinds (length bs))
units_by_type asks kinds (b ∷ bs) RetransmittedData = suc (units_conveyed asks kinds (length bs))
units_by_type asks kinds (b ∷ bs) _ = units_conveyed asks kinds (length bs)

abbrev pub UnitsByPosition : Type 0
UnitsByPosition = (asks : List ℕ) (before after : List Kind) (kind : Kind)
    → units_conveyed asks (before ++ kind ∷ after) (length before)
    ≡ units_by_type asks (before ++ kind ∷ after) before kind

-- 2^32 taken off, time is the greatest number that is not above the clock and congruent to the confirmed time modulo
-- 2^32, and the deadline lies T_max after it
abbrev pub DeadlineFollowsTheConfirmedTime : Type 0
DeadlineFollowsTheConfirmedTime = (p : Parameters) (clock cts : ℕ)
    → (time : ℕ) × (deadline_from p clock cts ≡ time + p.t_max) × (time ≤ raised clock) × (clock < time)
    × (time % 2 ^ 32 ≡ cts % 2 ^ 32)
