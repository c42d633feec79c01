-- What a move of the plain program stands for, and what it answers.
use Rattle.std.specs.Prelude.{◌≡◌, ℕ, ◌*◌, ◌≤◌, ◌<◌, ◌^◌, Bool, true, false, List, Contains}
use Rattle.rasta_udp.specs.Frame.{Packet}
use Rattle.rasta_pdu.specs.Params.{Parameters}
use Rattle.trials_plain.specs.declared.world.Move.{Move}
use Rattle.trials_plain.specs.declared.world.Move.TheVariants.{Make, Repeat, Arrive, Take, Wait}
use Rattle.trials_plain.specs.declared.world.PlainStation.TheInside.{Inside}
use Rattle.rasta_check.specs.Model.World.{Station, World, Move as Label, Moves, makes, repeats, arrives, takes, waits}

-- what happened to the station is this move
abbrev pub IsMove : (p : Parameters) (peer : Station) (crossed : List Packet) (a b : Station)
    (after : List Packet) {label : Label} → Moves p peer crossed a label b after → Move → Type 0
IsMove p peer crossed a b after (makes x why e channel reserve check bytes mk sp rec) (Make on payload reason) =
    (on ≡ channel) × (payload.now ≡ bytes) × (reason ≡ why)
IsMove p peer crossed a b after (repeats place channel old there side rec) (Repeat at on) = (at ≡ place)
    × (on ≡ channel)
IsMove p peer crossed a b after (arrives position low within) (Arrive at) = at ≡ position
IsMove p peer crossed a b after (takes position m e there above get tk) (Take at) = at ≡ position
IsMove p peer crossed a b after (waits clock rises) (Wait until) = until ≡ clock
IsMove p peer crossed a b after _ _ = ⊥

-- true: the move was made, and led from here to there; false: it isn't allowed, wherever it might lead, and nothing
-- happened
abbrev pub Answers : Parameters → Station → List Packet → Station → Move → Bool → Station → List Packet → Type 0
Answers p peer crossed a move true b after = (label : Label) × (m : Moves p peer crossed a label b after)
    × IsMove p peer crossed a b after m move
Answers p peer crossed a move false b after =
    (b ≡ a) × (after ≡ crossed)
    × ((c : Station) (later : List Packet) (label : Label) (m : Moves p peer crossed a label c later)
    → IsMove p peer crossed a c later m move → ⊥)

-- a take names a position below 2^31
abbrev pub IsBelow : Move → Type 0
IsBelow (Take position) = position < 2 ^ 31
IsBelow _ = Unit {0}

-- ---- what contracts see

-- a station with the parameters by which it is judged
pub record JudgedStation : Type 0 where
  pub params : Parameters
  pub station : Station

-- a world with the parameters by which it is judged
pub record JudgedWorld : Type 0 where
  pub params : Parameters
  pub world : World

abbrev pub judged_station : Inside → JudgedStation
judged_station s = record {
  params = s.params;
  station = record {
    state = s.end.state;
    clock = s.clock;
    arrived = s.arrived.items;
    mark = s.mark;
    first_number = s.first_number;
  };
}

-- the end is judged by the same parameters, and its last make doesn't lie ahead; what arrived was made since the start;
-- and each take raises the position that was accepted last by at most 2^32
pub record IsPlainStation (s : Inside) : Type 0 where
  pub params : s.end.params ≡ s.params
  pub side : s.side ≡ s.end.state.side
  pub base : s.base ≡ s.end.state.base
  pub small : s.base ≤ 1
  pub clock : s.end.state.clock ≤ s.clock
  pub arrived : (position : ℕ) → Contains s.arrived.items position → s.base ≤ position
  pub accepted : s.end.state.accepted ≤ s.mark * 2 ^ 32
