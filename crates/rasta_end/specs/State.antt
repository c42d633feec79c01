-- The state of one end of a connection. All rules of an end are this project's profile, modelled on the standard.
use Rattle.std.specs.Prelude.{ℕ, ◌+◌, ◌-◌, ◌%◌, ◌^◌, Bool, true, false, ◌||◌, List, [], ◌∷◌, map, Option}
use Rattle.rasta_pcap.specs.declared.fault.Side.{Side}
use Rattle.rasta_pcap.specs.declared.fault.Side.TheVariants.{Client, Server}
use Rattle.rasta_pdu.specs.declared.kind.Kind.{Kind}
use Rattle.rasta_pdu.specs.Pdu.{SafetyPdu, SafetyBody, Bye, Messages}
use Rattle.rasta_end.specs.declared.owed.Owed.{Owed}
use Rattle.rasta_end.specs.declared.phase.Phase.{Phase}
use Rattle.rasta_end.specs.declared.phase.Phase.TheVariants.{Closed, Down, Start, Up, RetrReq, RetrRun}

-- a PDU that an end made, with the number of its unit where it carries one
pub record Made : Type 0 where
  pub pdu : SafetyPdu
  pub unit : Option ℕ

-- own positions are places in `made`; at a quiet point the quiet PDU is made first
pub record EndState : Type 0 where
  pub side : Side
  pub phase : Phase
  pub base : ℕ  -- the position of the first PDU made since the start: 0, or 1 at a quiet point
  pub made : List Made
  pub accepted : ℕ  -- one more than the peer's position that was accepted last, 0 where there is none
  pub last_sn : ℕ  -- of the PDU that was accepted last
  pub last_ts : ℕ
  pub timed_ts : Option ℕ  -- of the time-relevant PDU that was accepted last
  pub handed_ts : Option ℕ  -- of the PDU that was handed up last
  pub confirmed : ℕ  -- own position, 0 before the first make
  pub offered : ℕ  -- units
  pub handed : List ℕ  -- the peer's positions whose units were handed up, in order
  pub handed_pdus : List SafetyPdu
  pub asks : List ℕ  -- own positions that the requests it answered confirm, in order
  pub owed : List Owed  -- the first is to be made next
  pub clock : ℕ  -- of the last make, in milliseconds
  pub deadline : Option ℕ  -- raised, since it may lie below 0

-- a moment as a deadline is kept: moved by 2^32
abbrev pub raised : ℕ → ℕ
raised n = n + 2 ^ 32

-- a number as 32 bits carry it
abbrev pub wrapped : ℕ → ℕ
wrapped n = n % 2 ^ 32

-- how far a lies ahead of b, modulo 2^32
abbrev pub ahead_by : ℕ → ℕ → ℕ
ahead_by a b = (a % 2 ^ 32 + (2 ^ 32 - b % 2 ^ 32)) % 2 ^ 32

-- the SN of the first that was made
abbrev pub first_sn : List Made → ℕ
first_sn [] = 0
first_sn (m ∷ ms) = m.pdu.sn

-- the SN of an own position
abbrev pub sn_at : List Made → ℕ → ℕ
sn_at made position = wrapped (first_sn made + position)

abbrev pub kinds : List Made → List Kind
kinds ms = map (λ (m : Made). m.pdu.kind) ms

abbrev pub is_owing : List Owed → Bool
is_owing [] = false
is_owing (o ∷ os) = true

abbrev pub is_client : Side → Bool
is_client Client = true
is_client Server = false

abbrev pub is_closed : Phase → Bool
is_closed Closed = true
is_closed _ = false

abbrev pub is_down : Phase → Bool
is_down Down = true
is_down _ = false

abbrev pub is_start : Phase → Bool
is_start Start = true
is_start _ = false

abbrev pub is_up : Phase → Bool
is_up Up = true
is_up _ = false

abbrev pub is_retr_req : Phase → Bool
is_retr_req RetrReq = true
is_retr_req _ = false

abbrev pub is_retr_run : Phase → Bool
is_retr_run RetrRun = true
is_retr_run _ = false

-- Up or RetrRun
abbrev pub is_flowing : Phase → Bool
is_flowing phase = is_up phase || is_retr_run phase

-- Up, RetrReq or RetrRun
abbrev pub is_connected : Phase → Bool
is_connected phase = is_up phase || (is_retr_req phase || is_retr_run phase)

-- Start, Up, RetrReq or RetrRun
abbrev pub is_active : Phase → Bool
is_active phase = is_start phase || is_connected phase

-- the reason of a disconnection request, else 0
abbrev pub reason_of : SafetyBody → ℕ
reason_of (Bye detail reason) = reason
reason_of _ = 0

-- the bytes that spell the messages of a unit
abbrev pub content_of : SafetyBody → List ℕ
content_of (Messages payload) = payload
content_of _ = []
