-- What holds of an end and of what its peer has made, in every run.
use Rattle.std.proofs.Common.{◌≡◌, ℕ, suc, ◌+◌, ◌<◌, ◌≤◌, ◌⊎◌, Bool, true, false, List, [], ◌∷◌, length, Some, slice_get, take, arith}
use Rattle.rasta_check.proofs.Prelude.{not, ◌&&◌, ◌||◌, is_some, Side, Client, Server, Kind, ConnectionRequest, ConnectionResponse, DisconnectionRequest, Phase, Closed, Start, Up}
use Rattle.rasta_check.proofs.Prelude.{RetrReq, RetrRun, Owed, OweConnectionResponse, Made, EndState, is_closed}
use Rattle.rasta_end.specs.declared.phase.Phase.TheVariants.{Down}
use Rattle.rasta_end.specs.State.{is_client}
use Rattle.rasta_check.proofs.Model.NamedPositions.{Numbered, SnIs}
use Rattle.rasta_check.proofs.Model.Counts.{owes, is_answer_owed, is_request_owed, requests_in, answers_in, IsRequest}

-- the connection response is owed
abbrev pub is_response_owed : Owed → Bool
is_response_owed OweConnectionResponse = true
is_response_owed _ = false

abbrev pub is_opener : Kind → Bool
is_opener ConnectionRequest = true
is_opener ConnectionResponse = true
is_opener _ = false

-- its CS is judged, whoever made it
abbrev pub is_named : Kind → Bool
is_named ConnectionRequest = false
is_named DisconnectionRequest = false
is_named _ = true

-- an end in this phase has accepted something
abbrev pub has_peer : Side → Phase → Bool
has_peer s Up = true
has_peer s RetrRun = true
has_peer s RetrReq = true
has_peer Server Start = true
has_peer s _ = false

-- a request of this end may be unanswered
abbrev pub open_bit : Phase → ℕ
open_bit RetrReq = 1
open_bit Closed = 1
open_bit _ = 0

pub bit_most : (ph : Phase) → open_bit ph ≤ 1
bit_most ph = grind arith

-- the connection of such an end is over
abbrev pub ended : Side → Phase → List Made → Bool
ended s ph ms = is_closed ph && (not (is_client s) || is_some (slice_get ms 0))

-- What holds comes in slices, each over what it reads of the end; a step passes on those that it doesn't touch. ms: what
-- the end made, a: one more than the position of the peer that it accepted last, os: what it owes, qs: its asks, t: one
-- more than the last position of the peer that was taken, peer: what the peer made

-- SNs rise by one; openings come first, and only once
pub record Listing (ms : List Made) : Type 0 where
  pub numbered : Numbered ms
  pub openers : (p : ℕ) (m : Made) → slice_get ms p ≡ Some m → is_opener m.pdu.kind ≡ true → p ≡ 0

-- how the connection opens
pub record Opening (s : Side) (ph : Phase) (ms : List Made) (a : ℕ) (os : List Owed) : Type 0 where
  pub down : ph ≡ Down → (ms ≡ []) × (s ≡ Server) × (a ≡ 0)
  pub starting : s ≡ Client → ph ≡ Start → a ≡ 0
  pub unmade : s ≡ Client → ms ≡ [] → (a ≡ 0) × (os ≡ [])
  pub response_due : (owes is_response_owed os ≡ 0) ⊎ ((ms ≡ []) × (os ≡ OweConnectionResponse ∷ []))
  pub connected : has_peer s ph ≡ true → (i : ℕ) × (a ≡ suc i)

-- requests and responses
pub record Asking (s : Side) (ph : Phase) (ms : List Made) (qs : List ℕ) (os : List Owed) (t : ℕ) (peer : List Made) : Type 0 where
  -- a retransmission response answers a request that was taken, and one is owed for each that isn't answered yet
  pub asked : answers_in ms ≤ length qs
  pub owing : ended s ph ms ≡ false → answers_in ms + owes is_answer_owed os ≡ length qs
  -- the asks are what the requests of the peer confirm, in order
  pub answered : (p : ℕ) (m : Made) → slice_get peer p ≡ Some m → IsRequest m
      → (c : ℕ) → slice_get qs (requests_in (take p peer)) ≡ Some c → SnIs ms c m.pdu.cs
  pub asks_taken : length qs ≤ requests_in (take t peer)
  -- at most one request is unanswered
  pub open_requests : requests_in ms + owes is_request_owed os ≤ answers_in (take t peer) + open_bit ph

-- the last accepted PDU, whose SN is sn, is one of the peer's that was taken; a CS names a PDU that was accepted
pub record Accepting (ms : List Made) (a sn t : ℕ) (peer : List Made) : Type 0 where
  pub reached : a ≤ t
  pub within : t ≤ length peer
  pub last : (i : ℕ) → a ≡ suc i → SnIs peer i sn
  pub named : (p : ℕ) (m : Made) → slice_get ms p ≡ Some m → is_named m.pdu.kind ≡ true → (i : ℕ) × (i < a) × SnIs peer i m.pdu.cs

pub record Holds (s : Side) (ph : Phase) (ms : List Made) (a sn c : ℕ) (qs : List ℕ) (os : List Owed) (t : ℕ) (peer : List Made) : Type 0 where
  pub list : Listing ms
  pub opening : Opening s ph ms a os
  pub asks : Asking s ph ms qs os t peer
  pub accepts : Accepting ms a sn t peer
  pub confirmed : c ≤ length ms

abbrev pub Held : EndState → ℕ → List Made → Type 0
Held e t peer = Holds e.side e.phase e.made e.accepted e.last_sn e.confirmed e.asks e.owed t peer
