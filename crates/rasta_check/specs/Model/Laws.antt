-- Laws on every run: what the headline stands on. Each holds at every world in which no end has sent more than
-- 2^31 - 1 PDUs.
use Rattle.std.specs.Prelude.{◌≡◌, ℕ, zero, suc, ◌<◌, List, [], ◌∷◌, ◌++◌, length, Some, slice_get, filter, true, false}
use Rattle.rasta_pcap.specs.declared.fault.Side.{Side}
use Rattle.rasta_pdu.specs.Params.{Parameters}
use Rattle.rasta_pdu.specs.Pdu.{SafetyPdu, is_kind}
use Rattle.rasta_end.specs.declared.why.Why.{Why}
use Rattle.rasta_end.specs.State.{Made, EndState, kinds}
use Rattle.rasta_end.specs.Units.{all_units_conveyed, units_conveyed, last_of, responses_in}
use Rattle.rasta_end.specs.MakeRule.{Makes, has_ended}
use Rattle.rasta_check.specs.Model.World.{World, other_side, end_of, Reaches, KeepsRange}
use Rattle.rasta_check.specs.Model.Taken.{pdus_made, asked_positions, position_with}
use Rattle.rasta_pdu.specs.declared.kind.Kind.TheVariants.{RetransmissionRequest, RetransmissionResponse}

-- what holds of each end and its peer, at every world of a run
abbrev pub Always : (EndState → EndState → Type 0) → Parameters → Type 0
Always Holds p = (ws : List World) (w : World) (side : Side) → Reaches p ws w → KeepsRange p w
    → Holds (end_of w side) (end_of w (other_side side))

-- ---- an SN names one position

-- no two positions of an end have the same SN
abbrev pub NamesOne : EndState → EndState → Type 0
NamesOne e peer = (i j : ℕ) (m n : Made) → slice_get e.made i ≡ Some m → slice_get e.made j ≡ Some n
    → m.pdu.sn ≡ n.pdu.sn → i ≡ j

-- so it is in every run
abbrev pub SnOnce : Type 0
SnOnce = (p : Parameters) → Always NamesOne p

-- ---- asks are answered in order

-- the retransmission requests among these PDUs
abbrev pub requests_of : List Made → List Made
requests_of made = filter (λ (m : Made). is_kind RetransmissionRequest m.pdu.kind) made

-- each request of the peer confirms a position; the asks of an end are a beginning of the list of these, and its i-th
-- retransmission response answers its peer's i-th request: the position that this confirms is the i-th ask, and lies
-- before the response
pub record AnswersInOrder (e peer : EndState) : Type 0 where
  pub beginning : (rest : List ℕ) × (asked_positions (pdus_made e.made) (pdus_made peer.made) ≡ e.asks ++ rest)
  pub named : (position : ℕ) (request : Made) → slice_get peer.made position ≡ Some request
      → is_kind RetransmissionRequest request.pdu.kind ≡ true
      → (c : ℕ) × (position_with (pdus_made e.made) request.pdu.cs ≡ Some c)
  pub answers : (before after : List Made) (m : Made) → e.made ≡ before ++ m ∷ after
      → is_kind RetransmissionResponse m.pdu.kind ≡ true
      → (ask : ℕ) × (request : Made)
      × (slice_get e.asks (responses_in (kinds before)) ≡ Some ask) × (ask < length before)
      × (slice_get (requests_of peer.made) (responses_in (kinds before)) ≡ Some request)
      × (position_with (pdus_made e.made) request.pdu.cs ≡ Some ask)

-- so it is in every run
abbrev pub Asks : Type 0
Asks = (p : Parameters) → Always AnswersInOrder p

-- ---- units are counted

-- an end that hasn't ended and owes nothing: the units conveyed through its last position are those that it offered
abbrev pub ConveysAll : EndState → EndState → Type 0
ConveysAll e peer = has_ended e ≡ false → e.owed ≡ [] → last_of (all_units_conveyed e.asks (kinds e.made)) ≡ e.offered

-- so it is in every run
abbrev pub Units : Type 0
Units = (p : Parameters) → Always ConveysAll p

-- ---- what is confirmed was accepted

-- a PDU that an end makes which has accepted something confirms the position that it accepted last, and no other
abbrev pub ConfirmsAccepted : Parameters → EndState → EndState → Type 0
ConfirmsAccepted p e peer = (x : SafetyPdu) (clock : ℕ) (why : Why) (after : EndState) (i : ℕ)
    → Makes p e x clock why after → e.accepted ≡ suc i
    → ((m : Made) × (slice_get peer.made i ≡ Some m) × (m.pdu.sn ≡ x.cs))
    × ((j : ℕ) (n : Made) → slice_get peer.made j ≡ Some n → n.pdu.sn ≡ x.cs → j ≡ i)

-- so it is in every run
abbrev pub Confirmed : Type 0
Confirmed = (p : Parameters) → Always (ConfirmsAccepted p) p

-- ---- handed up once each and in order

-- the units conveyed through the position before this one
abbrev pub conveyed_before : EndState → ℕ → ℕ
conveyed_before peer zero = 0
conveyed_before peer (suc position) = units_conveyed peer.asks (kinds peer.made) position

-- what an end handed up: the units 0, 1, .. of its peer, each once and in order, as many as were conveyed through the
-- position that it accepted last
pub record HandsUp (e peer : EndState) : Type 0 where
  pub count : length e.handed ≡ conveyed_before peer e.accepted
  pub same_count : length e.handed_pdus ≡ length e.handed
  pub units : (i position : ℕ) → slice_get e.handed i ≡ Some position
      → (m : Made) × (slice_get peer.made position ≡ Some m) × (m.unit ≡ Some i)
      × (slice_get e.handed_pdus i ≡ Some m.pdu)

-- so it is in every run
abbrev pub Handed : Type 0
Handed = (p : Parameters) → Always HandsUp p
