-- How many units lag behind at a position: what the types of the PDUs there and after it tell of every run, whatever
-- was asked before.
use Rattle.std.specs.Prelude.{◌≡◌, ℕ, suc, ◌+◌, Bool, true, false, List, length, Some, slice_get, take}
use Rattle.rasta_pdu.specs.Params.{Parameters}
use Rattle.rasta_pdu.specs.Pdu.{is_kind}
use Rattle.rasta_pdu.specs.declared.kind.Kind.{Kind}
use Rattle.rasta_pdu.specs.declared.kind.Kind.TheVariants.{ConnectionRequest, ConnectionResponse, RetransmissionRequest}
use Rattle.rasta_pdu.specs.declared.kind.Kind.TheVariants.{DisconnectionRequest, Heartbeat, Data, RetransmittedData}
use Rattle.rasta_end.specs.State.{Made, EndState, kinds}
use Rattle.rasta_end.specs.Units.{all_units_conveyed}
use Rattle.rasta_end.specs.MakeRule.{contents}
use Rattle.rasta_check.specs.Model.Laws.{Always}

-- through a PDU of this type all units offered so far are conveyed: one of the opening, a retransmission request, a
-- heartbeat, or data
abbrev pub is_settled : Kind → Bool
is_settled ConnectionRequest = true
is_settled ConnectionResponse = true
is_settled RetransmissionRequest = true
is_settled Heartbeat = true
is_settled Data = true
is_settled _ = false

-- a PDU of this type is made only when all units offered before it are conveyed. Retransmitted data belong to a burst,
-- and a disconnection request may cut one short
abbrev pub ends_burst : Kind → Bool
ends_burst RetransmittedData = false
ends_burst DisconnectionRequest = false
ends_burst _ = true

-- how many data PDUs an end made up to this position: as many units as it had offered by then
abbrev pub data_through : List Made → ℕ → ℕ
data_through made position = length (contents (take (suc position) made))

-- the types of what was made settle that of the units offered up to this position, so many aren't conveyed through it:
-- none, or one more than at the next position where that has retransmitted data
pub data SettlesAt (made : List Made) : ℕ → ℕ → Type 0 where
  plain : {position : ℕ} (m : Made) → slice_get made position ≡ Some m → is_settled m.pdu.kind ≡ true
      → SettlesAt made position 0
  ended : {position : ℕ} (m : Made) → slice_get made (suc position) ≡ Some m → ends_burst m.pdu.kind ≡ true
      → SettlesAt made position 0
  again : {position lag : ℕ} (m : Made) → slice_get made (suc position) ≡ Some m
      → is_kind RetransmittedData m.pdu.kind ≡ true → SettlesAt made (suc position) lag
      → SettlesAt made position (suc lag)

-- so it is: the units conveyed through such a position, and those that lag behind, are those offered up to it
abbrev pub ConveysSettled : EndState → EndState → Type 0
ConveysSettled e peer = (position lag : ℕ) → SettlesAt e.made position lag
    → (units : ℕ) × (slice_get (all_units_conveyed e.asks (kinds e.made)) position ≡ Some units)
    × (units + lag ≡ data_through e.made position)

-- so it is in every run
abbrev pub SettledUnits : Type 0
SettledUnits = (p : Parameters) → Always ConveysSettled p
