-- What some packets of a connection show, wherever in it they begin and whatever is missing between them: data of one
-- end that its peer surely took.
use Rattle.std.specs.Prelude.{◌≡◌, ℕ, suc, ◌+◌, ◌<◌, ◌≤◌, ◌^◌, true, false, List, Some, slice_get}
use Rattle.rasta_pcap.specs.declared.fault.Side.{Side}
use Rattle.rasta_udp.specs.Frame.{Packet}
use Rattle.rasta_pdu.specs.Params.{Parameters}
use Rattle.rasta_pdu.specs.Pdu.{messages_in, is_kind}
use Rattle.rasta_pdu.specs.declared.kind.Kind.TheVariants.{ConnectionRequest, Data, RetransmittedData}
use Rattle.rasta_end.specs.State.{Made, wrapped, ahead_by}
use Rattle.rasta_check.specs.Capture.SentLists.{FirstCopy, IsCarried}
use Rattle.rasta_check.specs.Model.World.{World, other_side, end_of, Reaches, KeepsRange}
use Rattle.rasta_check.specs.Model.Settled.{is_settled, ends_burst}
use Rattle.rasta_check.specs.Model.Theorem.{Appends, HandsUpUnits, HasHandedUp}

-- each of these packets is one of those that crossed: the i-th has the i-th place
abbrev pub CrossAt : List ℕ → List Packet → List Packet → Type 0
CrossAt places packets crossed = (i : ℕ) (packet : Packet) → slice_get packets i ≡ Some packet
    → (place : ℕ) × (slice_get places i ≡ Some place) × (slice_get crossed place ≡ Some packet)

-- ---- by the SNs of the PDUs that were captured of one side

-- the types of these PDUs settle that of the units offered up to this SN, so many aren't conveyed through it: none, or
-- one more than at the next SN where that is one of retransmitted data
pub data Settles (p : Parameters) (packets : List Packet) (side : Side) : ℕ → ℕ → Type 0 where
  plain : {sn : ℕ} (copy : FirstCopy) → IsCarried p packets side copy → copy.pdu.safety.sn ≡ sn
      → is_settled copy.pdu.safety.kind ≡ true → Settles p packets side sn 0
  ended : {sn : ℕ} (copy : FirstCopy) → IsCarried p packets side copy → copy.pdu.safety.sn ≡ wrapped (suc sn)
      → ends_burst copy.pdu.safety.kind ≡ true → Settles p packets side sn 0
  again : {sn lag : ℕ} (copy : FirstCopy) → IsCarried p packets side copy → copy.pdu.safety.sn ≡ wrapped (suc sn)
      → is_kind RetransmittedData copy.pdu.safety.kind ≡ true → Settles p packets side (wrapped (suc sn)) lag
      → Settles p packets side sn (suc lag)

-- the one SN is the other, or lies before it
abbrev pub IsUpTo : ℕ → ℕ → Type 0
IsUpTo sn last = ahead_by last sn < 2 ^ 31

-- at least so many data PDUs were captured whose SNs lie behind the one SN, and up to the other
pub data DataBehind (p : Parameters) (packets : List Packet) (side : Side) : ℕ → ℕ → ℕ → Type 0 where
  none_behind : {sn last : ℕ} → IsUpTo sn last → DataBehind p packets side sn last 0
  one_behind : {sn last count : ℕ} (copy : FirstCopy) → IsCarried p packets side copy
      → is_kind Data copy.pdu.safety.kind ≡ true
      → 0 < ahead_by copy.pdu.safety.sn sn → IsUpTo sn copy.pdu.safety.sn
      → DataBehind p packets side copy.pdu.safety.sn last count → DataBehind p packets side sn last (suc count)

-- ---- what they show

-- how many units lag behind at data: none at data themselves, and where they are sent again as many as is settled there
pub data OwnLag (p : Parameters) (packets : List Packet) (side : Side) (copy : FirstCopy) : ℕ → Type 0 where
  fresh : is_kind Data copy.pdu.safety.kind ≡ true → OwnLag p packets side copy 0
  resent : {lag : ℕ} → is_kind RetransmittedData copy.pdu.safety.kind ≡ true
      → Settles p packets side copy.pdu.safety.sn lag → OwnLag p packets side copy lag

-- data or retransmitted data of a side, and a PDU of its peer that shows their unit: at the SN that it confirms no more
-- units lag behind than were offered after that unit. These are, at least, those that lag behind at the SN of the data,
-- and those of the data behind it
pub record Shows (p : Parameters) (packets : List Packet) (side : Side) (data_copy proof : FirstCopy) : Type 0 where
  pub carried : IsCarried p packets side data_copy
  pub own_lag : ℕ
  pub own : OwnLag p packets side data_copy own_lag
  pub shown_by : IsCarried p packets (other_side side) proof
  pub confirms : is_kind ConnectionRequest proof.pdu.safety.kind ≡ false
  pub lag : ℕ
  pub settled : Settles p packets side proof.pdu.safety.cs lag
  pub later : ℕ
  pub behind : DataBehind p packets side data_copy.pdu.safety.sn proof.pdu.safety.cs later
  pub enough : lag ≤ own_lag + later

-- this PDU is one that the end made, with the unit of this number
pub record IsUnit (made : List Made) (unit : ℕ) (copy : FirstCopy) : Type 0 where
  pub position : ℕ
  pub m : Made
  pub there : slice_get made position ≡ Some m
  pub same : m.pdu ≡ copy.pdu.safety
  pub carries : m.unit ≡ Some unit

-- the messages of these data are those of this unit, which the other side of the run had handed up in the world to which
-- the packet of the PDU that shows it is appended
abbrev pub HasHandedUpBefore : List World → World → Side → List ℕ → ℕ → FirstCopy → FirstCopy → Type 0
HasHandedUpBefore ws w side places unit data_copy proof = (place : ℕ) (v next : World)
    → slice_get places proof.place ≡ Some place → Appends ws w place v next
    → HasHandedUp (end_of v (other_side side)) unit (messages_in data_copy.pdu.safety.body)

-- in this run the other side handed up units in order; and data that these packets show are a unit of their end, which
-- was handed up before the packet of the PDU that shows it crossed
pub record HandsUpShown (p : Parameters) (ws : List World) (w : World) (side : Side)
    (packets : List Packet) (places : List ℕ) : Type 0 where
  pub in_order : HandsUpUnits (end_of w (other_side side)) (end_of w side)
  pub in_time : (data_copy proof : FirstCopy) → Shows p packets side data_copy proof
      → (unit : ℕ) × IsUnit (end_of w side).made unit data_copy
      × HasHandedUpBefore ws w side places unit data_copy proof

-- so it is in every run in which these packets cross, whatever else does
abbrev pub FromTheMiddle : Parameters → Type 0
FromTheMiddle p =
    (ws : List World) (w : World) (side : Side) (packets : List Packet) (places : List ℕ)
    → Reaches p ws w → KeepsRange p w → CrossAt places packets w.crossed
    → HandsUpShown p ws w side packets places
