-- What is chosen for a script: which member of the peer's sent list a position is, what an end must have taken before a
-- make, why it makes a PDU and at which clock.
use Rattle.std.specs.Prelude.{◌≡◌, ◌⊎◌, ℕ, ◌+◌, ◌-◌, ◌^◌, Bool, true, false, ◌&&◌, not, nat_lt, nat_le, ◌==◌}
use Rattle.std.specs.Prelude.{if◌then◌else◌, min, List, [], ◌∷◌, length, Option, Some, None, option_map, slice_get}
use Rattle.rasta_pcap.specs.Fault.{fault_at, no_memory, not_found}
use Rattle.rasta_pcap.specs.declared.fault.Fault.{Fault}
use Rattle.rasta_pcap.specs.declared.fault.Side.{Side}
use Rattle.rasta_pcap.specs.declared.fault.Side.TheVariants.{Client, Server}
use Rattle.rasta_pdu.specs.Pdu.{SafetyPdu, is_kind, is_timed}
use Rattle.rasta_pdu.specs.declared.pdu.Pdu.{Pdu}
use Rattle.rasta_pdu.specs.declared.kind.Kind.{Kind}
use Rattle.rasta_pdu.specs.declared.kind.Kind.TheVariants.{ConnectionRequest, ConnectionResponse, RetransmissionRequest}
use Rattle.rasta_pdu.specs.declared.kind.Kind.TheVariants.{RetransmissionResponse, DisconnectionRequest, Heartbeat}
use Rattle.rasta_pdu.specs.declared.kind.Kind.TheVariants.{Data, RetransmittedData}
use Rattle.rasta_pdu.specs.declared.quiet_point.Quiet.{Quiet}
use Rattle.rasta_end.specs.State.{EndState, ahead_by, is_owing, is_client, is_start, reason_of}
use Rattle.rasta_end.specs.Starts.{sn_before}
use Rattle.rasta_end.specs.declared.why.Why.{Why}
use Rattle.rasta_end.specs.declared.why.Why.TheVariants.{Open, Reply, Beat, Fresh, Again, Ask, Bye, Expired}
use Rattle.rasta_check.specs.Capture.SentLists.{FirstCopy}
use Rattle.rasta_check.specs.Capture.Lists.{copy_of}
use Rattle.rasta_build.specs.declared.rules.Rule.{Rule}
use Rattle.rasta_build.specs.declared.stuck.Stuck.{Stuck}
use Rattle.rasta_build.specs.declared.stuck.Stuck.TheVariants.{Unexplained, NoMemory}

-- ---- the peer's positions

-- the SN of the quiet PDU of this side's peer, none where no quiet point is recorded
abbrev pub peer_quiet_sn : Option Quiet → Side → Option ℕ
peer_quiet_sn None side = None
peer_quiet_sn (Some quiet) Client = Some (sn_before quiet.server.next_sn)
peer_quiet_sn (Some quiet) Server = Some (sn_before quiet.client.next_sn)

-- the member of the peer's sent list at a position: after a quiet point, position 0 is the quiet PDU, and the list
-- begins at 1
abbrev pub member_at : Option ℕ → ℕ → Option ℕ
member_at None position = Some position
member_at (Some quiet_sn) position = if position == 0 then None else Some (position - 1)

abbrev pub copy_there : List FirstCopy → Option ℕ → Option FirstCopy
copy_there sent None = None
copy_there sent (Some member) = slice_get sent member

-- the first copy of the peer's PDU at a position, where it crossed
abbrev pub copy_at : Option ℕ → List FirstCopy → ℕ → Option FirstCopy
copy_at quiet_sn sent position = copy_there sent (member_at quiet_sn position)

-- the SN of the peer's position 0, none where nothing tells it
abbrev pub first_sn_of : Option ℕ → List FirstCopy → Option ℕ
first_sn_of (Some quiet_sn) sent = Some quiet_sn
first_sn_of None [] = None
first_sn_of None (copy ∷ copies) = Some copy.pdu.safety.sn

-- the peer's position that has this SN
abbrev pub position_named : Option ℕ → List FirstCopy → ℕ → Option ℕ
position_named quiet_sn sent sn = option_map (ahead_by sn) (first_sn_of quiet_sn sent)

-- the PDU crossed before this place
abbrev pub is_before : Option FirstCopy → ℕ → Bool
is_before None place = false
is_before (Some copy) place = nat_lt copy.place place

-- a retransmission response crossed
abbrev pub is_response : Option FirstCopy → Bool
is_response None = false
is_response (Some copy) = is_kind RetransmissionResponse copy.pdu.safety.kind

-- ---- what must have been taken

-- a PDU of the second type, ahead of what was accepted, can make an end owe one of the first type
abbrev pub is_trigger : Kind → Kind → Bool
is_trigger RetransmissionResponse taken = is_kind RetransmissionRequest taken
is_trigger RetransmissionRequest taken = is_timed taken
is_trigger _ taken = false

-- a PDU of this type is only made where it is owed, by what was taken last
abbrev pub wants_trigger : Kind → Bool
wants_trigger RetransmissionResponse = true
wants_trigger RetransmissionRequest = true
wants_trigger _ = false

-- a client that was never answered
abbrev pub is_unanswered : Side → EndState → Bool
is_unanswered side e = is_client side && (is_start e.phase && e.accepted == 0)

-- the next PDU of this side's end tells by its CS what was accepted before it: nothing is owed, it opens no connection,
-- and it isn't the disconnection request of a client that was never answered
abbrev pub has_to_take : Side → EndState → Kind → Bool
has_to_take side e kind =
    not (is_owing e.owed)
    && (not (is_kind ConnectionRequest kind) && not (is_kind DisconnectionRequest kind && is_unanswered side e))

-- ---- the reason

-- a number as 32 bits hold it, none where they don't
abbrev pub in_32_bits : ℕ → Option ℕ
in_32_bits n = if nat_lt n (2 ^ 32) then Some n else None

-- the unit that is sent again next: all that is owed but what follows the units are units, and they are those offered
-- last
abbrev pub next_unit : ℕ → ℕ → ℕ → Option ℕ
next_unit offered owed trail =
    if nat_le trail owed && nat_le (owed - trail) offered then in_32_bits (offered - (owed - trail)) else None

-- why a disconnection request of this reason is made
abbrev pub why_ended : ℕ → Why
why_ended reason = if reason == 4 then Expired else Bye

abbrev pub why_beating : Bool → Why
why_beating true = Reply
why_beating false = Beat

abbrev pub why_by : Kind → EndState → ℕ → SafetyPdu → Option Why
why_by ConnectionRequest e trail x = Some Open
why_by ConnectionResponse e trail x = Some Reply
why_by RetransmissionResponse e trail x = Some Reply
why_by RetransmissionRequest e trail x = Some Ask
why_by Data e trail x = Some Fresh
why_by RetransmittedData e trail x = option_map Again (next_unit e.offered (length e.owed) trail)
why_by Heartbeat e trail x = Some (why_beating (is_owing e.owed))
why_by DisconnectionRequest e trail x = Some (why_ended (reason_of x.body))

-- why this end makes this PDU, where so many things are owed after the units: by its type, its reason, and whether
-- something is owed
abbrev pub why_of : EndState → ℕ → SafetyPdu → Option Why
why_of e trail x = why_by x.kind e trail x

-- ---- the order of crossing

-- a first copy with its side
pub record SidedCopy : Type 0 where
  pub side : Side
  pub copy : FirstCopy

-- a first copy as it is handed out with its side
abbrev pub sided_copy : Side × (ℕ × Pdu) → SidedCopy
sided_copy x = record { side = x.0; copy = copy_of x.1 }

-- the one that crossed first, of the next copies of both sides
abbrev pub first_of : Option FirstCopy → Option FirstCopy → Option SidedCopy
first_of None None = None
first_of (Some c) None = Some (record { side = Client; copy = c })
first_of None (Some s) = Some (record { side = Server; copy = s })
first_of (Some c) (Some s) =
    Some (if nat_lt c.place s.place then record { side = Client; copy = c } else record { side = Server; copy = s })

-- ---- why a script can't go on

-- the fault at the packet of this place: its number from 1, as 32 bits hold it
abbrev pub fault_of_stuck : Stuck → ℕ → Fault
fault_of_stuck Unexplained place = fault_at not_found (min (place + 1) 4294967295)
fault_of_stuck NoMemory place = no_memory

-- a script that no rule stops is out of memory
abbrev pub stuck_for : Option Rule → Stuck
stuck_for None = NoMemory
stuck_for (Some rule) = Unexplained

-- what a fault of an end says of its script
abbrev pub stuck_by : Fault → Stuck
stuck_by fault = if fault.number == 1 then NoMemory else Unexplained

-- nothing explains a member of this sent list
abbrev pub IsUnexplained : List FirstCopy → Fault → Type 0
IsUnexplained sent fault = (i : ℕ) × (copy : FirstCopy) × (slice_get sent i ≡ Some copy)
    × (fault ≡ fault_of_stuck Unexplained copy.place)

-- a builder's fault: out of memory, or a first copy of the client's or of the server's that nothing explains
abbrev pub IsProposalFault : List FirstCopy → List FirstCopy → Fault → Type 0
IsProposalFault client server fault = (fault ≡ no_memory) ⊎ (IsUnexplained client fault ⊎ IsUnexplained server fault)
