-- What is told of the packets of a window alone: what was surely taken by them, whatever else crossed.
use Rattle.std.specs.Prelude.{◌≡◌, ℕ, ◌+◌, ◌<◌, ◌++◌, Bool, false, List, [], map, filter, flat_map, length, take, drop}
use Rattle.std.specs.Prelude.{slice_get, nat_lt}
use Rattle.std.specs.Prelude.{Option, None, Some, IsSome, is_some}
use Rattle.rasta_pcap.specs.declared.fault.Side.{Side}
use Rattle.rasta_pcap.specs.declared.fault.Side.TheVariants.{Client, Server}
use Rattle.rasta_udp.specs.Frame.{Packet}
use Rattle.rasta_pdu.specs.Params.{Parameters}
use Rattle.rasta_pdu.specs.Pdu.{RedundancyPdu, messages_in}
use Rattle.rasta_check.specs.Middle.Kept.{is_opening}
use Rattle.rasta_check.specs.Middle.ShownLists.{AreListsOf}
use Rattle.rasta_check.specs.declared.resent.ResentUnit.{ResentUnit}
use Rattle.rasta_check.specs.declared.shown.ShownLists.{ShownLists}
use Rattle.rasta_check.specs.declared.sights.ShownUnit.{ShownUnit}
use Rattle.seatmelon_middle.specs.Counts.{counts_in, is_taken, messages_captured}
use Rattle.seatmelon_middle.specs.Packets.{pdu_there}
use Rattle.seatmelon_middle.specs.Told.{tells_by}
use Rattle.seatmelon_reading.specs.Tapes.{NumberedPacket, taped_in}
use Rattle.seatmelon_reading.specs.declared.reading.Reading.{Reading}
use Rattle.seatmelon_account.specs.Messages.{AreFirstTaken, Placed, placed_at, placed_of}
use Rattle.seatmelon_account.specs.declared.account.Verdict.{Verdict}
use Rattle.seatmelon_account.specs.declared.account.Verdict.TheVariants as verdicts
use Rattle.seatmelon_account.specs.declared.messages.Direction.{Direction}
use Rattle.seatmelon_account.specs.declared.messages.Message.{Message}
use Rattle.seatmelon_account.specs.declared.middle.FromMiddle.{FromMiddle}

-- ---- the packets of a window

abbrev pub packet_of_numbered : NumberedPacket → Packet
packet_of_numbered n = n.packet

-- those that crossed, and those behind them
abbrev pub packets_in : Reading → List Packet
packets_in r = r.store.packets ++ map packet_of_numbered (taped_in r.unjudged)

abbrev pub opens : Option RedundancyPdu → Bool
opens None = false
opens (Some pdu) = is_opening pdu.safety.kind

-- ---- messages

-- a message as it is told, with the place of its proof
pub record Told : Type 0 where
  pub placed : Placed
  pub proof : Option ℕ

abbrev pub told_of : Message → Told
told_of m = record { placed = placed_of m; proof = m.proof }

abbrev pub told_with : ℕ → Option ℕ → List ℕ → Told
told_with place proof message = record { placed = placed_at place message; proof = proof }

abbrev pub messages_of : Option RedundancyPdu → List (List ℕ)
messages_of None = []
messages_of (Some pdu) = messages_in pdu.safety.body

-- the messages of the PDU at a place, with this proof
abbrev pub told_at : Parameters → List Packet → ℕ → Option ℕ → List Told
told_at p packets place proof = map (told_with place proof) (messages_of (pdu_there p packets place))

-- those of captured data
abbrev pub data_told : Parameters → List Packet → ShownUnit → List Told
data_told p packets u = told_at p packets u.data_place u.proof_place

-- those of data that were sent again, and first sent before
abbrev pub resent_told : Parameters → List Packet → ResentUnit → List Told
resent_told p packets u = told_at p packets u.place u.proof_place

abbrev pub AreNumbered : List Message → Type 0
AreNumbered messages = (i : ℕ) (m : Message) → slice_get messages i ≡ Some m → m.number ≡ i

-- these messages are told so, with their numbers
pub record AreToldSo (told : List Told) (messages : List Message) : Type 0 where
  pub all : map told_of messages ≡ told
  pub numbered : AreNumbered messages

-- how many data of an end are told one by one: those with a proof, and as many more
abbrev pub told_count : List ShownUnit → ℕ
told_count units = length (filter is_taken units) + 65536

-- the data whose messages are told one by one, and the others
abbrev pub told_units : List ShownUnit → List ShownUnit
told_units units = take (told_count units) units

abbrev pub left_out_units : List ShownUnit → List ShownUnit
left_out_units units = drop (told_count units) units

abbrev pub is_proved : Message → Bool
is_proved m = is_some m.proof

-- the messages of captured data of an end, of which these units are listed: as surely taken those are told that have a
-- proof, which are the first ones
pub record IsShownDirection (sender : Side) (p : Parameters) (packets : List Packet) (units : List ShownUnit)
    (d : Direction) : Type 0 where
  pub end : d.sender ≡ sender
  pub messages : AreToldSo (flat_map (data_told p packets) (told_units units)) d.messages.items
  pub taken : d.taken ≡ length (filter is_proved d.messages.items)
  pub first : AreFirstTaken d.taken d.messages.items

-- ---- the whole

-- this is told of the packets of a window: what they show, all of them or those before the first that can't be held
-- together with those before it, and whether that one opens a connection
pub record IsFromMiddle (r : Reading) (m : FromMiddle) : Type 0 where
  pub lists : ShownLists
  pub shown : AreListsOf r.store.params (packets_in r) lists
  pub packets : m.packets ≡ lists.packets
  pub opening : m.before_opening ≡ opens (pdu_there r.store.params (packets_in r) lists.packets)
  pub has_code : m.has_code ≡ nat_lt 0 r.store.params.code_length
  pub counts : m.counts ≡ counts_in lists
  pub client : IsShownDirection Client r.store.params (packets_in r) lists.client.items m.client
  pub server : IsShownDirection Server r.store.params (packets_in r) lists.server.items m.server
  pub client_left_out : m.client_left_out ≡ messages_captured (left_out_units lists.client.items)
  pub server_left_out : m.server_left_out ≡ messages_captured (left_out_units lists.server.items)
  pub client_resent : AreToldSo (flat_map (resent_told r.store.params (packets_in r)) lists.client_resent.items)
      m.client_resent.items
  pub server_resent : AreToldSo (flat_map (resent_told r.store.params (packets_in r)) lists.server_resent.items)
      m.server_resent.items

-- ---- when it is told

-- beside a refusal, as of its fault and of the packets of the window
abbrev pub tells_middle : Reading → Verdict → Bool
tells_middle r verdicts.NoPackets = false
tells_middle r (verdicts.Refused refusal) = tells_by r.store.params (packets_in r) refusal.fault
tells_middle r (verdicts.Explained explained) = false

-- ---- on the way

-- units with a proof come first
abbrev pub HaveProofsFirst : List ShownUnit → Type 0
HaveProofsFirst units = (i j : ℕ) (u later : ShownUnit) → i < j → slice_get units i ≡ Some u
    → slice_get units j ≡ Some later → IsSome later.proof_place → IsSome u.proof_place
