-- The headline: what a report says of every run that sends the packets that crossed.
use Rattle.std.specs.Prelude.{◌≡◌, ℕ, List, ◌++◌, map, filter, Some, slice_get}
use Rattle.std.specs.List.{flat_map}
use Rattle.rasta_pcap.specs.declared.fault.Side.{Side}
use Rattle.rasta_pcap.specs.declared.fault.Side.TheVariants.{Client, Server}
use Rattle.rasta_udp.specs.Frame.{Packet}
use Rattle.rasta_pdu.specs.Params.{Parameters}
use Rattle.rasta_pdu.specs.Pdu.{SafetyPdu, messages_in, is_kind}
use Rattle.rasta_end.specs.State.{EndState, Made}
use Rattle.rasta_check.specs.Model.World.{World, Reaches, other_side, end_of}
use Rattle.rasta_check.specs.Model.Laws.{HandsUp}
use Rattle.rasta_check.specs.Model.Theorem.{Appends, units_handed}
use Rattle.rasta_check.specs.Verdict.Listed.{ListedMessage}
use Rattle.rasta_check.specs.Verdict.Report.{Explained}
use Rattle.rasta_pdu.specs.declared.kind.Kind.TheVariants.{Data}

-- the messages that an end handed up, in order
abbrev pub messages_up : EndState → List (List ℕ)
messages_up e = flat_map (λ (x : SafetyPdu). messages_in x.body) e.handed_pdus

-- the messages of a report's list
abbrev pub messages_in_list : List ListedMessage → List (List ℕ)
messages_in_list listed = map (λ (m : ListedMessage). m.message) listed

-- the units that an end offered, in order: the messages of each of its data PDUs
abbrev pub units_offered : EndState → List (List (List ℕ))
units_offered e = map (λ (m : Made). messages_in m.pdu.body) (filter (λ (m : Made). is_kind Data m.pdu.kind) e.made)

-- in this run this side handed up the units 0, 1, .. of its peer, once each and in order, which are the first that its
-- peer offered, and their messages begin with those of the list; and the packet at the proof place of each message of
-- the list is appended to a world of the run, and to each such world the message had been handed up
pub record HandsUpListed (ws : List World) (w : World) (side : Side) (listed : List ListedMessage) : Type 0 where
  pub labels : HandsUp (end_of w side) (end_of w (other_side side))
  pub units : (later : List (List (List ℕ)))
      × (units_offered (end_of w (other_side side)) ≡ units_handed (end_of w side) ++ later)
  pub first : (rest : List (List ℕ)) × (messages_up (end_of w side) ≡ messages_in_list listed ++ rest)
  pub appended : (i : ℕ) (m : ListedMessage) → slice_get listed i ≡ Some m
      → (v next : World) × Appends ws w m.proof_place v next
  pub in_time : (i : ℕ) (m : ListedMessage) (v next : World) → slice_get listed i ≡ Some m
      → Appends ws w m.proof_place v next
      → slice_get (messages_up (end_of v side)) i ≡ Some m.message

-- some run of two ends over the network sends exactly these packets; and in every run that does, each end handed up,
-- once each and in order, every message that the report lists as taken by it
pub record Headline (p : Parameters) (packets : List Packet) (report : Explained) : Type 0 where
  pub some_run : (ws : List World) × (w : World) × Reaches p ws w × (w.crossed ≡ packets)
  pub every_run : (ws : List World) (w : World) → Reaches p ws w → w.crossed ≡ packets
      → HandsUpListed ws w Server report.server_taken × HandsUpListed ws w Client report.client_taken

-- no longer list is sure: some run that sends exactly these packets has both ends handing up what the report lists and
-- nothing more
abbrev pub IsSharp : Parameters → List Packet → Explained → Type 0
IsSharp p packets report =
    (ws : List World) × (w : World) × Reaches p ws w × (w.crossed ≡ packets)
    × (messages_up w.server.state ≡ messages_in_list report.server_taken)
    × (messages_up w.client.state ≡ messages_in_list report.client_taken)
