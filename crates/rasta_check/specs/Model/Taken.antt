-- What two sent lists show: which messages of one end its peer surely took.
use Rattle.std.specs.Prelude.{ℕ, suc, max, nat_lt, if◌then◌else◌, ◌==◌, List, [], ◌∷◌, ◌++◌, take, map, filter}
use Rattle.std.specs.Prelude.{filter_map, fold, Option, Some, None}
use Rattle.std.specs.Option.{option_map}
use Rattle.rasta_pcap.specs.declared.fault.Side.{Side}
use Rattle.rasta_pdu.specs.Params.{Parameters}
use Rattle.rasta_pdu.specs.Pdu.{SafetyPdu, messages_in, is_kind}
use Rattle.rasta_end.specs.State.{Made}
use Rattle.rasta_end.specs.Units.{all_units_conveyed, units_at}
use Rattle.rasta_end.specs.Starts.{start_of}
use Rattle.rasta_check.specs.Capture.SentLists.{FirstCopy}
use Rattle.rasta_pdu.specs.declared.kind.Kind.TheVariants.{ConnectionRequest, Data, RetransmissionRequest}

-- ---- over lists of PDUs: those that an end made, and those of its peer

-- the first position with this SN: the position that a CS confirms
abbrev pub position_with : List SafetyPdu → ℕ → Option ℕ
position_with [] sn = None
position_with (x ∷ xs) sn = if x.sn == sn then Some 0 else option_map suc (position_with xs sn)

-- the positions that the peer's retransmission requests confirm, in order
abbrev pub asked_positions : List SafetyPdu → List SafetyPdu → List ℕ
asked_positions own peer = filter_map (λ (x : SafetyPdu). position_with own x.cs)
    (filter (λ (x : SafetyPdu). is_kind RetransmissionRequest x.kind) peer)

-- the units conveyed through each position
abbrev pub units_along : List SafetyPdu → List SafetyPdu → List ℕ
units_along own peer = all_units_conveyed (asked_positions own peer) (map (λ (x : SafetyPdu). x.kind) own)

-- the units conveyed through the position that a PDU of the peer confirms; a connection request confirms none
abbrev pub units_shown : List SafetyPdu → List SafetyPdu → SafetyPdu → ℕ
units_shown own peer x = if is_kind ConnectionRequest x.kind then 0
    else units_at (units_along own peer) (position_with own x.cs)

-- how many units the peer surely took: the most that one of its PDUs shows
abbrev pub units_taken : List SafetyPdu → List SafetyPdu → ℕ
units_taken own peer = fold max 0 (map (units_shown own peer) peer)

-- ---- over sent lists

-- the PDUs of a sent list
abbrev pub pdus_of : List FirstCopy → List SafetyPdu
pdus_of copies = map (λ (c : FirstCopy). c.pdu.safety) copies

-- the PDUs that an end made
abbrev pub pdus_made : List Made → List SafetyPdu
pdus_made made = map (λ (m : Made). m.pdu) made

-- what a side made: the quiet PDU, where a run begins with one, and then its sent list
abbrev pub all_made : Parameters → Side → List FirstCopy → List SafetyPdu
all_made p side sent = pdus_made (start_of p side).made ++ pdus_of sent

-- a unit that was surely taken: its messages, the place of the first copy of its data PDU, and the least place of a PDU
-- that shows it
pub record TakenUnit : Type 0 where
  pub messages : List (List ℕ)
  pub data_place : ℕ
  pub proof_place : ℕ

-- the place of the first of these PDUs of the peer that shows more than so many units, 0 where none does
abbrev pub proof_place : List SafetyPdu → List SafetyPdu → ℕ → List FirstCopy → ℕ
proof_place own peer unit [] = 0
proof_place own peer unit (c ∷ copies) = if nat_lt unit (units_shown own peer c.pdu.safety) then c.place
    else proof_place own peer unit copies

-- units from this number on, of these data PDUs
abbrev pub units_from : List SafetyPdu → List FirstCopy → ℕ → List FirstCopy → List TakenUnit
units_from own peer unit [] = []
units_from own peer unit (c ∷ data_pdus) =
    record {
      messages = messages_in c.pdu.safety.body;
      data_place = c.place;
      proof_place = proof_place own (pdus_of peer) unit peer;
    } ∷ units_from own peer (suc unit) data_pdus

-- the data PDUs of a sent list
abbrev pub data_copies : List FirstCopy → List FirstCopy
data_copies sent = filter (λ (c : FirstCopy). is_kind Data c.pdu.safety.kind) sent

-- the units of this side that its peer surely took, by both sent lists
abbrev pub surely_taken : Parameters → Side → List FirstCopy → List FirstCopy → List TakenUnit
surely_taken p side own peer =
    units_from (all_made p side own) peer 0 (take (units_taken (all_made p side own) (pdus_of peer)) (data_copies own))
