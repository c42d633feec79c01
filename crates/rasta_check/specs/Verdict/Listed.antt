-- What the lists of a report hold.
use Rattle.std.specs.Prelude.{ℕ, suc, List, [], ◌∷◌, map}
use Rattle.std.specs.List.{flat_map}
use Rattle.rasta_pcap.specs.declared.fault.Side.{Side}
use Rattle.rasta_pdu.specs.Params.{Parameters}
use Rattle.rasta_check.specs.declared.report.Taken.{Taken}
use Rattle.rasta_check.specs.Capture.SentLists.{FirstCopy}
use Rattle.rasta_check.specs.Model.Taken.{TakenUnit, surely_taken}

-- a message that was surely taken, with the places of its unit
pub record TakenMessage : Type 0 where
  pub message : List ℕ
  pub data_place : ℕ
  pub proof_place : ℕ

-- the messages of a unit, each with its places
abbrev pub messages_of_unit : TakenUnit → List TakenMessage
messages_of_unit u =
    map (λ (m : List ℕ). record { message = m; data_place = u.data_place; proof_place = u.proof_place }) u.messages

-- the messages of these units, in order
abbrev pub messages_taken : List TakenUnit → List TakenMessage
messages_taken units = flat_map messages_of_unit units

-- a message that a report lists as taken: its number in the list, the places of its data PDU and of its proof, and its
-- bytes
pub record ListedMessage : Type 0 where
  pub number : ℕ
  pub data_place : ℕ
  pub proof_place : ℕ
  pub message : List ℕ

-- these messages with their numbers, from this one on
abbrev pub numbered_from : ℕ → List TakenMessage → List ListedMessage
numbered_from n [] = []
numbered_from n (m ∷ ms) =
    record { number = n; data_place = m.data_place; proof_place = m.proof_place; message = m.message }
    ∷ numbered_from (suc n) ms

-- the messages of this side that its peer surely took, as a report lists them: in order, numbered from 0
abbrev pub listed : Parameters → Side → List FirstCopy → List FirstCopy → List ListedMessage
listed p side own peer = numbered_from 0 (messages_taken (surely_taken p side own peer))

-- what a member of a report's list says
abbrev pub listed_of : Taken → ListedMessage
listed_of t =
    record { number = t.message; data_place = t.data_index; proof_place = t.proof_index; message = t.bytes.now }
