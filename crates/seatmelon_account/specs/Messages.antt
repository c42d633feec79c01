-- The messages that an end sent, as they are told.
use Rattle.std.specs.Prelude.{◌≡◌, ℕ, ◌-◌, List, map, length, take, filter_map, flat_map, slice_get, Option, None, Some}
use Rattle.std.specs.Prelude.{is_some, option_map, nat_lt, if◌then◌else◌}
use Rattle.rasta_pcap.specs.declared.fault.Side.{Side}
use Rattle.rasta_pdu.specs.Pdu.{messages_in}
use Rattle.rasta_check.specs.Capture.SentLists.{FirstCopy}
use Rattle.rasta_check.specs.Model.Taken.{data_copies}
use Rattle.rasta_check.specs.Verdict.Listed.{ListedMessage}
use Rattle.seatmelon_account.specs.declared.messages.Direction.{Direction}
use Rattle.seatmelon_account.specs.declared.messages.Message.{Message}

-- a message, and the place of the first copy of its data
pub record Placed : Type 0 where
  pub data_place : ℕ
  pub message : List ℕ

abbrev pub placed_at : ℕ → List ℕ → Placed
placed_at place m = record { data_place = place; message = m }

abbrev pub messages_of_copy : FirstCopy → List Placed
messages_of_copy c = map (placed_at c.place) (messages_in c.pdu.safety.body)

-- all messages that an end sent, in order: those of its data, each once
abbrev pub messages_sent : List FirstCopy → List Placed
messages_sent sent = flat_map messages_of_copy (data_copies sent)

-- a message as it is told
abbrev pub placed_of : Message → Placed
placed_of m = record { data_place = m.data; message = m.bytes.now }

-- what is told as surely taken
abbrev pub taken_of : Message → Option ListedMessage
taken_of m =
    option_map
    (λ (proof : ℕ). record { number = m.number; data_place = m.data; proof_place = proof; message = m.bytes.now })
    m.proof

-- all that was sent is told, in order, and what is listed is told as surely taken, and nothing else
pub record AreMessages (sent : List FirstCopy) (listed : List ListedMessage) (messages : List Message) : Type 0 where
  pub all : map placed_of messages ≡ messages_sent sent
  pub numbered : (i : ℕ) (m : Message) → slice_get messages i ≡ Some m → m.number ≡ i
  pub taken : filter_map taken_of messages ≡ listed

-- what is told as surely taken are the first ones, so many
abbrev pub AreFirstTaken : ℕ → List Message → Type 0
AreFirstTaken taken messages = (i : ℕ) (m : Message) → slice_get messages i ≡ Some m → is_some m.proof ≡ nat_lt i taken

-- the messages of an end, which sent these first copies
pub record IsDirection (sender : Side) (sent : List FirstCopy) (listed : List ListedMessage)
    (d : Direction) : Type 0 where
  pub end : d.sender ≡ sender
  pub count : d.taken ≡ length listed
  pub messages : AreMessages sent listed d.messages.items
  pub first : AreFirstTaken d.taken d.messages.items

-- the numbers of the first and of the last message that isn't among these first ones of so many
abbrev pub not_shown : ℕ → ℕ → Option (ℕ × ℕ)
not_shown taken sent = if nat_lt taken sent then Some (taken, sent - 1) else None

-- ---- on the way

-- the place of the proof of the message with this number, where it is listed
abbrev pub proof_in : List ListedMessage → ℕ → Option ℕ
proof_in listed number = option_map (λ (l : ListedMessage). l.proof_place) (slice_get listed number)

-- messages have their numbers, and those that are listed their proofs
abbrev pub ProvedBy : List ListedMessage → List Message → Type 0
ProvedBy listed messages = (i : ℕ) (m : Message) → slice_get messages i ≡ Some m
    → (m.number ≡ i) × (m.proof ≡ proof_in listed i)

abbrev pub listed_placed : ListedMessage → Placed
listed_placed l = record { data_place = l.data_place; message = l.message }

-- what is listed are the first of the messages that were sent, with their numbers
pub record AreFirst (sent : List Placed) (listed : List ListedMessage) : Type 0 where
  pub numbered : (i : ℕ) (l : ListedMessage) → slice_get listed i ≡ Some l → l.number ≡ i
  pub first : map listed_placed listed ≡ take (length listed) sent
