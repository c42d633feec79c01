-- The messages that an end sent, and how many of them were surely taken.
use Rattle.std.specs.Prelude.{◌≡◌, ℕ, List, length, flat_map, if◌then◌else◌}
use Rattle.rasta_pdu.specs.declared.kind.Kind.TheVariants.{Data}
use Rattle.rasta_pdu.specs.Pdu.{RedundancyPdu, is_kind, messages_in}
use Rattle.rasta_check.specs.Capture.SentLists.{FirstCopy}
use Rattle.rasta_check.specs.Model.Taken.{data_copies}
use Rattle.rasta_check.specs.Verdict.Listed.{ListedMessage}
use Rattle.seatmelon_audit.specs.declared.answer.Conveyed.{Conveyed}

abbrev pub messages_of : FirstCopy → List (List ℕ)
messages_of c = messages_in c.pdu.safety.body

-- all messages that an end sent, in order: those of its data, each once
abbrev pub messages_sent : List FirstCopy → List (List ℕ)
messages_sent sent = flat_map messages_of (data_copies sent)

-- how many an end sent, and how many of them are listed as surely taken by the other
pub record IsConveyed (copies : List FirstCopy) (listed : List ListedMessage) (c : Conveyed) : Type 0 where
  pub sent : c.sent ≡ length (messages_sent copies)
  pub taken : c.taken ≡ length listed

-- ---- on the way

-- how many messages a PDU adds to those that were sent
abbrev pub added_by : RedundancyPdu → ℕ
added_by pdu = if is_kind Data pdu.safety.kind then length (messages_in pdu.safety.body) else 0
