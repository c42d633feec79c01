-- What a datagram is made of.
use Rattle.std.specs.Prelude.{ℕ, ◌≡◌, ◌<◌, ◌^◌, List, length, map, Bool, true, false, ◌&&◌, nat_lt, ◌==◌}
use Rattle.std.specs.Borrow.{Bor}
use Rattle.rasta_pdu.specs.declared.body.Body.{Body}
use Rattle.rasta_pdu.specs.declared.body.Body.TheVariants.{Opening as OpeningBody, Bye as ByeBody}
use Rattle.rasta_pdu.specs.declared.body.Body.TheVariants.{Messages as MessagesBody, Empty as EmptyBody}
use Rattle.rasta_pdu.specs.declared.parts.PduParts.{PduParts}
use Rattle.rasta_pdu.specs.Params.{Parameters}
use Rattle.rasta_pdu.specs.Messages.{payload_of_messages}
use Rattle.rasta_pdu.specs.Pdu.{SafetyBody, Opening, Bye, Messages, Empty, RedundancyPdu, Layout, OpeningFields}
use Rattle.rasta_pdu.specs.Pdu.{ByeFields, MessageList, Nothing, layout_of, is_version}

-- a list of messages
abbrev pub lists_of : List (Bor (List ℕ)) → List (List ℕ)
lists_of messages = map (λ m. m.now) messages

-- the value of a body that has its messages apart
abbrev pub parts_body : Body (Bor (List (Bor (List ℕ)))) → SafetyBody
parts_body (OpeningBody version sendmax reserved) = Opening version sendmax reserved
parts_body (ByeBody detail reason) = Bye detail reason
parts_body (MessagesBody messages) = Messages (payload_of_messages (lists_of messages.now))
parts_body EmptyBody = Empty

-- the value of the parts
abbrev pub value_of_parts : PduParts → RedundancyPdu
value_of_parts d = record {
  reserve = d.reserve;
  number = d.number;
  safety = record { kind = d.kind; sn = d.sn; cs = d.cs; ts = d.ts; cts = d.cts; body = parts_body d.body };
  check_bytes = d.check_bytes.now;
}

-- the numbers and the reserved bytes fit their fields
abbrev pub BodyHasWidths : Body (Bor (List (Bor (List ℕ)))) → Type 0
BodyHasWidths (OpeningBody version sendmax reserved) = (sendmax < 2 ^ 16) × (length reserved ≡ 8)
BodyHasWidths (ByeBody detail reason) = (detail < 2 ^ 16) × (reason < 2 ^ 16)
BodyHasWidths (MessagesBody messages) = Unit {0}
BodyHasWidths EmptyBody = Unit {0}

-- the same of all fields
pub record HaveWidths (d : PduParts) : Type 0 where
  pub reserve : d.reserve < 2 ^ 16
  pub number : d.number < 2 ^ 32
  pub sn : d.sn < 2 ^ 32
  pub cs : d.cs < 2 ^ 32
  pub ts : d.ts < 2 ^ 32
  pub cts : d.cts < 2 ^ 32
  pub body : BodyHasWidths d.body

-- the body is of the layout, its version has four ASCII digits, and data have a message
abbrev pub body_fits : Layout → Body (Bor (List (Bor (List ℕ)))) → Bool
body_fits OpeningFields (OpeningBody version sendmax reserved) = is_version version
body_fits ByeFields (ByeBody detail reason) = true
body_fits MessageList (MessagesBody messages) = nat_lt 0 (length messages.now)
body_fits Nothing EmptyBody = true
body_fits _ _ = false

-- the body is that of the kind, and the check bytes have the recorded length
abbrev pub parts_fit : Parameters → PduParts → Bool
parts_fit p d = body_fits (layout_of d.kind) d.body && length d.check_bytes.now == p.check_length

-- the most bytes that a datagram of UDP over IPv4 carries
abbrev pub most_bytes : ℕ
most_bytes = 65507
