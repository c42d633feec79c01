-- The payload of a datagram, and what the type of its datagram has in its place.
use Rattle.std.specs.Prelude.{◌≡◌, ℕ, ◌-◌, ◌<◌, ◌==◌, List, [], length, take, Option, None, Some, option_map, unwrap_or}
use Rattle.std.specs.Prelude.{if◌then◌else◌}
use Rattle.rasta_pdu.specs.Fields.{field_at, kind_in, payload_in}
use Rattle.rasta_pdu.specs.Messages.{behind_messages}
use Rattle.rasta_pdu.specs.Params.{Parameters}
use Rattle.rasta_pdu.specs.Pdu as pdus
use Rattle.rasta_pdu.specs.Pdu.{layout_of, OpeningFields, MessageList}
use Rattle.seatmelon_account.specs.declared.layout.CutMessage.{CutMessage}
use Rattle.seatmelon_account.specs.declared.layout.Layout.{Layout}

-- the payload of a datagram, empty where it is too short for codes of these lengths
abbrev pub payload_of : Parameters → List ℕ → List ℕ
payload_of p datagram = unwrap_or (payload_in p datagram) []

-- the message for which a payload ends too soon, behind whole ones
pub record IsCutMessage (payload : List ℕ) (c : CutMessage) : Type 0 where
  pub at : c.at ≡ length payload - length (behind_messages payload)
  pub cut : 0 < length (behind_messages payload)
  pub len : c.len ≡ field_at 2 0 (behind_messages payload)
  pub left : c.left ≡ length (behind_messages payload) - 2

-- a payload is whole messages, or ends too soon for one
abbrev pub TellsCut : List ℕ → Option CutMessage → Type 0
TellsCut payload None = behind_messages payload ≡ []
TellsCut payload (Some c) = IsCutMessage payload c

-- an opening's payload has 14 bytes, of which the first 4 are its version
abbrev pub version_by : Option pdus.Layout → List ℕ → Option (List ℕ)
version_by (Some OpeningFields) payload = if length payload == 14 then Some (take 4 payload) else None
version_by _ payload = None

-- messages are looked for in data, and in data that is sent again
abbrev pub TellsMessages : Option pdus.Layout → List ℕ → Option CutMessage → Type 0
TellsMessages (Some MessageList) payload cut = TellsCut payload cut
TellsMessages _ payload cut = cut ≡ None

pub record IsLayout (p : Parameters) (datagram : List ℕ) (l : Layout) : Type 0 where
  pub kind : l.kind ≡ kind_in datagram
  pub len : l.len ≡ length (payload_of p datagram)
  pub version : option_map (λ v. v.now) l.version ≡ version_by (option_map layout_of l.kind) (payload_of p datagram)
  pub cut : TellsMessages (option_map layout_of l.kind) (payload_of p datagram) l.cut
