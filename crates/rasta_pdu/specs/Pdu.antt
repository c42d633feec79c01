-- The PDUs of the two layers: their values, how they are spelled, and how bytes are read.
use Rattle.std.specs.Prelude.{◌≡◌, ℕ, ◌+◌, ◌-◌, ◌<◌, ◌^◌, List, [], ◌∷◌, ◌++◌, length, take, drop, slice_range, Option}
use Rattle.std.specs.Prelude.{Some, None, Result, Ok, Err, Bool, true, false, ◌&&◌, ◌||◌, nat_le, ◌==◌, if◌then◌else◌, IsTrue, bytes_eq}
use Rattle.std.specs.List.{list_all}
use Rattle.std.specs.Borrow.{Bor}
use Rattle.byteorder.specs.Endian.{little_bytes, little_number}
use Rattle.rasta_md4.specs.Md4.{md4}
use Rattle.rasta_udp.specs.Fault.{fault_at, redundancy_length, too_short, safety_length, wrong_type, wrong_payload}
use Rattle.rasta_udp.specs.Fault.{wrong_code, wrong_ids}
use Rattle.rasta_pcap.specs.declared.fault.Fault.{Fault}
use Rattle.rasta_pcap.specs.declared.fault.Side.{Side}
use Rattle.rasta_pcap.specs.declared.fault.Side.TheVariants.{Client, Server}
use Rattle.rasta_pdu.specs.declared.body.Body.{Body}
use Rattle.rasta_pdu.specs.declared.body.Body.TheVariants.{Opening as OpeningBody, Bye as ByeBody}
use Rattle.rasta_pdu.specs.declared.body.Body.TheVariants.{Messages as MessagesBody, Empty as EmptyBody}
use Rattle.rasta_pdu.specs.declared.kind.Kind.{Kind}
use Rattle.rasta_pdu.specs.declared.kind.Kind.TheVariants.{ConnectionRequest, ConnectionResponse, RetransmissionRequest}
use Rattle.rasta_pdu.specs.declared.kind.Kind.TheVariants.{RetransmissionResponse, DisconnectionRequest, Heartbeat}
use Rattle.rasta_pdu.specs.declared.kind.Kind.TheVariants.{Data, RetransmittedData}
use Rattle.rasta_pdu.specs.declared.messages.Messages.{Messages as MessagesLeft}
use Rattle.rasta_pdu.specs.declared.pdu.Pdu.{Pdu}
use Rattle.rasta_pdu.specs.Params.{Parameters}
use Rattle.rasta_pdu.specs.Messages.{are_messages}
pub use Rattle.rasta_pdu.specs.Messages.{messages_of, payload_of_messages}

-- ---- values

-- what a safety PDU has after its time stamps
pub data SafetyBody : Type 0 where
  Opening : (version : List ℕ) (sendmax : ℕ) (reserved : List ℕ) → SafetyBody
  Bye : (detail reason : ℕ) → SafetyBody
  Messages : (payload : List ℕ) → SafetyBody
  Empty : SafetyBody

-- a PDU of the safety and retransmission layer, without the ids, which are those of its sender, and
-- without the safety code, which is that of its bytes
pub record SafetyPdu : Type 0 where
  pub kind : Kind
  pub sn : ℕ
  pub cs : ℕ
  pub ts : ℕ
  pub cts : ℕ
  pub body : SafetyBody

-- a PDU of the redundancy layer
pub record RedundancyPdu : Type 0 where
  pub reserve : ℕ
  pub number : ℕ
  pub safety : SafetyPdu
  pub check_bytes : List ℕ

-- ---- kinds and bodies

-- the type number of each kind
abbrev pub type_of : Kind → ℕ
type_of ConnectionRequest = 6200
type_of ConnectionResponse = 6201
type_of RetransmissionRequest = 6212
type_of RetransmissionResponse = 6213
type_of DisconnectionRequest = 6216
type_of Heartbeat = 6220
type_of Data = 6240
type_of RetransmittedData = 6241

-- the kind is the wanted one
abbrev pub is_kind : Kind → Kind → Bool
is_kind wanted kind = type_of kind == type_of wanted

-- the kind that has a type number
abbrev pub kind_of : ℕ → Option Kind
kind_of number =
    if number == 6200 then Some ConnectionRequest
    else if number == 6201 then Some ConnectionResponse
    else if number == 6212 then Some RetransmissionRequest
    else if number == 6213 then Some RetransmissionResponse
    else if number == 6216 then Some DisconnectionRequest
    else if number == 6220 then Some Heartbeat
    else if number == 6240 then Some Data
    else if number == 6241 then Some RetransmittedData
    else None

abbrev pub is_heartbeat_or_data : Kind → Bool
is_heartbeat_or_data Heartbeat = true
is_heartbeat_or_data Data = true
is_heartbeat_or_data _ = false

-- types by which deadlines are set
abbrev pub is_timed : Kind → Bool
is_timed kind = is_heartbeat_or_data kind || is_kind RetransmittedData kind

abbrev pub carries_unit : Kind → Bool
carries_unit Data = true
carries_unit RetransmittedData = true
carries_unit _ = false

-- what a payload consists of
pub data Layout : Type 0 where
  OpeningFields : Layout
  ByeFields : Layout
  MessageList : Layout
  Nothing : Layout

-- the layout of each kind's payload
abbrev pub layout_of : Kind → Layout
layout_of ConnectionRequest = OpeningFields
layout_of ConnectionResponse = OpeningFields
layout_of RetransmissionRequest = Nothing
layout_of RetransmissionResponse = Nothing
layout_of DisconnectionRequest = ByeFields
layout_of Heartbeat = Nothing
layout_of Data = MessageList
layout_of RetransmittedData = MessageList

abbrev pub is_digit : ℕ → Bool
is_digit byte = nat_le 48 byte && nat_le byte 57

-- four ASCII digits
abbrev pub is_version : List ℕ → Bool
is_version version = length version == 4 && list_all is_digit version

-- the body has the layout: a version of four ASCII digits, N_sendmax and eight reserved bytes; two
-- numbers; one or more messages that fill the payload exactly; or nothing
abbrev pub HasLayout : Layout → SafetyBody → Type 0
HasLayout OpeningFields (Opening version sendmax reserved) =
    IsTrue (is_version version) × (sendmax < 2 ^ 16) × (length reserved ≡ 8)
HasLayout ByeFields (Bye detail reason) = (detail < 2 ^ 16) × (reason < 2 ^ 16)
HasLayout MessageList (Messages payload) = IsTrue (are_messages payload)
HasLayout Nothing Empty = Unit {0}
HasLayout _ _ = ⊥

-- ---- spelling: from a value to its bytes

-- the payload of a body
abbrev pub payload_of : SafetyBody → List ℕ
payload_of (Opening version sendmax reserved) = version ++ (little_bytes 2 sendmax ++ reserved)
payload_of (Bye detail reason) = little_bytes 2 detail ++ little_bytes 2 reason
payload_of (Messages payload) = payload
payload_of Empty = []

abbrev pub receiver_of : Parameters → Side → ℕ
receiver_of p Client = p.server_id
receiver_of p Server = p.client_id

abbrev pub sender_of : Parameters → Side → ℕ
sender_of p Client = p.client_id
sender_of p Server = p.server_id

-- the safety PDU that this side sends, up to its payload's end: its length, in which the code counts,
-- type, receiver, sender, sequence number, confirmed sequence number, time stamp, confirmed time stamp,
-- and payload
abbrev pub uncoded_bytes : Parameters → Side → SafetyPdu → List ℕ
uncoded_bytes p side s =
    little_bytes 2 (28 + length (payload_of s.body) + p.code_length) ++ (little_bytes 2 (type_of s.kind)
    ++ (little_bytes 4 (receiver_of p side) ++ (little_bytes 4 (sender_of p side)
    ++ (little_bytes 4 s.sn ++ (little_bytes 4 s.cs ++ (little_bytes 4 s.ts ++ (little_bytes 4 s.cts
    ++ payload_of s.body)))))))

-- the safety code over these bytes: the first bytes of their MD4 digest from the recorded start words
abbrev pub code_over : Parameters → List ℕ → List ℕ
code_over p bytes = take p.code_length (md4 p.md4_start bytes)

-- the safety code of a safety PDU
abbrev pub code_of : Parameters → Side → SafetyPdu → List ℕ
code_of p side s = code_over p (uncoded_bytes p side s)

-- how many bytes a datagram has
abbrev pub length_of : Parameters → RedundancyPdu → ℕ
length_of p r = 36 + length (payload_of r.safety.body) + p.code_length + length r.check_bytes

-- the datagram: its length, the reserve, the number, the safety PDU with its code, and the check code
unfoldable pub redundancy_bytes : Parameters → Side → RedundancyPdu → List ℕ
redundancy_bytes p side r =
    little_bytes 2 (length_of p r) ++ (little_bytes 2 r.reserve ++ (little_bytes 4 r.number
    ++ ((uncoded_bytes p side r.safety ++ code_of p side r.safety) ++ r.check_bytes)))

-- a value that a connection with these parameters can send: the numbers fit their fields, the body has
-- the layout of its kind, and the check code has the recorded length
pub record IsRedundancyPdu (p : Parameters) (r : RedundancyPdu) : Type 0 where
  pub reserve : r.reserve < 2 ^ 16
  pub number : r.number < 2 ^ 32
  pub sn : r.safety.sn < 2 ^ 32
  pub cs : r.safety.cs < 2 ^ 32
  pub ts : r.safety.ts < 2 ^ 32
  pub cts : r.safety.cts < 2 ^ 32
  pub body : HasLayout (layout_of r.safety.kind) r.safety.body
  pub size : length_of p r < 2 ^ 16
  pub check_bytes : length r.check_bytes ≡ p.check_length

-- ---- the values of what the code holds

-- the value of a body that was read
abbrev pub body_of : Body (Bor (List ℕ)) → SafetyBody
body_of (OpeningBody version sendmax reserved) = Opening version sendmax reserved
body_of (ByeBody detail reason) = Bye detail reason
body_of (MessagesBody payload) = Messages payload.now
body_of EmptyBody = Empty

-- the messages of a body, in their order; other bodies have none
abbrev pub messages_in : SafetyBody → List (List ℕ)
messages_in (Messages payload) = messages_of payload
messages_in _ = []

-- the messages that an iterator has yet to give
abbrev pub messages_left : MessagesLeft → List (List ℕ)
messages_left m = messages_of m.rest.now

-- ---- reading: from bytes to the value, or the first fault

-- the number of n bytes at an offset
abbrev pub little_at : ℕ → ℕ → List ℕ → ℕ
little_at n at bytes = little_number n (drop at bytes)

-- where the check code begins
abbrev pub check_at : Parameters → List ℕ → ℕ
check_at p bytes = length bytes - p.check_length

-- where the safety code begins
abbrev pub code_at : Parameters → List ℕ → ℕ
code_at p bytes = check_at p bytes - p.code_length

-- the length field of the redundancy layer is the number of bytes
abbrev pub has_length : List ℕ → Bool
has_length bytes = nat_le 2 (length bytes) && little_at 2 0 bytes == length bytes

-- there is room for the fields and both codes
abbrev pub has_fields : Parameters → List ℕ → Bool
has_fields p bytes = nat_le (36 + p.code_length + p.check_length) (length bytes)

-- the safety PDU reaches from its length field to the check code
abbrev pub has_safety_length : Parameters → List ℕ → Bool
has_safety_length p bytes = little_at 2 8 bytes == check_at p bytes - 8

-- the body of this layout that a payload spells
abbrev pub body_in : Layout → List ℕ → Option SafetyBody
body_in OpeningFields payload =
    if length payload == 14 && is_version (take 4 payload)
    then Some (Opening (take 4 payload) (little_at 2 4 payload) (drop 6 payload)) else None
body_in ByeFields payload =
    if length payload == 4 then Some (Bye (little_at 2 0 payload) (little_at 2 2 payload)) else None
body_in MessageList payload = if are_messages payload then Some (Messages payload) else None
body_in Nothing payload = if length payload == 0 then Some Empty else None

-- the safety code is that of the bytes from the safety PDU's length field to the payload's end
abbrev pub has_code : Parameters → List ℕ → Bool
has_code p bytes =
    bytes_eq (code_over p (slice_range bytes 8 (code_at p bytes)))
    (slice_range bytes (code_at p bytes) (check_at p bytes))

-- receiver and sender are the recorded ones
abbrev pub has_ids : Parameters → Side → List ℕ → Bool
has_ids p side bytes = little_at 4 12 bytes == receiver_of p side && little_at 4 16 bytes == sender_of p side

-- what stands in a datagram of this kind and body whose check code begins there, each field at its
-- offset
abbrev pub pdu_with_body : Kind → SafetyBody → ℕ → List ℕ → RedundancyPdu
pdu_with_body kind body check bytes = record {
  reserve = little_at 2 2 bytes;
  number = little_at 4 4 bytes;
  safety = record {
    kind = kind;
    sn = little_at 4 20 bytes;
    cs = little_at 4 24 bytes;
    ts = little_at 4 28 bytes;
    cts = little_at 4 32 bytes;
    body = body;
  };
  check_bytes = drop check bytes;
}

abbrev pub refused : ℕ → Result RedundancyPdu Fault
refused number = Err (fault_at number 0)

abbrev pub decode_body : Parameters → Side → List ℕ → Kind → Option SafetyBody → Result RedundancyPdu Fault
decode_body p side bytes kind None = refused wrong_payload
decode_body p side bytes kind (Some body) =
    if has_code p bytes then
    (if has_ids p side bytes then Ok (pdu_with_body kind body (check_at p bytes) bytes) else refused wrong_ids)
    else refused wrong_code

abbrev pub decode_kind : Parameters → Side → List ℕ → Option Kind → Result RedundancyPdu Fault
decode_kind p side bytes None = refused wrong_type
decode_kind p side bytes (Some kind) =
    decode_body p side bytes kind (body_in (layout_of kind) (slice_range bytes 36 (code_at p bytes)))

-- the PDU that a datagram of this side spells, or its first fault
unfoldable pub decode_of : Parameters → Side → List ℕ → Result RedundancyPdu Fault
decode_of p side bytes =
    if has_length bytes then
    (if has_fields p bytes then
    (if has_safety_length p bytes then decode_kind p side bytes (kind_of (little_at 2 10 bytes))
    else refused safety_length)
    else refused too_short)
    else refused redundancy_length

-- ---- the value of a PDU that was read

-- the body of this layout that stands in a payload, which is judged elsewhere
abbrev pub body_at : Layout → List ℕ → SafetyBody
body_at OpeningFields payload = Opening (take 4 payload) (little_at 2 4 payload) (drop 6 payload)
body_at ByeFields payload = Bye (little_at 2 0 payload) (little_at 2 2 payload)
body_at MessageList payload = Messages payload
body_at Nothing payload = Empty

-- the value of a PDU: what stands in its datagram, each field at its offset
unfoldable pub value_of : Pdu → RedundancyPdu
value_of d =
    pdu_with_body d.kind (body_at (layout_of d.kind) (slice_range d.bytes.now 36 d.code_at)) d.check_at d.bytes.now

-- the safety code of a PDU: what stands between its payload and its check code
unfoldable pub read_code : Pdu → List ℕ
read_code d = slice_range d.bytes.now d.code_at d.check_at

-- the numbers of a value, with that of its type
abbrev pub numbers_of : RedundancyPdu → List ℕ
numbers_of r =
    type_of r.safety.kind ∷ r.reserve ∷ r.number ∷ r.safety.sn ∷ r.safety.cs ∷ r.safety.ts ∷ r.safety.cts ∷ []
