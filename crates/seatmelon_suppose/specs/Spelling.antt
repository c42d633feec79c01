-- PDUs that the tap is supposed to have missed, as they are spelled.
use Rattle.std.specs.Prelude.{ℕ, Bool, ◌||◌, List, [], ◌∷◌, take, slice_get, Option, None, Some, Result, Ok, Err}
use Rattle.std.specs.Prelude.{if◌then◌else◌}
use Rattle.rasta_pcap.specs.declared.fault.Fault.{Fault}
use Rattle.rasta_pdu.specs.Messages.{payload_of_messages}
use Rattle.rasta_pdu.specs.Params.{Parameters}
use Rattle.rasta_pdu.specs.Pdu.{Empty, Messages, RedundancyPdu, SafetyBody, decode_of, is_kind, messages_in}
use Rattle.rasta_pdu.specs.Pdu.{redundancy_bytes}
use Rattle.rasta_pdu.specs.declared.kind.Kind.{Kind}
use Rattle.rasta_pdu.specs.declared.kind.Kind.TheVariants.{Data, RetransmittedData}
use Rattle.seatmelon_reading.specs.Tapes.{NumberedPacket, numbered_with}
use Rattle.seatmelon_suppose.specs.declared.supposed.Supposed.{Supposed}

-- ---- the messages of data

abbrev pub messages_read : Result RedundancyPdu Fault → List (List ℕ)
messages_read (Ok pdu) = messages_in pdu.safety.body
messages_read (Err fault) = []

-- those of a packet
abbrev pub messages_of_packet : Parameters → Option NumberedPacket → List (List ℕ)
messages_of_packet p None = []
messages_of_packet p (Some n) = messages_read (decode_of p n.packet.side n.packet.payload)

-- those of the packet at a place among these, or else one that is empty
abbrev pub messages_like : Parameters → List NumberedPacket → Option ℕ → List (List ℕ)
messages_like p packets None = [] ∷ []
messages_like p packets (Some place) = messages_of_packet p (slice_get packets place)

-- ---- a PDU

-- data and retransmitted data have messages
abbrev pub has_messages : Kind → Bool
has_messages kind = is_kind Data kind || is_kind RetransmittedData kind

abbrev pub body_with : Kind → List (List ℕ) → SafetyBody
body_with kind messages = if has_messages kind then Messages (payload_of_messages messages) else Empty

-- check codes are zeros, of the recorded length
abbrev pub zeros : ℕ → List ℕ
zeros length = take length (0 ∷ 0 ∷ 0 ∷ 0 ∷ [])

-- what a supposed PDU says, with these messages, if it has any
abbrev pub pdu_with : Parameters → Supposed → List (List ℕ) → RedundancyPdu
pdu_with p s messages = record {
  reserve = 0;
  number = s.fields.number;
  safety = record {
    kind = s.fields.kind;
    sn = s.fields.sn;
    cs = s.fields.cs;
    ts = s.fields.ts;
    cts = s.fields.cts;
    body = body_with s.fields.kind messages;
  };
  check_bytes = zeros p.check_length;
}

-- the same with messages of one of these packets
abbrev pub pdu_supposed : Parameters → List NumberedPacket → Supposed → RedundancyPdu
pdu_supposed p packets s = pdu_with p s (messages_like p packets s.like)

-- its datagram
abbrev pub datagram_supposed : Parameters → List NumberedPacket → Supposed → List ℕ
datagram_supposed p packets s = redundancy_bytes p s.sender (pdu_supposed p packets s)

-- it crosses on the first channel, and is told of the record of this number
abbrev pub packet_supposed : Parameters → List NumberedPacket → ℕ → Supposed → NumberedPacket
packet_supposed p packets number s =
    numbered_with number (record { channel = 1; side = s.sender; payload = datagram_supposed p packets s })
