-- How many messages a PDU has.
use Rattle.std.proofs.Common.{ℕ, zero, suc, ◌<◌, ◌≤◌, ◌^◌, List, length, arith}
use Rattle.rasta_check.proofs.Prelude.{Side, Parameters, RedundancyPdu, Spells, messages_in}
use Rattle.rasta_pdu.specs.Messages.{after_message, messages_up_to, messages_of}
use Rattle.rasta_pdu.specs.Pdu.{SafetyBody, Opening, Bye, Messages, Empty, payload_of}

up_to_few : (n : ℕ) (xs : List ℕ) → length (messages_up_to n xs) ≤ n
up_to_few zero xs = omega arith
up_to_few (suc n) xs = (let more = up_to_few n (after_message xs) in grind arith)

few_of : (payload : List ℕ) → length (messages_of payload) ≤ length payload
unfolding messages_of
few_of payload = up_to_few (length payload) payload

few_in : (body : SafetyBody) → length (messages_in body) ≤ length (payload_of body)
few_in (Opening version sendmax reserved) = omega arith
few_in (Bye detail reason) = omega arith
few_in (Messages payload) = few_of payload
few_in Empty = omega arith

-- no more than the bytes of its datagram
pub few_messages : (p : Parameters) (side : Side) (d : RedundancyPdu) (bytes : List ℕ) → Spells p side d bytes → length (messages_in d.safety.body) < 2 ^ 16
few_messages p side d bytes spelled = omega (arith, few_in d.safety.body, spelled.fits.size)
