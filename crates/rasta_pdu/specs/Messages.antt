-- The messages of a payload: how they are spelled, and how they are read.
use Rattle.std.specs.Prelude.{ℕ, zero, suc, ◌+◌, ◌<◌, ◌^◌, List, [], ◌∷◌, ◌++◌, length, drop, slice_range, slice_index}
use Rattle.std.specs.Prelude.{slice_index_or, Bool, ◌&&◌, nat_lt, nat_le, ◌==◌, if◌then◌else◌}
use Rattle.byteorder.specs.Endian.{little_bytes, little_number}

-- each of the list is a byte
pub record AreBytes (xs : List ℕ) : Type 0 where
  pub fits : (i : ℕ) → slice_index xs i < 256

-- the length of each message fits its field
pub record AreShort (ms : List (List ℕ)) : Type 0 where
  pub short : (i : ℕ) → length (slice_index_or ms i []) < 2 ^ 16

-- each message is its length and its bytes
abbrev pub payload_of_messages : List (List ℕ) → List ℕ
payload_of_messages [] = []
payload_of_messages (m ∷ ms) = little_bytes 2 (length m) ++ (m ++ payload_of_messages ms)

-- the bytes end no sooner than the message that begins there
abbrev pub has_message : List ℕ → Bool
has_message bytes = nat_le (2 + little_number 2 bytes) (length bytes)

-- the bytes of the message that begins there
abbrev pub first_message : List ℕ → List ℕ
first_message bytes = slice_range bytes 2 (2 + little_number 2 bytes)

-- the bytes after it
abbrev pub after_message : List ℕ → List ℕ
after_message bytes = drop (2 + little_number 2 bytes) bytes

-- at most so many messages, one after the other
abbrev pub messages_up_to : ℕ → List ℕ → List (List ℕ)
messages_up_to zero bytes = []
messages_up_to (suc n) bytes =
    if has_message bytes then first_message bytes ∷ messages_up_to n (after_message bytes) else []

-- the messages of a payload
unfoldable pub messages_of : List ℕ → List (List ℕ)
messages_of payload = messages_up_to (length payload) payload

-- what is left behind the messages of a payload
unfoldable pub behind_messages : List ℕ → List ℕ
behind_messages payload = drop (length (payload_of_messages (messages_of payload))) payload

-- there is a message, and nothing is left after the last
unfoldable pub are_messages : List ℕ → Bool
are_messages payload =
    nat_lt 0 (length payload) && length (payload_of_messages (messages_of payload)) == length payload
