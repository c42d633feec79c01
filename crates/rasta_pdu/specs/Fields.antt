-- The fields of a datagram that may end too soon.
use Rattle.std.specs.Prelude.{◌≡◌, ℕ, ◌+◌, List, length, take, slice_range, nat_le, Option, None, Some, if◌then◌else◌}
use Rattle.std.specs.Option.{option_and_then}
use Rattle.rasta_pdu.specs.declared.fields.Fields.{Fields}
use Rattle.rasta_pdu.specs.declared.kind.Kind.{Kind}
use Rattle.rasta_pdu.specs.declared.ranges.Coded.{Coded}
use Rattle.rasta_pdu.specs.Params.{Parameters}
use Rattle.rasta_pdu.specs.Pdu.{check_at, code_at, has_fields, kind_of, little_at}

-- the number of n bytes at an offset, if the bytes go so far
abbrev pub field_at : ℕ → ℕ → List ℕ → Option ℕ
field_at n at bytes = if nat_le (at + n) (length bytes) then Some (little_at n at bytes) else None

-- each field at its offset
abbrev pub fields_of : List ℕ → Fields
fields_of bytes = record {
  length = field_at 2 0 bytes;
  number = field_at 4 4 bytes;
  safety_length = field_at 2 8 bytes;
  type_number = field_at 2 10 bytes;
  receiver = field_at 4 12 bytes;
  sender = field_at 4 16 bytes;
  sn = field_at 4 20 bytes;
  cs = field_at 4 24 bytes;
  ts = field_at 4 28 bytes;
  cts = field_at 4 32 bytes;
}

-- the type, if it is one that PDUs have
abbrev pub kind_in : List ℕ → Option Kind
kind_in bytes = option_and_then kind_of (field_at 2 10 bytes)

-- the version and N_sendmax with which an opening's payload begins
abbrev pub opening_in : List ℕ → Option (List ℕ × ℕ)
opening_in payload = if nat_le 6 (length payload) then Some (take 4 payload, little_at 2 4 payload) else None

-- the detail and the reason with which a disconnection request's payload begins
abbrev pub ending_in : List ℕ → Option (ℕ × ℕ)
ending_in payload = if nat_le 4 (length payload) then Some (little_at 2 0 payload, little_at 2 2 payload) else None

-- the payload, if there is room for the fields and both codes
abbrev pub payload_in : Parameters → List ℕ → Option (List ℕ)
payload_in p bytes = if has_fields p bytes then Some (slice_range bytes 36 (code_at p bytes)) else None

-- the safety code that a datagram has, and the bytes of it that a code covers
pub record IsCoded (p : Parameters) (bytes : List ℕ) (c : Coded) : Type 0 where
  pub covered : c.covered.now ≡ slice_range bytes 8 (code_at p bytes)
  pub code : c.code.now ≡ slice_range bytes (code_at p bytes) (check_at p bytes)
