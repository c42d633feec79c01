-- How long the codes of a PDU are.
use Rattle.std.specs.Prelude.{◌≤◌, length}
use Rattle.rasta_pdu.specs.declared.pdu.Pdu.{Pdu}
use Rattle.rasta_pdu.specs.Pdu.{read_code, value_of}

-- a code of at most 16 bytes, and check bytes of at most 4
abbrev pub HasShortCodes : Pdu → Type 0
HasShortCodes d = (length (read_code d) ≤ 16) × (length (value_of d).check_bytes ≤ 4)
