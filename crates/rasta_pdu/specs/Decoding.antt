-- The datagram that a decoder keeps.
use Rattle.std.specs.Prelude.{◌≡◌, ◌⊎◌, [], Ok}
use Rattle.rasta_pdu.specs.Pdu.{RedundancyPdu, decode_of}
use Rattle.rasta_pdu.specs.declared.decoder.Decoder.TheInside.{Inside}

-- no datagram is kept, or one that decodes for the side that is kept with it
abbrev pub IsKept : Inside → Type 0
IsKept d = (d.last ≡ []) ⊎ ((r : RedundancyPdu) × (decode_of d.params.now d.side d.last ≡ Ok r))
