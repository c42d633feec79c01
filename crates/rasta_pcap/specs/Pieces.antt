-- A reader over memory, in pieces.
use Rattle.std.specs.Prelude.{◌≡◌, ℕ, min, List, length, Result, Ok}
use Rattle.rasta_pcap.specs.declared.devices.Pieces.{Pieces}

-- the bytes that it will give
abbrev pub bytes_left : Pieces → List ℕ
bytes_left p = p.rest.now

-- how many it gives at most a call
abbrev pub most_of : Pieces → ℕ
most_of p = p.most

-- it gives as many bytes as it may, as the buffer holds and as are left
abbrev pub GivesPiece : {E : Type 0} → Pieces → List ℕ → Result ℕ E → Pieces → Type 0
GivesPiece old buffer outcome new =
    (outcome ≡ Ok (min (min (most_of old) (length buffer)) (length (bytes_left old)))) × (most_of new ≡ most_of old)
