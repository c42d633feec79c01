-- The datagram whose features are kept.
use Rattle.std.specs.Prelude.{◌≡◌, ◌⊎◌, [], Some}
use Rattle.seatmelon_packets.specs.Features.{features_by}
use Rattle.seatmelon_packets.specs.declared.recognizer.Recognizer.TheInside.{Inside}

-- no datagram is kept, or one with the features that are kept
abbrev pub IsKept : Inside → Type 0
IsKept r = (r.last ≡ []) ⊎ (features_by r.trials r.last ≡ Some r.features)
