use Rattle.std.proofs.Common.{◌≡◌, ◌+◌, length, drop}
use Rattle.rasta_pdu.proofs.Payloads.{filled}
use Rattle.rasta_pdu.proofs.messages.behind_messages.Given as goal

abbrev pub invariant-loop-after : goal.invariant-loop-after
invariant-loop-after l =
    (filled l.payload + length l.rest ≡ filled l.rest + length l.payload)
    × (drop (filled l.payload) l.payload ≡ drop (filled l.rest) l.rest)

abbrev pub decreases-loop-after : goal.decreases-loop-after
decreases-loop-after l = length l.rest
