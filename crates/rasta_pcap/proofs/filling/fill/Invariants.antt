use Rattle.std.proofs.Common.{◌≡◌, ◌≤◌, ◌-◌, length, take}
use Rattle.std.specs.Io.KnownBytes.{Consumes}
use Rattle.rasta_pcap.specs.Noting.{NotesOn}
use Rattle.rasta_pcap.proofs.filling.fill.Given as goal

-- what the buffer begins with is what the reader lost and noted, with no failure
abbrev pub invariant-loop-filled : goal.invariant-loop-filled
invariant-loop-filled g l = (l.filled ≤ l.len)
    × Consumes (g.S.Source.remaining l.fn.reader) (g.S.Source.remaining l.reader) (take l.filled l.buf)
    × (g.S.Source.failure_count l.reader ≡ g.S.Source.failure_count l.fn.reader)
    × (length l.buf ≡ length l.fn.buf)
    × NotesOn g.S.Source.notes l.fn.reader l.reader (take l.filled l.buf)

abbrev pub decreases-loop-filled : goal.decreases-loop-filled
decreases-loop-filled g l = l.len - l.filled
