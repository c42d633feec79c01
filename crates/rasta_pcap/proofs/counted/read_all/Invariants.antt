use Rattle.std.proofs.Common.{◌≡◌, ◌≤◌, vec_len}
use Rattle.std.specs.Io.KnownBytes.{Consumes}
use Rattle.rasta_pcap.proofs.counted.read_all.Given as goal

-- what was read so far is what the reader lost, with no failure
abbrev pub invariant-loop : goal.invariant-loop
invariant-loop g l =
    Consumes (g.S.Source.remaining l.fn.reader) (g.S.Source.remaining l.reader) l.bytes.items
    × (g.S.Source.failure_count l.reader ≡ g.S.Source.failure_count l.fn.reader)
    × (l.counter ≤ vec_len l.bytes)
