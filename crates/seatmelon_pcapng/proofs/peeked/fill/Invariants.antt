use Rattle.std.proofs.Common.{◌≡◌, ◌≤◌, ◌-◌, length, take}
use Rattle.std.specs.Io.KnownBytes.{Consumes}
use Rattle.rasta_pcap.specs.Noting.{NotesOn}
use Rattle.seatmelon_pcapng.proofs.peeked.fill.Given as goal

-- what the buffer begins with is what the source lost and noted, with no failure
abbrev pub invariant-loop-filled : goal.invariant-loop-filled
invariant-loop-filled g l = record {
  within : l.filled ≤ l.len;
  consumed : Consumes (g.S.Source.remaining l.fn.source) (g.S.Source.remaining l.source) (take l.filled l.buf);
  steady : g.S.Source.failure_count l.source ≡ g.S.Source.failure_count l.fn.source;
  size : length l.buf ≡ length l.fn.buf;
  noted : NotesOn g.S.Source.notes l.fn.source l.source (take l.filled l.buf);
}

abbrev pub decreases-loop-filled : goal.decreases-loop-filled
decreases-loop-filled g l = l.len - l.filled
