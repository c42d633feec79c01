use Rattle.std.specs.List.{AllZip}
use Rattle.seatmelon_audit.specs.Audits.{IsConnectionOf}
use Rattle.seatmelon_audit.proofs.audits.connections_of.Given as goal

-- the connections so far are answered
abbrev pub invariant-loop-line : goal.invariant-loop-line
invariant-loop-line l = AllZip IsConnectionOf l.yielded l.connections.items
