use Rattle.std.proofs.Common.{◌≡◌, ◌<◌, ◌-◌}
use Rattle.rasta_build.specs.Explaining
use Rattle.rasta_build.proofs.peer.Peer.last_response.Given as goal

-- the last response among the positions before this one, which goes no further than to the end
abbrev pub invariant-loop-position : goal.invariant-loop-position
invariant-loop-position g l = record {
  last : l.found ≡ Explaining.last_response l.self.quiet_sn (g.S.SentList.content l.list) l.next (l.position - l.next);
  most : l.bound < l.next → l.position ≡ l.next;
}
