use Rattle.std.proofs.Common.{◌≡◌, ◌+◌, ◌-◌, ◌*◌, ◌≤◌, ◌^◌}
use Rattle.rasta_build.specs.Explaining
use Rattle.rasta_build.proofs.script_builder.ScriptBuilder.scan.Given as goal

-- the search from here on finds what the whole search does
abbrev pub invariant-loop-position : goal.invariant-loop-position
invariant-loop-position g l = record {
  rest : Explaining.scan (g.S.SentList.content l.peer) l.place l.made l.first (l.bound - l.first) l.fn.self
      ≡ Explaining.scan (g.S.SentList.content l.peer) l.place l.made l.position (l.bound - l.position) l.self;
  params : l.self.end.params ≡ l.fn.self.end.params;
  accepted : l.self.end.state.accepted ≤ l.fn.self.end.state.accepted + (l.position - l.first) * 2 ^ 32;
}
