use Rattle.std.proofs.Common.{◌≡◌, ◌<◌, ◌-◌, ◌^◌, Some}
use Rattle.rasta_build.proofs.Prelude.{accept_from}
use Rattle.rasta_build.proofs.script_builder.ScriptBuilder.accept_range.Given as goal

-- the positions before this one are accepted
abbrev pub invariant-loop-position : goal.invariant-loop-position
invariant-loop-position g l = record {
  accepts : accept_from (g.S.SentList.content l.peer) l.slot l.first (l.position - l.first) l.fn.self ≡ Some l.self;
  most : l.bound < l.first → l.position ≡ l.first;
  params : l.self.end.params ≡ l.fn.self.end.params;
  accepted : l.self.end.state.accepted < 2 ^ 62;
}
