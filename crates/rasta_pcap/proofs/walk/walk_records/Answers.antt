use Rattle.std.proofs.Common.{◌∙◌, ◌+◌, ◌<◌, ap, arith, subst, sym, add-one, Bool}
use Rattle.rasta_pcap.specs.Stream.{count_in}
use Rattle.rasta_pcap.specs.Captured.{walk_of}
use Rattle.rasta_pcap.specs.Walk.{ReadsOnIf, StepsTo}
use Rattle.rasta_pcap.proofs.Noting.{PassesOn-then}
use Rattle.rasta_pcap.proofs.Walks.{most_read}
use Rattle.rasta_pcap.proofs.walk.walk_records.Goals as goal
use Rattle.rasta_pcap.proofs.walk.walk_records.Goals.{else-loop-test, then-loop-test+in_ok-visit_next+then-not-branch}

pub returns-in_err-visit_next-clause-passed : goal.returns-in_err-visit_next-clause-passed
returns-in_err-visit_next-clause-passed g c =
    PassesOn-then g.S.Source.remaining g.S.Source.notes _ c.loop.source c.visit_next.new.source c.loop.invariant.passed c.visit_next.ensures.passed

pub loop-preserved : goal.loop-preserved
loop-preserved g c =
    let more = c.if-not-branch.false in
    let on = subst (λ (b : Bool). ReadsOnIf b c.loop.records c.visit_next.new.records) more c.in_ok-visit_next.ensures.on in
    let inside : count_in c.loop.records < c.args.most = omega (arith, c.loop-test.true, c.loop.invariant.counted) in record {
      reading = on.reading;
      counted = on.count ∙ sym (add-one _) ∙ ap (λ n. n + 1) c.loop.invariant.counted;
      same = g.met.V.Visitor.same_then c.args.visitor.now c.loop.visitor c.visit_next.new.visitor c.loop.invariant.same c.visit_next.ensures.same;
      passed = PassesOn-then g.S.Source.remaining g.S.Source.notes _ c.loop.source c.visit_next.new.source c.loop.invariant.passed c.visit_next.ensures.passed;
      on_way = λ w start. subst (λ (b : Bool). StepsTo b g.V.Visitor.seen g.V.Visitor.ended w c.args.most c.visit_next.new.records (g.S.Source.remaining c.visit_next.new.source) c.visit_next.new.visitor) more
          (c.in_ok-visit_next.ensures.step w c.args.most inside c.requires.most (c.loop.invariant.on_way w start));
    }

pub returns-clause-passed : goal.returns-clause-passed
returns-clause-passed g c = elim c.loop-test.branch [
  | else-loop-test w ↦ rw w.source-is c.loop.invariant.passed
  | then-loop-test+in_ok-visit_next+then-not-branch w ↦
      rw w.source-is (PassesOn-then g.S.Source.remaining g.S.Source.notes _ c.loop.source w.visit_next.new.source c.loop.invariant.passed w.visit_next.ensures.passed)
]

pub returns-clause-seen : goal.returns-clause-seen
returns-clause-seen g c file opened begun =
    let w = walk_of c.args.most file in
    let start = c.loop.invariant.on_way w (record { done = _; reader = opened; read = begun }) in
    elim c.loop-test.branch [
      | else-loop-test h ↦
          rw h.visitor-is (most_read g.V.Visitor.seen g.V.Visitor.ended w c.args.most c.loop.records _ c.loop.visitor
          (c.loop.invariant.counted ∙ omega (arith, h.loop-test.false, c.loop.auto.counter-end)) start)
      | then-loop-test+in_ok-visit_next+then-not-branch h ↦
          let inside : count_in c.loop.records < c.args.most = omega (arith, h.loop-test.true, c.loop.invariant.counted) in
          rw h.visitor-is (subst (λ (b : Bool). StepsTo b g.V.Visitor.seen g.V.Visitor.ended w c.args.most h.visit_next.new.records (g.S.Source.remaining h.visit_next.new.source) h.visit_next.new.visitor) h.if-not-branch.true
          (h.in_ok-visit_next.ensures.step w c.args.most inside c.requires.most start))
    ]
