use Rattle.std.proofs.Common.{◌≡◌, ℕ, Some, sym, ◌∙◌, ap, subst, inl, inr}
use Rattle.rasta_pcap.specs.declared.fault.Fault.{Fault}
use Rattle.rasta_pdu.specs.Pdu.{SafetyPdu, value_of}
use Rattle.rasta_end.specs.TakeRule.{IsTakeRefusal, take_fault}
use Rattle.rasta_build.proofs.Prelude.{Parameters, EndState, Built}
use Rattle.rasta_build.specs.declared.stuck.Stuck.TheVariants.{Unexplained}
use Rattle.rasta_build.specs.Choices.{stuck_by}
use Rattle.rasta_build.proofs.script_builder.ScriptBuilder.lead.Goals.{in-Ok, in-Err}
use Rattle.rasta_build.proofs.script_builder.ScriptBuilder.lead.Goals as goal

-- a take that is refused for another reason than memory has a fault
unexplained : (p : Parameters) (e : EndState) (x : SafetyPdu) (fault : Fault) → IsTakeRefusal p e x fault → stuck_by fault ≡ Unexplained
    → (number : ℕ) × (take_fault p e e.clock ≡ Some number)
unexplained p e x fault (inl refused) h = (refused.0, refused.1)
unexplained p e x fault (inr memory) h = absurd (let same = ap stuck_by memory.2 in let clash = sym same ∙ h in cc)

pub returns-clause-err : goal.returns-clause-err
returns-clause-err c =
    elim c.match-take.branch [
      | in-Ok w ↦ rw w.result-is tt
      | in-Err w ↦
          let x = (value_of c.args.pdu.now).safety in
          let refusal = subst (λ (b : Built). IsTakeRefusal b.end.params b.end.state x w.in-Err.fault) c.self.view_is w.in-Err.ensures.err.1 in
          rw w.result-is (λ is. unexplained c.args.self.now.end.params c.args.self.now.end.state x w.in-Err.fault refusal (sym w.from.ensures ∙ sym w.of.ensures ∙ is))
    ]
