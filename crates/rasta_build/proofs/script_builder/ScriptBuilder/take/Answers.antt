use Rattle.std.proofs.Common.{rules, ◌≡◌, arith, ap, ◌∙◌}
use Rattle.rasta_build.proofs.Prelude.{nat_tests}
use Rattle.std.proofs.lemmas.Grind.{common_steps}
use Rattle.rasta_pdu.specs.Pdu.{value_of}
use Rattle.rasta_build.specs.Built
use Rattle.rasta_build.proofs.Effects.{take_noted}
use Rattle.rasta_build.proofs.script_builder.ScriptBuilder.take.Goals as goal

pub returns-clause-ok : goal.returns-clause-ok
returns-clause-ok c = take_noted c.note_take.result c.args.slot c.args.position (value_of c.args.pdu.now) c.args.self.now c.lead.new.self c.note_take.new.self c.progress-before.result c.note_take.ensures.ok c.progress-before.ensures (let v = ap (λ (b : Built.Built). b.next_take) c.self.view_is in omega (arith, v, c.if-position-self.false)) c.in_ok-lead.ensures.ok.0 c.in_ok-lead.ensures.ok.1 (λ h. (let e : c.progress.result ≡ c.progress-before.result = c.progress.ensures ∙ h in let q = c.eq.ensures in let z = rw e at q in first_of (grind (arith, nat_tests), grind (arith, common_steps), search rules)))
