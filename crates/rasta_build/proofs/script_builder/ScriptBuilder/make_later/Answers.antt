use Rattle.std.proofs.Common.{◌≡◌, suc, Some, None, rules, ◌∙◌, subst, sym}
use Rattle.rasta_build.proofs.Prelude.{make_fault, Built, clock_of}
use Rattle.std.proofs.lemmas.Result.{on_ok_weaker}
use Rattle.rasta_pdu.specs.Pdu.{value_of}
use Rattle.rasta_end.specs.MakeRule.{IsMakeRefusal}
use Rattle.rasta_build.specs.Explaining.{least_later}
use Rattle.rasta_build.proofs.LaterMakes.{never_made, is_made, made_noted}
use Rattle.rasta_build.proofs.script_builder.ScriptBuilder.make_later.Goals as goal

pub returns-in-Err-clause-err : goal.returns-in-Err-clause-err
returns-in-Err-clause-err c =
    let x = (value_of c.args.pdu.now).safety in
    let next : c.in-Some.next ≡ suc c.args.early = (let n = c.checked_add.ensures in let q = c.in-Some.is in search rules) in
    let least : c.max-least.result ≡ least_later c.args.early c.args.self.now = c.max-least.ensures ∙ (let r = c.earliest_timeout.ensures in cc) in
    let there : clock_of (least_later c.args.early c.args.self.now) x.ts ≡ Some c.in-Some-clock_from.clock = (let s = c.clock_from.ensures in let t = c.in-Some-clock_from.is in let u = c.ts.ensures in cc) in
    let fault = subst (λ (b : Built). IsMakeRefusal b.end.params b.end.state x c.in-Some-clock_from.clock c.args.why c.in-Err.fault) c.self.view_is c.in-Err.ensures.err.1 in
    λ e. never_made c.args.place x c.args.why c.in-Some-clock_from.clock c.args.self.now _ c.in-Err.fault there fault (sym c.of_make.ensures ∙ e)

pub returns-in-Ok-clause-ok : goal.returns-in-Ok-clause-ok
returns-in-Ok-clause-ok c =
    let x = (value_of c.args.pdu.now).safety in
    let next : c.in-Some.next ≡ suc c.args.early = (let n = c.checked_add.ensures in let q = c.in-Some.is in search rules) in
    let least : c.max-least.result ≡ least_later c.args.early c.args.self.now = c.max-least.ensures ∙ (let r = c.earliest_timeout.ensures in cc) in
    let there : clock_of (least_later c.args.early c.args.self.now) x.ts ≡ Some c.in-Some-clock_from.clock = (let s = c.clock_from.ensures in let t = c.in-Some-clock_from.is in let u = c.ts.ensures in cc) in
    let free : make_fault c.args.self.now.end.params c.args.self.now.end.state x c.in-Some-clock_from.clock c.args.why ≡ None =
    subst (λ (b : Built). make_fault b.end.params b.end.state x c.in-Some-clock_from.clock c.args.why ≡ None) c.self.view_is c.in-Ok.ensures.ok.0 in
    is_made c.note_make.result c.args.place x c.args.why c.in-Some-clock_from.clock c.args.self.now c.note_make.new.self _ there free
    (on_ok_weaker c.note_make.result (λ e. made_noted c.args.place x c.args.why c.in-Some-clock_from.clock _ c.args.self.now c.note_make.new.self c.make.new.self c.self.view_is c.in-Ok.ensures.ok.1 e) c.note_make.ensures.ok)
