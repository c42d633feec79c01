use Rattle.std.proofs.Common.{◌≡◌, ◌∙◌, ◌++◌, ◌∷◌, [], ◌+◌, List, Bool, cond, length, length-append, subst, sym, ap, arith}
use Rattle.rasta_cert.specs.declared.entry.Entry.{Entry}
use Rattle.rasta_cert.specs.Certificate.{AreEntries, entries_text}
use Rattle.rasta_cert.proofs.Texts.{AreEntries_push, entries_text-none, entries_text_push}
use Rattle.rasta_cert.proofs.reading.read_script.Goals as goal

pub loop-entry-init : goal.loop-entry-init
loop-entry-init c =
    let none = c.new-entries.ensures.items in
    let text = c.args.text.now in
    record {
      text_is = sym (ap (λ (es : List Entry). entries_text es ++ text) none ∙ ap (λ l. l ++ text) entries_text-none);
      valid = subst AreEntries (sym none) tt;
      few = omega (arith, ap length none);
    }

pub loop-entry-preserved : goal.loop-entry-preserved
loop-entry-preserved c =
    let es = c.loop-entry.entries.items in
    let e = c.in-Some.entry in
    let found = c.in-Some.ensures.found in
    let pushed : c.push.new.self.items ≡ es ++ e ∷ [] =
    c.push.ensures.items ∙ ap (λ (b : Bool). cond b (es ++ e ∷ []) es) c.if-is_err.ensures.negation in
    let long : length (es ++ e ∷ []) ≡ length es + 1 = length-append es (e ∷ []) in
    record {
      text_is = entries_text_push es e c.args.text.now c.loop-entry.rest.now c.in-Some.after.now c.loop-entry.invariant.text_is found.text_is
          ∙ ap (λ (l : List Entry). entries_text l ++ c.in-Some.after.now) (sym pushed);
      valid = subst AreEntries (sym pushed) (AreEntries_push es e c.loop-entry.invariant.valid found.valid);
      few = omega (arith, long, ap length pushed, c.loop-entry.invariant.few, c.if-len-most.false, c.len.ensures);
    }
