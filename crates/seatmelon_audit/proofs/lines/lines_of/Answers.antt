use Rattle.std.proofs.Common.{◌∙◌, [], ◌∷◌, ◌++◌, List, ap, arith, subst, sym, take}
use Rattle.std.proofs.lemmas.List.{map_push, take_more}
use Rattle.rasta_pdu.specs.Params.{Parameters}
use Rattle.seatmelon_audit.specs.Lines.{AreLines, IsLine, params_of}
use Rattle.seatmelon_audit.specs.declared.line.Line.{Line}
use Rattle.seatmelon_audit.proofs.Steps.{lines_push}
use Rattle.seatmelon_audit.proofs.lines.lines_of.Goals as goal

pub loop-recorded-preserved : goal.loop-recorded-preserved
loop-recorded-preserved c =
    let old = c.loop-recorded.lines.items in
    let index = c.loop-recorded.recorded-index in
    let params = c.args.params.now in record {
      lines = subst (AreLines []) (sym c.in_ok-push.ensures.items) (lines_push (IsLine []) old c.new.result c.loop-recorded.invariant.lines c.new.ensures.line);
      params = ap params_of c.in_ok-push.ensures.items ∙ map_push (λ (l : Line). l.params) old c.new.result
          ∙ ap (λ (ps : List Parameters). ps ++ c.new.result.params ∷ []) c.loop-recorded.invariant.params
          ∙ ap (λ (p : Parameters). take index params ++ p ∷ []) (c.new.ensures.params ∙ c.recorded-item.is)
          ∙ sym (take_more params index c.recorded-item.result (omega (arith, c.loop-recorded-test.true)));
    }
