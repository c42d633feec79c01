use Rattle.std.proofs.Common.{Option, IfSome, map, subst}
use Rattle.seatmelon_reading.specs.Tapes.{taped_as}
use Rattle.seatmelon_suppose.specs.Filling.{IsJudged}
use Rattle.seatmelon_suppose.specs.declared.filling.Judged.{Judged}
use Rattle.seatmelon_suppose.proofs.Supposing.{adds-one}
use Rattle.seatmelon_suppose.proofs.supposition.Ways.add_way.Goals as goal

pub returns : goal.returns
returns c =
    let p = c.args.self.params.now in
    let packets = map taped_as c.args.self.packets.now in
    let most = c.args.self.most in
    let judged = subst (λ (o : Option Judged). IfSome o (IsJudged p packets most)) c.in-Some.is c.in_ok-judged.ensures in
    adds-one p packets most c.args.fillings.now.items c.add.new.fillings.items c.into_filling.result c.in_ok-add.ensures
    (c.into_filling.ensures.judged p packets most judged)
