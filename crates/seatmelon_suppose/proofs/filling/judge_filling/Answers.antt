use Rattle.std.proofs.Common.{◌≡◌, List, Option, None, IfSome, map, rules, subst, true}
use Rattle.seatmelon_reading.specs.Tapes.{taped_as}
use Rattle.seatmelon_suppose.specs.Filling.{AreLists, MayBeJudged}
use Rattle.seatmelon_suppose.specs.Mending.{IsMended}
use Rattle.seatmelon_suppose.specs.declared.filling.Lists.{Lists}
use Rattle.seatmelon_suppose.specs.declared.supposed.Supposed.{Supposed}
use Rattle.seatmelon_suppose.proofs.filling.judge_filling.Goals as goal

pub returns : goal.returns
returns c =
    let p = c.args.params.now in
    let packets = map taped_as c.args.packets.now in
    let m = c.in_ok-mended.mended in
    let passed : c.may_be_judged.result ≡ true = search rules in
    let none : m.stop ≡ None = search rules in
    let may = subst (λ (pdus : List Supposed). MayBeJudged packets c.args.most pdus) c.deref.ensures.value (c.may_be_judged.ensures.0 passed) in
    let crossed = subst (λ (pdus : List Supposed). IsMended p packets pdus packets m.store m.origins.items) c.deref-2.ensures.value (c.in_ok-mended.ensures none) in
    let lists = subst (λ (o : Option Lists). IfSome o (AreLists m.store m.origins.items)) c.in-Some-2.is c.in_ok-lists.ensures in record {
      few = may.few;
      inside = may.inside;
      crossed = crossed.crossed;
      origins = crossed.origins;
      lists = lists;
    }
