use Rattle.std.proofs.Common.{◌∷◌, [], List, Option, IfSome, map, subst}
use Rattle.rasta_pcap.specs.declared.fault.Side.TheVariants.{Client, Server}
use Rattle.seatmelon_reading.specs.Tapes.{taped_as}
use Rattle.seatmelon_suppose.specs.Common.{IsCommon}
use Rattle.seatmelon_suppose.specs.Filling.{IsJudged}
use Rattle.seatmelon_suppose.specs.Supposition.{AddsJudged}
use Rattle.seatmelon_suppose.specs.declared.filling.Filling.{Filling}
use Rattle.seatmelon_suppose.specs.declared.filling.Judged.{Judged}
use Rattle.seatmelon_suppose.proofs.Supposing.{supposed-so}
use Rattle.seatmelon_suppose.proofs.supposition.supposed.Goals as goal

pub returns-then-is_empty : goal.returns-then-is_empty
returns-then-is_empty c = c.unfilled.ensures c.args.params.now (map taped_as c.args.packets.now) c.args.most

pub returns-in_default : goal.returns-in_default
returns-in_default c = c.unfilled-in_default.ensures c.args.params.now (map taped_as c.args.packets.now) c.args.most

pub returns : goal.returns
returns c =
    let p = c.args.params.now in
    let packets = map taped_as c.args.packets.now in
    let most = c.args.most in
    let fillings = c.in_ok-fillings.fillings.items in
    let judged = subst (λ (o : Option Judged). IfSome o (IsJudged p packets most)) c.in-Some.is c.in_ok-first.ensures in
    let added = subst (λ (first : Filling). AddsJudged p packets most (first ∷ []) fillings) c.into_filling.ensures.same c.in_ok-fillings.ensures in
    supposed-so p packets most c.in-Some.first _ judged added c.in_ok-client_sent.ensures c.in_ok-server_sent.ensures
    (subst (λ (l : List Filling). IsCommon Client l c.in_ok-client.client.items) c.deref-3.ensures.value c.in_ok-client.ensures)
    (subst (λ (l : List Filling). IsCommon Server l c.in_ok-server.server.items) c.deref-4.ensures.value c.in_ok-server.ensures)
