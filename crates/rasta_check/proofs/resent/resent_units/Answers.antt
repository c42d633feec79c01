use Rattle.std.proofs.Common.{◌∙◌, ap, sym, refl, List, [], map, rules}
use Rattle.std.proofs.lemmas.List.{nil_from_length}
use Rattle.std.proofs.lemmas.Result.{IfOk-weaker}
use Rattle.rasta_check.specs.declared.resent.Settlement.{Settlement}
use Rattle.rasta_check.specs.Internals.ResentUnits.{unit_by}
use Rattle.rasta_check.proofs.Middle.Resent.{is_listing_of_found, is_listing_of_none}
use Rattle.rasta_check.proofs.resent.resent_units.Goals as goal

pub returns-then-not-has_resent : goal.returns-then-not-has_resent
returns-then-not-has_resent c =
    is_listing_of_none c.args.base c.args.sights.now c.args.sights.now c.args.confirmations.now refl
    [] (λ r. sym (c.has_resent.ensures (search rules))) c.new.result.items refl c.new.ensures.items

pub returns-then-is_empty : goal.returns-then-is_empty
returns-then-is_empty c =
    is_listing_of_none c.args.base c.args.sights.now c.in_ok-conveyance.conveyance.sights.now c.args.confirmations.now c.in_ok-conveyance.ensures
    c.in_ok-resent.resent.items c.in_ok-resent.ensures c.new-then-is_empty.result.items (nil_from_length c.in_ok-resent.resent.items (search rules)) c.new-then-is_empty.ensures.items

pub returns : goal.returns
returns c =
    let found = c.in_ok-resent.resent.items in
    let settled = c.in_ok-settlements.settlements.items in
    IfOk-weaker c.units_by.result _ _
    (λ units h. is_listing_of_found c.args.base c.args.sights.now c.in_ok-conveyance.conveyance.sights.now c.args.confirmations.now c.in_ok-conveyance.ensures
    found c.in_ok-resent.ensures units.items settled c.in_ok-settlements.ensures
    (h ∙ ap (λ (ss : List Settlement). map (unit_by ss) c.deref-2.result.now) c.deref.ensures.value ∙ ap (map (unit_by settled)) c.deref-2.ensures.value))
    c.units_by.ensures
