use Rattle.std.proofs.Common.{List, subst, ◌∙◌}
use Rattle.std.proofs.lemmas.Result.{IfOk-weaker}
use Rattle.rasta_check.specs.declared.sights.Sight.{Sight}
use Rattle.rasta_check.specs.Middle.Shown.{IsListing}
use Rattle.rasta_check.proofs.Middle.Listed.{is_listing}
use Rattle.rasta_check.proofs.listing.shown_units.Goals as goal

pub returns : goal.returns
returns c =
    let o = c.in_ok-conveyance.conveyance in
    IfOk-weaker c.units_with.result _ _
    (λ units e. subst (λ (xs : List Sight). IsListing c.args.base xs c.args.confirmations.now units.items) c.in_ok-conveyance.ensures
    (is_listing c.args.base o.sights.now c.deref.result.now c.args.confirmations.now c.deref-2.result.now units.items
    (c.deref.ensures.value ∙ o.data_is) (λ r. c.deref-2.ensures.value ∙ c.in_ok-places.ensures r) e))
    c.units_with.ensures
