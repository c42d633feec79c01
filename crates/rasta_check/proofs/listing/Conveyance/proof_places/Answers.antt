use Rattle.std.proofs.Common.{sym, ◌∙◌}
use Rattle.std.proofs.lemmas.Option.{slice_get-get_or}
use Rattle.rasta_check.proofs.Middle.ListSteps.{places_more, places_end}
use Rattle.rasta_check.proofs.listing.Conveyance.proof_places.Goals as goal

pub loop-confirmation-preserved : goal.loop-confirmation-preserved
loop-confirmation-preserved c r =
    let l = c.loop-confirmation in
    places_more c.args.base c.args.self.now.sights.now c.args.confirmations.now l.confirmation-index _ c.ahead_by-key.result c.conveyed_through-shown.result
    l.places.items c.add_proofs.new.places.items (slice_get-get_or c.args.confirmations.now l.confirmation-index _ c.loop-confirmation-test.true)
    c.ahead_by-key.ensures (c.conveyed_through-shown.ensures r) c.in_ok-add_proofs.ensures
    ∙ l.invariant r

pub returns : goal.returns
returns c r =
    let l = c.loop-confirmation in
    sym (places_end c.args.base c.args.self.now.sights.now c.args.confirmations.now l.confirmation-index l.places.items c.loop-confirmation-test.false) ∙ l.invariant r
