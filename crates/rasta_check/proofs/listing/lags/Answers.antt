use Rattle.std.proofs.Common.{◌≡◌, ℕ, suc, ◌-◌, ◌<◌, ◌++◌, ◌∷◌, [], Option, length, drop, reverse, ap, ◌∙◌, arith}
use Rattle.rasta_check.specs.Internals.Conveyed.{lags_of}
use Rattle.rasta_check.proofs.Middle.ListSteps.{lags_end, lags_more}
use Rattle.rasta_check.proofs.listing.lags.Goals as goal

pub loop-position-init : goal.loop-position-init
loop-position-init c =
    let xs = c.args.sights.now in
    let done = lags_end xs (length xs) (omega arith) in
    (done.0, c.new-lags.ensures.items ∙ done.1)

pub loop-position-preserved : goal.loop-position-preserved
loop-position-preserved c =
    let xs = c.args.sights.now in
    let l = c.loop-position in
    let i : ℕ = l.position - 1 in
    let within : i < length xs = omega arith in
    let next : l.position ≡ suc i = omega arith in (
      c.lag_from_next-lag.ensures,
      c.in_ok-push.ensures.items
          ∙ ap (λ (o : Option ℕ). l.lags.items ++ o ∷ []) c.lag_from_next-lag.ensures
          ∙ lags_more xs i l.lags.items within (l.invariant.1 ∙ ap (λ n. reverse (lags_of (drop n xs))) next),
    )
