use Rattle.std.proofs.Common.{◌≡◌, drop, reverse}
use Rattle.rasta_check.specs.Internals.Conveyed.{first_lag, lags_of}
use Rattle.rasta_check.proofs.listing.lags.Given as goal

-- the lags of the sights from here on, the last first
abbrev pub invariant-loop-position : goal.invariant-loop-position
invariant-loop-position l = (l.lag ≡ first_lag (drop l.position l.sights)) × (l.lags.items ≡ reverse (lags_of (drop l.position l.sights)))
