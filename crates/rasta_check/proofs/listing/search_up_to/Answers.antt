use Rattle.std.proofs.Common.{rules, of_calls, nat_le}
use Rattle.std.proofs.lemmas.Fn.{always_returns_same}
use Rattle.rasta_check.specs.declared.sights.Sight.{Sight}
use Rattle.rasta_check.proofs.Middle.Counts.{rise_parted, point_is_count}
use Rattle.rasta_check.proofs.listing.search_up_to.Goals as goal

pub returns-clause-value : goal.returns-clause-value
returns-clause-value c r =
    let point = c.partition_point.ensures.partitioned (λ (s : Sight). nat_le s.key c.args.key) (always_returns_same _ _ _ (λ a q f k. search (rules, of_calls)))
    (rise_parted c.args.key c.args.sights.now r) in
    point_is_count c.args.key c.args.sights.now c.partition_point.result c.partition_point.ensures.bound point r
