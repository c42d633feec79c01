use Rattle.std.proofs.Common.{length}
use Rattle.rasta_pdu.proofs.route.+are_distinct_routes.Given as goal

abbrev pub decreases-are_distinct_routes : goal.decreases-are_distinct_routes
decreases-are_distinct_routes l = length l.channels.now
