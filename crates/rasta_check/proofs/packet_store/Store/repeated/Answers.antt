use Rattle.std.proofs.Common.{arith, subst}
use Rattle.rasta_check.proofs.Prelude.{IsCrossing}
use Rattle.rasta_check.proofs.Capture.SameBytes.{same_length}
use Rattle.rasta_check.proofs.packet_store.Store.repeated.Goals as goal

pub returns-then-found-lt8-clause-value : goal.returns-then-found-lt8-clause-value
returns-then-found-lt8-clause-value c =
    λ position copy there same. (
    let w = same_length c.args.self.now (subst IsCrossing c.self.view_is c.self.invariant.crossing) c.args.found.now.side position copy there c.args.found.now.payload.now same in omega arith
    )
