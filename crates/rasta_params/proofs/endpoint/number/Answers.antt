use Rattle.std.proofs.Common.{arith}
use Rattle.rasta_params.proofs.EndpointTexts.{decimal_of-found}
use Rattle.rasta_params.proofs.endpoint.number.Goals as goal

pub returns-clause-value : goal.returns-clause-value
returns-clause-value c =
    decimal_of-found c.args.most c.args.text.now c.spelled.result (omega arith) c.spelled.ensures.found c.spelled.ensures.none
