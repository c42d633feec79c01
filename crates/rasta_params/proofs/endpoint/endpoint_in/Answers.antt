use Rattle.rasta_params.proofs.EndpointLaws.{HasText-found, no_text}
use Rattle.rasta_params.proofs.endpoint.endpoint_in.Goals as goal

pub returns-clause-spelled : goal.returns-clause-spelled
returns-clause-spelled c = HasText-found c.args.text.now c.read.result c.read.ensures.value

pub returns-clause-none : goal.returns-clause-none
returns-clause-none c = no_text c.args.text.now c.read.result c.read.ensures.value
