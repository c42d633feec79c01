use Rattle.rasta_build.proofs.Theorem.{answer_complete}
use Rattle.rasta_build.proofs.Answering.{answer_fits, answer_fault}
use Rattle.rasta_build.proofs.proposal.propose_lists.Goals as goal

pub returns-clause-complete : goal.returns-clause-complete
returns-clause-complete g c = answer_complete c.args.p.now (g.S.SentList.content c.args.client.now) (g.S.SentList.content c.args.server.now) c.answer.result c.requires.crossed.2.valid c.answer.ensures

pub returns-clause-fits : goal.returns-clause-fits
returns-clause-fits g c = answer_fits c.args.p.now c.args.packets (g.S.SentList.content c.args.client.now) (g.S.SentList.content c.args.server.now) c.answer.result c.requires.crossed c.answer.ensures

pub returns-clause-refused : goal.returns-clause-refused
returns-clause-refused g c = answer_fault c.args.p.now c.args.packets (g.S.SentList.content c.args.client.now) (g.S.SentList.content c.args.server.now) c.answer.result c.requires.crossed c.answer.ensures
