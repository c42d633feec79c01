use Rattle.seatmelon_audit.proofs.Counting.{few_client, few_server}
use Rattle.seatmelon_audit.proofs.answer.explained_of.Goals as goal

pub sent_by-by_client-requires : goal.sent_by-by_client-requires
sent_by-by_client-requires c = few_client c.args.store.now c.client.result c.client.ensures.crossing c.client.ensures.value

pub sent_by-by_server-requires : goal.sent_by-by_server-requires
sent_by-by_server-requires c = few_server c.args.store.now c.server.result c.server.ensures.crossing c.server.ensures.value
