use Rattle.std.proofs.Common.{sym, ap, ◌∙◌}
use Rattle.rasta_pdu.specs.Messages.{messages_of}
use Rattle.rasta_pdu.proofs.Payloads.{payload_of_messages-messages_of, messages_of-payload, are_messages-payload}
use Rattle.rasta_pdu.proofs.laws.messages_are_read.Goals as goal

pub returns-clause-spelled : goal.returns-clause-spelled
returns-clause-spelled c payload are h = payload_of_messages-messages_of payload are h

pub returns-clause-read_back : goal.returns-clause-read_back
returns-clause-read_back c messages short = messages_of-payload messages short

pub returns-clause-filled : goal.returns-clause-filled
returns-clause-filled c messages short some = are_messages-payload messages short some

pub returns-clause-differ : goal.returns-clause-differ
returns-clause-differ c a b s t e = sym (messages_of-payload a s) ∙ ap messages_of e ∙ messages_of-payload b t
