use Rattle.std.proofs.Common.{ℕ, List, length, ap, arith}
use Rattle.rasta_pdu.specs.Messages.{messages_of}
use Rattle.rasta_pdu.proofs.Payloads.{messages_of-first, messages_of-none}
use Rattle.rasta_pdu.proofs.messages.MessagesIterator.next.Goals as goal

pub returns-in_err-message-clause-steps : goal.returns-in_err-message-clause-steps
returns-in_err-message-clause-steps c =
    let none = messages_of-none c.args.self.now.rest.now c.in_err-message.ensures in
    rw c.from_residual.ensures (none, none)

pub returns-clause-steps : goal.returns-clause-steps
returns-clause-steps c =
    let first = messages_of-first c.args.self.now.rest.now c.in_ok-message.ensures.0 in
    rw (c.in_ok-message.ensures.1, c.in_ok-message.ensures.2) first

pub returns-clause-goes : goal.returns-clause-goes
returns-clause-goes c =
    let first = messages_of-first c.args.self.now.rest.now c.in_ok-message.ensures.0 in
    let after = c.in_ok-message.ensures.2 in
    let count = ap length first in
    let left = ap (λ (xs : List ℕ). length (messages_of xs)) after in
    record { on = λ _. (tt, tt, omega arith); keeps = tt; rests = λ _. tt }
