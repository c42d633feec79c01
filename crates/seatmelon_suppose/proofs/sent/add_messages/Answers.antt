use Rattle.std.proofs.Common.{◌≡◌, ◌∙◌, ◌∷◌, ◌++◌, ◌-◌, List, ℕ, length, ap, sym, rules}
use Rattle.rasta_pdu.specs.Pdu.{messages_left}
use Rattle.seatmelon_suppose.specs.Sent.{messages_from}
use Rattle.seatmelon_suppose.proofs.SentMessages.{message-more, still-within}
use Rattle.seatmelon_suppose.proofs.sent.add_messages.Goals as goal

pub loop-message-preserved : goal.loop-message-preserved
loop-message-preserved c =
    let old = c.loop-message.sent.items in
    let new = c.push.new.self.items in
    let left = messages_left c.next.new.self in
    let origin = c.args.origin in
    let before = c.len-before.result in
    let count : c.len.result ≡ length old = search rules in
    let first : messages_left c.loop-message._message-iterator ≡ c.in-Some._message.now ∷ left = c.in-Some.ensures.steps in
    record {
      can_next = tt;
      finite = tt;
      within = still-within before old new _ c.loop-message.invariant.within c.in_ok-push.ensures.items;
      all = message-more origin before c.len.result old new c.in-Some._message.now left c.loop-message.invariant.within count c.in_ok-push.ensures.items
          ∙ ap (λ (l : List (List ℕ)). old ++ messages_from origin (length old - before) l) (sym first) ∙ c.loop-message.invariant.all;
    }
