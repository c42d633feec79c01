use Rattle.std.proofs.Common.{◌∙◌, ◌++◌, ap}
use Rattle.rasta_pdu.specs.Parts.{lists_of}
use Rattle.rasta_pdu.specs.Pdu.{redundancy_bytes}
use Rattle.seatmelon_suppose.specs.Spelling.{pdu_with}
use Rattle.seatmelon_suppose.proofs.supposed.datagram_of.Goals as goal

pub returns : goal.returns
returns c =
    let p = c.args.params.now in
    let s = c.args.supposed in
    c.in_ok-append.ensures
    ∙ ap (λ l. l ++ redundancy_bytes p s.sender (pdu_with p s (lists_of c.deref.result.now))) c.new-datagram.ensures.items
    ∙ ap (λ m. redundancy_bytes p s.sender (pdu_with p s m)) (ap lists_of c.deref.ensures.value ∙ c.in_ok-messages.ensures)
