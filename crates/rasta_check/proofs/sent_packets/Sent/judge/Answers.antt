use Rattle.std.proofs.Common.{arith, List, ℕ, Option, ◌≡◌, Some, sym, ◌∙◌}
use Rattle.rasta_check.proofs.Prelude.{Side, option_map, packet_of, value_of, FirstCopy, copy_with, Crossing, sent_by}
use Rattle.rasta_check.proofs.Capture.Crossings.{is_next_pdu, place_within, repeated}
use Rattle.rasta_check.proofs.sent_packets.Sent.judge.Goals as goal

known_at : (k : Crossing) (list : List FirstCopy) (side : Side) (number given place : ℕ) (o : Option ℕ) → list ≡ sent_by k side → given ≡ number
    → o ≡ option_map (λ (x : FirstCopy). x.place) (copy_with list given) → o ≡ Some place → option_map (λ (x : FirstCopy). x.place) (copy_with (sent_by k side) number) ≡ Some place
known_at k list side number given place o l n e f = rw (← l, ← n) (sym e ∙ f)

pub has_bytes-requires : goal.has_bytes-requires
has_bytes-requires c = grind (arith, place_within, known_at)

pub returns-then-has_bytes-clause-value : goal.returns-then-has_bytes-clause-value
returns-then-has_bytes-clause-value c =
    let at = known_at c.args.self.now _ c.args.found.side _ _ _ _ c.list.ensures.value c.number-number.ensures c.place_of.ensures c.in-Some.is in
    rw c.if-has_bytes.true at
    (repeated c.args.self.now (packet_of c.args.found) (value_of c.in-Ok.pdu) c.in-Some.place c.has_bytes.result c.list.ensures.crossing (rw c.kept_params-p.ensures.value at c.in-Ok.ensures.value) at c.has_bytes.ensures)

pub returns-else-has_bytes-clause-value : goal.returns-else-has_bytes-clause-value
returns-else-has_bytes-clause-value c =
    let at = known_at c.args.self.now _ c.args.found.side _ _ _ _ c.list.ensures.value c.number-number.ensures c.place_of.ensures c.in-Some.is in
    (rw c.if-has_bytes.false at
    (repeated c.args.self.now (packet_of c.args.found) (value_of c.in-Ok.pdu) c.in-Some.place c.has_bytes.result c.list.ensures.crossing (rw c.kept_params-p.ensures.value at c.in-Ok.ensures.value) at c.has_bytes.ensures)).0

pub returns-then-is_next-clause-value : goal.returns-then-is_next-clause-value
returns-then-is_next-clause-value c =
    is_next_pdu c.args.self.now (packet_of c.args.found) c.in-Ok.pdu c.kept_params-p.ensures.crossing (rw c.kept_params-p.ensures.value at c.in-Ok.ensures.value)
    (rw c.number-number.ensures at (sym c.is_next.ensures ∙ c.if-is_next.true))
