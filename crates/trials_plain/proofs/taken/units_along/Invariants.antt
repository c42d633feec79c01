use Rattle.std.proofs.Common.{◌≡◌, ◌≤◌, drop, length, map}
use Rattle.std.specs.Prelude.{fold}
use Rattle.rasta_pdu.specs.Pdu.{SafetyPdu}
use Rattle.rasta_end.specs.Units.{convey, conveyed}
use Rattle.trials_plain.specs.Plain.{pdus, AreAtMost}
use Rattle.trials_plain.proofs.taken.units_along.Given as goal

-- what is conveyed from here on; no position conveys more units than there are positions
abbrev pub invariant-loop-pdu : goal.invariant-loop-pdu
invariant-loop-pdu l = record {
  conveyed : fold (convey l.asks.items) (record { units = l.units.items; responses = l.responses }) (map (λ (x : SafetyPdu). x.kind) (pdus (drop l.pdu-index l.own))) ≡ conveyed l.asks.items (map (λ (x : SafetyPdu). x.kind) (pdus l.own));
  few : AreAtMost (length l.units.items) l.units.items;
  responses : l.responses ≤ l.pdu-index;
}
