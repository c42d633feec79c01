use Rattle.std.proofs.Common.{◌≡◌, ◌+◌, ◌≤◌, length, drop}
use Rattle.rasta_pdu.specs.Parts.{most_bytes}
use Rattle.rasta_pdu.proofs.Payloads.{spelled}
use Rattle.rasta_pdu.proofs.write.messages_len.Given as goal

abbrev pub invariant-loop-message : goal.invariant-loop-message
invariant-loop-message l = record {
  most : l.len ≤ most_bytes;
  left : l.len + length (spelled (drop l.message-index l.messages)) ≡ length (spelled l.messages);
}
