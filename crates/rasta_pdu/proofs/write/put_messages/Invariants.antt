use Rattle.std.proofs.Common.{◌≡◌, ◌+◌, ◌≤◌, ◌++◌, length, drop, vec_len, vec_capacity}
use Rattle.rasta_pdu.specs.Parts.{most_bytes}
use Rattle.rasta_pdu.proofs.Payloads.{spelled}
use Rattle.rasta_pdu.proofs.write.put_messages.Given as goal

abbrev pub invariant-loop-message : goal.invariant-loop-message
invariant-loop-message l = record {
  items : l.out.items ++ spelled (drop l.message-index l.messages) ≡ l.initial.out.items ++ spelled l.messages;
  len : vec_len l.out + length (spelled (drop l.message-index l.messages)) ≡ vec_len l.initial.out + length (spelled l.messages);
  short : length (spelled (drop l.message-index l.messages)) ≤ most_bytes;
  room : vec_len l.initial.out + length (spelled l.messages) ≤ vec_capacity l.out;
  capacity : vec_capacity l.initial.out ≤ vec_capacity l.out;
}
