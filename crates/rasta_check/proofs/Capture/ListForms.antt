-- The sent list of the definition, with no faults, and the record that the proofs use are the same.
use Rattle.std.proofs.Common.{◌<◌, List, length, arith}
use Rattle.rasta_check.proofs.Prelude.{Side, Packet, Parameters, AreParameters, FirstCopy, Sent}
use Rattle.rasta_check.proofs.Capture.FaultlessLists.{IsSent}
use Rattle.rasta_check.proofs.Script.OneWay.{first_is_new, new_is_first}

pub to_record : (p : Parameters) (packets : List Packet) (side : Side) (sent : List FirstCopy) → AreParameters p → Sent p packets side sent → IsSent p packets side sent
to_record p packets side sent valid h =
    record {
      valid = valid;
      firsts = λ i c g. (let w = h.list.carried i c g in (w.packet, w.there, w.of_side, w.spelled));
      rising = h.list.in_order;
      numbers = h.numbers;
      copies = h.copies;
    }

pub of_record : (p : Parameters) (packets : List Packet) (side : Side) (sent : List FirstCopy) → IsSent p packets side sent → length sent < 4294967296 → Sent p packets side sent
of_record p packets side sent h few =
    let first = first_is_new p packets side sent h few in
    let all = new_is_first p packets side sent h in
    grind arith
