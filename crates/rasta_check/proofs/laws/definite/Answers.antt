use Rattle.std.proofs.Common.{refl, arith}
use Rattle.rasta_check.proofs.Capture.ListForms.{to_record}
use Rattle.rasta_check.proofs.Capture.PacketFaults.{faultless}
use Rattle.rasta_check.proofs.Capture.Crossings.{goes_on_sent, is_read}
use Rattle.rasta_check.proofs.Capture.NextPackets.{definite, can_follow}
use Rattle.rasta_check.proofs.laws.definite.Goals as goal

pub returns : goal.returns
returns z p h = record {
  in_runs = λ ws w packets rest packet sent r e s few.
      let own = to_record p packets packet.side sent h.valid s in
      faultless p packets packet.side sent packet h own (omega arith) (definite p h.valid ws w packets rest packet sent r e own (omega arith));
  goes_on = λ packets packet sent are s few n.
      let own = to_record p packets packet.side sent h.valid s in
      (_, goes_on_sent p packets sent packet own few (is_read p sent packet h.valid are n) n);
  only = λ packets rest packet sent more are s few g.
      let own = to_record p packets packet.side sent h.valid s in
      faultless p packets packet.side sent packet h own (omega arith)
      (can_follow p packets rest packet.side sent packet own (omega arith) refl more (to_record p _ packet.side more h.valid g));
}
