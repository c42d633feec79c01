use Rattle.std.proofs.Common.{◌≤◌, length, arith}
use Rattle.rasta_check.proofs.Prelude.{other_side}
use Rattle.rasta_check.proofs.Capture.ListForms.{to_record}
use Rattle.rasta_check.proofs.Theorem.SentRuns.{hands_up, first, in_time_through}
use Rattle.rasta_check.proofs.laws.necessity.Goals as goal

pub returns : goal.returns
returns z p h ws w side own peer r a b l m =
    let few : length own ≤ 2147483647 = omega (arith, l) in
    let few_theirs : length peer ≤ 2147483647 = omega (arith, m) in
    let mine = to_record p w.crossed side own h.valid a in
    let theirs = to_record p w.crossed (other_side side) peer h.valid b in record {
      in_order = hands_up p ws w side own peer r mine theirs few few_theirs;
      first = first p ws w side own peer r mine theirs few few_theirs;
      in_time = λ i u v next g t. in_time_through p ws w side own peer r mine theirs few few_theirs i i u u v next (omega arith) g g t;
    }
