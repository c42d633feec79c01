use Rattle.std.proofs.Common.{◌-◌, arith}
use Rattle.rasta_end.specs.State.{kinds}
use Rattle.rasta_end.proofs.Conveying.{last_units-few, length-kinds, after-response, after-unit}
use Rattle.rasta_end.proofs.made_pdus.MadePdus.units_after.Goals as goal

pub overflow_add-result : goal.overflow_add-result
overflow_add-result c =
    let k = length-kinds c.args.self.now.made in
    let l = last_units-few c.args.self.now.asks (kinds c.args.self.now.made) (c.len.result - 1) (omega (arith, k)) in
    omega (arith, k, l)

pub returns-in-RetransmissionResponse : goal.returns-in-RetransmissionResponse
returns-in-RetransmissionResponse c =
    let k = length-kinds c.args.self.now.made in
    record { room = omega arith; value = after-response c.args.self.now.asks (kinds c.args.self.now.made) c.asked_units.result c.args.kind c.in-RetransmissionResponse.is (omega (arith, k)) c.asked_units.ensures }

pub returns-in-Data : goal.returns-in-Data
returns-in-Data c =
    let k = length-kinds c.args.self.now.made in
    record { room = omega arith; value = after-unit c.args.self.now.asks (kinds c.args.self.now.made) c.last_units.result c.args.kind (grind (arith, c.in-Data.is)) (omega (arith, k)) c.last_units.ensures }
