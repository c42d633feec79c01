use Rattle.std.proofs.Common.{◌-◌, arith, ◌∙◌}
use Rattle.rasta_end.proofs.Conveying.{last_units, length-kinds}
use Rattle.rasta_end.specs.State.{kinds}
use Rattle.rasta_end.proofs.made_pdus.MadePdus.last_units.Goals as goal

pub returns-in_default : goal.returns-in_default
returns-in_default c =
    let l = length-kinds c.args.self.now.made in
    c.units_through.ensures ∙ last_units c.args.self.now.asks (kinds c.args.self.now.made) (c.len.result - 1) (omega (arith, l))
