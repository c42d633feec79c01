use Rattle.std.proofs.Common.{arith}
use Rattle.rasta_check.proofs.Internals.ListPushes.{place_found}
use Rattle.rasta_check.proofs.map_list.MapList.place_of.Goals as goal

pub returns-in-Some : goal.returns-in-Some
returns-in-Some c = (let found = place_found c.self.inside.copies.entries c.args.number c.self.invariant.0 in grind arith)

pub returns-in-None : goal.returns-in-None
returns-in-None c = (let found = place_found c.self.inside.copies.entries c.args.number c.self.invariant.0 in grind arith)
