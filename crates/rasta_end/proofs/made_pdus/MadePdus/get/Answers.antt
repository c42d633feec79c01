use Rattle.std.proofs.Common.{rules}
use Rattle.rasta_end.proofs.Pushing.{made_there, none_made}
use Rattle.rasta_end.proofs.made_pdus.MadePdus.get.Goals as goal

pub returns-in-Some : goal.returns-in-Some
returns-in-Some c = made_there c.self.inside.quiet c.self.inside.made.items c.self.inside.asks.items c.args.self.now c.args.index c.self.view_is c.in-Some.made.now (search rules) (search rules)

pub returns-in-None : goal.returns-in-None
returns-in-None c = none_made c.self.inside.quiet c.self.inside.made.items c.self.inside.asks.items c.args.self.now c.args.index c.self.view_is (search rules)
