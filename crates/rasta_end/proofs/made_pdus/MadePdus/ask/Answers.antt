use Rattle.std.proofs.Common.{rules, ◌≡◌, [], ◌∷◌, ◌++◌}
use Rattle.rasta_end.proofs.Pushing.{asks-more}
use Rattle.rasta_end.proofs.made_pdus.MadePdus.ask.Goals as goal

pub invariant_of-self-2 : goal.invariant_of-self-2
invariant_of-self-2 c =
    let asks = c.self.inside.asks.items in
    let items : c.push.new.self.items ≡ asks ++ c.args.position ∷ [] = search rules in
    record {
      units = asks-more c.self.inside.quiet c.self.inside.made.items c.args.self.now asks c.push.new.self.items c.args.position items c.self.view_is c.requires c.self.invariant.units;
      contents = c.self.invariant.contents;
      responses = c.self.invariant.responses;
    }
