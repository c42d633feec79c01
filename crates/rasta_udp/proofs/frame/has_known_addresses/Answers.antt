use Rattle.std.proofs.Common.{rules, tests, ◌∙◌, ◌||◌, Bool}
use Rattle.std.proofs.lemmas.Iterator.{YieldsList-from_slice}
use Rattle.std.proofs.lemmas.Iterator.Search.{any_from_yields_List}
use Rattle.rasta_udp.specs.declared.channel.Channel.{Channel}
use Rattle.rasta_udp.specs.Frame.{fields_of, has_addresses, has_known_addresses}
use Rattle.rasta_udp.proofs.Directions.{any_direction}
use Rattle.rasta_udp.proofs.frame.has_known_addresses.Goals as goal

pub returns : goal.returns
unfolding has_known_addresses
returns c =
    let x = fields_of c.args.frame.now in
    let between : Channel → Bool = λ h. has_addresses x h.client h.server || has_addresses x h.server h.client in
    any_from_yields_List between _ _ c.any.result c.any.ensures.ran (YieldsList-from_slice c.args.channels.now cc) (λ x b q k. search (rules, tests))
    ∙ any_direction (has_addresses x) 1 c.args.channels.now
