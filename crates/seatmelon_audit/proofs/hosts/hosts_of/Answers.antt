use Rattle.std.proofs.Common.{◌∙◌, ap, sym}
use Rattle.std.proofs.lemmas.List.{take_rest}
use Rattle.rasta_udp.specs.Frame.{fields_of}
use Rattle.seatmelon_audit.specs.Hosts.{hosts_in}
use Rattle.seatmelon_audit.proofs.Frames.{hosts_tagged}
use Rattle.seatmelon_audit.proofs.hosts.hosts_of.Goals as goal

pub returns-then-is_tagged : goal.returns-then-is_tagged
returns-then-is_tagged c =
    let f = c.args.frame.now in
    c.untagged_hosts.ensures ∙ ap (λ l. hosts_in (fields_of l)) (take_rest f 4) ∙ hosts_tagged f (sym c.is_tagged.ensures ∙ c.if-is_tagged.true)
