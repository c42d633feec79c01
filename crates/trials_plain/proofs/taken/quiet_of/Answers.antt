use Rattle.std.proofs.Common.{◌∙◌, ap, sym}
use Rattle.rasta_pdu.specs.Params.{quiet_of}
use Rattle.rasta_end.specs.Starts.{quiet_pdu}
use Rattle.trials_plain.proofs.Plainly.{quiet-made}
use Rattle.trials_plain.proofs.taken.quiet_of.Goals as goal

pub returns-in-Some : goal.returns-in-Some
returns-in-Some c =
    let other = c.of-in-Some.ensures ∙ ap (quiet_of c.in-Some.quiet) c.other.ensures in
    quiet-made c.args.params.now c.args.side c.in-Some.quiet _ (sym c.quiet.ensures.value ∙ c.in-Some.is)
    (c.quiet_pdu.ensures ∙ (λ i. quiet_pdu (c.of.ensures i) (other i)))
