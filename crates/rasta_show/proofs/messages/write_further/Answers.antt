use Rattle.std.proofs.Common.{◌∙◌, ◌∷◌, [], ap, refl}
use Rattle.rasta_show.specs.Lines.{further_text}
use Rattle.rasta_pcap.proofs.Sending.{Sent-failed, Sent-more}
use Rattle.rasta_show.proofs.messages.write_further.Goals as goal

pub returns-in_err-write_all-clause-out : goal.returns-in_err-write_all-clause-out
returns-in_err-write_all-clause-out g c =
    Sent-failed c.from_residual.result (44 ∷ []) _ _ c.from_residual.ensures.0 c.loop-message.invariant.2 (ap further_text c.in-Some.ensures.steps) c.in_err-write_all.ensures.out

pub loop-message-preserved : goal.loop-message-preserved
loop-message-preserved g c =
    let comma = Sent-more (44 ∷ []) _ _ c.loop-message.invariant.2 (ap further_text c.in-Some.ensures.steps) c.in_ok-write_all.ensures.out in (
      tt,
      tt,
      Sent-more _ _ _ comma refl c.in_ok-write_message.ensures.out,
      c.in_ok-write_message.ensures.written ∙ c.in_ok-write_all.ensures.written ∙ c.loop-message.invariant.3,
    )

pub returns-in_err-write_message-clause-out : goal.returns-in_err-write_message-clause-out
returns-in_err-write_message-clause-out g c =
    let comma = Sent-more (44 ∷ []) _ _ c.loop-message.invariant.2 (ap further_text c.in-Some.ensures.steps) c.in_ok-write_all.ensures.out in
    Sent-failed c.from_residual-in_err-write_message.result _ _ _ c.from_residual-in_err-write_message.ensures.0 comma refl c.in_err-write_message.ensures.out
