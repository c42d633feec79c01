use Rattle.std.proofs.Common.{sym, subst}
use Rattle.std.specs.Option.{option_map}
use Rattle.rasta_pcap.specs.declared.fault.Fault.{Fault}
use Rattle.seatmelon_account.specs.Refusals.{TellsPlace}
use Rattle.seatmelon_account.proofs.Told.{refused_by, scripts_of}
use Rattle.seatmelon_account.proofs.account.judged.Goals as goal

pub returns-in-Refused-clause-told : goal.returns-in-Refused-clause-told
returns-in-Refused-clause-told c =
    let text = option_map (λ text. text.now) c.args.certificate in
    let given = scripts_of c.args.reading.now.store text c.in-Refused.fault _ c.in_ok-explanation.field-0 c.in-Refused.is c.in_ok-explanation.ensures.judged in (
      c.requires,
      refused_by c.args.reading.now.store text c.in-Refused.fault _ _ c.in_ok-explanation.field-0 c.in-Refused.is c.scripts_refusal.ensures.fault c.in_ok-explanation.ensures.judged,
      subst (λ (f : Fault). TellsPlace c.args.reading.now.store text f c.scripts_refusal.result.subject) (sym c.scripts_refusal.ensures.fault)
          (c.scripts_refusal.ensures.told text given),
    )
