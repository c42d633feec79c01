use Rattle.std.proofs.Common.{◌≡◌, ◌∙◌, ◌++◌, ◌∷◌, [], List, inr, sym, ap, drop, length-append, ◌+◌, arith}
use Rattle.std.proofs.lemmas.Grind.{common_steps}
use Rattle.rasta_udp.specs.declared.channel.Channel.{Channel}
use Rattle.toml.specs.View.{items_view, view}
use Rattle.rasta_params.specs.Keys.{channel_of, channels_in}
use Rattle.rasta_params.proofs.Documents.{list_all-has_ports, onto, onto-end, onto-next, onto-refused}
use Rattle.rasta_params.proofs.document.read_channels.Goals as goal

pub returns-in-Err-clause-value : goal.returns-in-Err-clause-value
returns-in-Err-clause-value c = inr (onto-refused c.loop-value.channels.items c.args.values.now c.loop-value.value-index c.value-item.result c.in-Err.fault _
    (omega arith) (ap (λ v. channel_of (view v)) (sym c.value-item.is) ∙ sym c.in-Err.ensures.value) c.loop-value.invariant.0)

pub loop-value-preserved : goal.loop-value-preserved
loop-value-preserved c =
    let pushed : c.push.new.self.items ≡ c.loop-value.channels.items ++ c.in-Ok.channel ∷ [] = grind (arith, common_steps) in (
      ap (λ (cs : List Channel). onto cs (channels_in (items_view (drop (c.loop-value.value-index + 1) c.args.values.now)))) pushed
          ∙ onto-next c.loop-value.channels.items c.args.values.now c.loop-value.value-index c.value-item.result c.in-Ok.channel _
          (omega arith) (ap (λ v. channel_of (view v)) (sym c.value-item.is) ∙ sym c.in-Ok.ensures.value) c.loop-value.invariant.0,
      rw (pushed, length-append) (omega (arith, c.loop-value.invariant.1)),
      rw pushed (list_all-has_ports c.loop-value.channels.items c.in-Ok.channel c.loop-value.invariant.2 c.in-Ok.ensures.ports),
    )

pub returns-clause-value : goal.returns-clause-value
returns-clause-value c = onto-end c.loop-value.channels.items c.args.values.now c.loop-value.value-index _ (omega arith) c.loop-value.invariant.0

pub returns-clause-ports : goal.returns-clause-ports
returns-clause-ports c = c.loop-value.invariant.2
