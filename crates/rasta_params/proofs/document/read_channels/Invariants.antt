use Rattle.std.proofs.Common.{◌≡◌, drop, length, true}
use Rattle.std.specs.List.{list_all}
use Rattle.toml.specs.View.{items_view}
use Rattle.rasta_pdu.specs.Params.{has_ports}
use Rattle.rasta_params.specs.Keys.{channels_in}
use Rattle.rasta_params.proofs.Documents.{onto}
use Rattle.rasta_params.proofs.document.read_channels.Given as goal

-- the channels so far, and those of the values that are left, are the channels; and they have ports
abbrev pub invariant-loop-value : goal.invariant-loop-value
invariant-loop-value l =
    (onto l.channels.items (channels_in (items_view (drop l.value-index l.values))) ≡ channels_in (items_view l.values))
    × (length l.channels.items ≡ l.value-index)
    × (list_all has_ports l.channels.items ≡ true)
