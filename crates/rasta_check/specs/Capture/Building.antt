-- What a builder has stored.
use Rattle.rasta_check.specs.Capture.Crossing.{Crossing}
use Rattle.rasta_check.specs.declared.store_builder.StoreBuilder.{StoreBuilder}

abbrev pub crossed_in : StoreBuilder → Crossing
crossed_in b = b.store
