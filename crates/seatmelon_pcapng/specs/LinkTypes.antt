-- The link types of the first packets that aren't frames of Ethernet.
use Rattle.std.specs.Prelude.{None}
use Rattle.std.specs.Option.{option_or}
use Rattle.seatmelon_pcapng.specs.declared.link_types.LinkTypes.{LinkTypes}

-- where no such packet is met
abbrev pub no_link_types : LinkTypes
no_link_types = record { other = None; cooked = None }

-- those that are met first, and those that are met behind them
abbrev pub first_of : LinkTypes → LinkTypes → LinkTypes
first_of met next = record { other = option_or met.other next.other; cooked = option_or met.cooked next.cooked }
