-- A section, as far as it was read.
use Rattle.std.specs.Prelude.{List, Option}
use Rattle.seatmelon_pcapng.specs.declared.interface.Interface.{Interface}
use Rattle.seatmelon_pcapng.specs.declared.link_types.LinkTypes.{LinkTypes}
use Rattle.seatmelon_pcapng.specs.declared.order.Order.{Order}
use Rattle.seatmelon_pcapng.specs.declared.section.Section.{Section}

abbrev pub order_in : Section → Option Order
order_in s = s.order

abbrev pub interfaces_in : Section → List Interface
interfaces_in s = s.interfaces.items

-- the link types of the first packets, of this section and those before it, that aren't frames of Ethernet
abbrev pub link_types_met : Section → LinkTypes
link_types_met s = s.met
