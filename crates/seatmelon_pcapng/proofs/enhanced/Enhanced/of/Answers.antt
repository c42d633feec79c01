use Rattle.std.proofs.Common.{Some, subst}
use Rattle.seatmelon_pcapng.specs.Comings.{Tells}
use Rattle.seatmelon_pcapng.specs.declared.coming.Coming.TheVariants.{Block}
use Rattle.seatmelon_pcapng.specs.declared.order.Order.TheVariants.{Little}
use Rattle.seatmelon_pcapng.proofs.enhanced.Enhanced.of.Goals as goal

pub returns-in-Block-default-Packet : goal.returns-in-Block-default-Packet
returns-in-Block-default-Packet c =
    let found = c.in-Block-default-Packet in
    subst (λ turn. Tells (Some Little) c.args.interfaces.now c.args.bytes.now (Block found.front turn)) found.field-1-is found.ensures
