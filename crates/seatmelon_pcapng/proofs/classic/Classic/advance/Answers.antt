use Rattle.std.proofs.Common.{◌≡◌, ◌∙◌, sym}
use Rattle.seatmelon_pcapng.specs.Classics.{state_with}
use Rattle.seatmelon_pcapng.specs.Memory.{bytes_held, bytes_of}
use Rattle.seatmelon_pcapng.specs.Readings.{next_of}
use Rattle.seatmelon_pcapng.specs.Readings.Next.{refused}
use Rattle.seatmelon_pcapng.proofs.Comings.{told-known}
use Rattle.seatmelon_pcapng.proofs.Ways.{empty_so}
use Rattle.seatmelon_pcapng.proofs.classic.Classic.advance.Goals as goal

pub refuse-requires-clause-next : goal.refuse-requires-clause-next
refuse-requires-clause-next g c =
    let now = c.pass_blocks-coming.new.self in
    let none = empty_so (bytes_held now.held) (sym c.is_empty.ensures ∙ c.if-not-is_empty.false) in
    told-known (λ rest. next_of (state_with now rest) ≡ refused c.in-Refused.reason) (bytes_of now.blocks) (g.S.Source.remaining now.source) (c.in-Refused.ensures.tells none now.at)

pub read_on-requires-clause-wanted : goal.read_on-requires-clause-wanted
read_on-requires-clause-wanted g c =
    c.in-Wanted.ensures.tells (empty_so (bytes_held c.pass_blocks-coming.new.self.held) (sym c.is_empty.ensures ∙ c.if-not-is_empty.false))
