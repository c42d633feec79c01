use Rattle.std.proofs.Common.{◌∙◌, subst, sym}
use Rattle.seatmelon_pcapng.specs.Comings.{IsCut}
use Rattle.seatmelon_pcapng.specs.Sections.{interfaces_in, order_in}
use Rattle.seatmelon_pcapng.proofs.classic.Classic.read_on.Goals as goal

pub end-requires-clause-cut : goal.end-requires-clause-cut
end-requires-clause-cut g c =
    let section = c.args.self.now.section in
    subst (λ l. IsCut (order_in section) (interfaces_in section) l) (sym ((c.in_ok-read.ensures.end c.in-0.is).0 ∙ c.make_room.ensures.kept)) c.requires.wanted.1
