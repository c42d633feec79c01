use Rattle.std.proofs.Common.{[], ◌∙◌, sym}
use Rattle.seatmelon_audit.specs.Sorting.{sorted_in}
use Rattle.seatmelon_audit.specs.Ways.{ways_between}
use Rattle.seatmelon_audit.proofs.Knowing.{contains_between, names_none, names_some}
use Rattle.seatmelon_audit.proofs.ways.Ways.of_frame.Goals as goal

pub returns-in-Some : goal.returns-in-Some
returns-in-Some c params knows =
    names_some (sorted_in c.args.self.now) params knows c.args.frame.now (ways_between c.in-Some.hosts c.between.result.now) c.in-Some.hosts
    (λ w is h. contains_between c.in-Some.hosts c.between.result.now w is (c.between.ensures w is h)) (sym c.hosts_of.ensures ∙ c.in-Some.is)

pub returns-in-None : goal.returns-in-None
returns-in-None c params knows =
    names_none (sorted_in c.args.self.now) params knows c.args.frame.now [] (sym c.hosts_of.ensures ∙ c.in-None.is)
