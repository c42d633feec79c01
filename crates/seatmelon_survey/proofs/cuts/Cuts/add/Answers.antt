use Rattle.std.proofs.Common.{◌∙◌, ◌+◌, ap, refl, sym}
use Rattle.seatmelon_survey.specs.Cuts.{capped, count_in, one_more}
use Rattle.seatmelon_survey.proofs.CountedCuts.{TakesCut-apart, TakesCut-further}
use Rattle.seatmelon_survey.proofs.cuts.Cuts.add.Goals as goal
use Rattle.seatmelon_survey.proofs.cuts.Cuts.add.Goals.{then-has_room_for+in-Ok, else-has_room_for}

pub returns-clause-counted : goal.returns-clause-counted
returns-clause-counted c =
    elim c.if-has_room_for.branch [
      | then-has_room_for+in-Ok w ↦
          rw w.self-inside-is (rw (← c.self.view_is) (TakesCut-apart c.args.cut.now _ _ c.of-direction.result w.with-count.result c.of-direction.ensures
          (w.with-count.ensures ∙ ap (one_more c.args.cut.now) (w.count.ensures ∙ ap (λ s. count_in s c.of-direction.result) (sym c.self.view_is))) w.in-Ok.ensures.updates.0 refl
          (c.saturating_add-self-inside-2.ensures ∙ ap (λ s. capped (s.datagrams + 1)) w.self-inside-is)))
      | else-has_room_for w ↦
          rw w.self-inside-is (rw (← c.self.view_is) (TakesCut-further c.args.cut.now _ _ w.saturating_add-self-inside.ensures
          (c.saturating_add-self-inside-2.ensures ∙ ap (λ s. capped (s.datagrams + 1)) w.self-inside-is)))
    ]
