use Rattle.seatmelon_survey.proofs.Tables.{IsAsTableHasIt-same}
use Rattle.seatmelon_survey.proofs.places.Places.reserve.Goals as goal

pub invariant_of-self-in_err-try_reserve-2 : goal.invariant_of-self-in_err-try_reserve-2
invariant_of-self-in_err-try_reserve-2 c = IsAsTableHasIt-same _ _ c.self.inside.recent c.try_reserve.ensures.entries.2 c.self.invariant

pub returns-in_err-try_reserve-2-clause-last : goal.returns-in_err-try_reserve-2-clause-last
returns-in_err-try_reserve-2-clause-last c = rw (← c.self.view_is) c.try_reserve.ensures.entries.2

pub invariant_of-self-2 : goal.invariant_of-self-2
invariant_of-self-2 c = IsAsTableHasIt-same _ _ c.self.inside.recent c.try_reserve.ensures.entries.2 c.self.invariant

pub returns-clause-last : goal.returns-clause-last
returns-clause-last c = rw (← c.self.view_is) c.try_reserve.ensures.entries.2

pub returns-clause-opened : goal.returns-clause-opened
returns-clause-opened c = rw (← c.self.view_is) c.try_reserve-2.ensures.entries.2
