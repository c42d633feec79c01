use Rattle.std.proofs.Common.{rules}
use Rattle.std.proofs.lemmas.List.Sorted.{answers_always}
use Rattle.rasta_check.specs.declared.sights.Sight.{Sight}
use Rattle.rasta_check.proofs.Middle.Searches.{IsPlace, searched, gap_at_end}
use Rattle.rasta_check.proofs.seen.position_of.Goals as goal
use Rattle.rasta_check.proofs.seen.position_of.Goals.{After-binary_search_by_key}

pub returns-in-Some-clause-gap : goal.returns-in-Some-clause-gap
returns-in-Some-clause-gap c = gap_at_end c.args.sights.now c.args.key c.in-Some.last.now c.in-Some.ensures.value c.if-last-key.true

-- the closure gives a sight's key
placed : (c : After-binary_search_by_key) → IsPlace c.args.sights.now c.args.key c.binary_search_by_key.result
placed c =
    let facts = c.binary_search_by_key.ensures in
    let by_key = facts.position (λ (s : Sight). s.key) (answers_always _ _ _ (λ f a r g called. search rules)) in
    searched c.args.sights.now c.args.key c.binary_search_by_key.result facts.bound by_key

pub returns-in_default-clause-found : goal.returns-in_default-clause-found
returns-in_default-clause-found c = (placed c).0

pub returns-in_default-clause-gap : goal.returns-in_default-clause-gap
returns-in_default-clause-gap c = (placed c).1
