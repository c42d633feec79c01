use Rattle.seatmelon_reading.proofs.pass.Pass.new.Goals as goal

pub returns-clause-noted : goal.returns-clause-noted
returns-clause-noted c = c.new-2.ensures.noted c.args.params.now c.args.without.now
