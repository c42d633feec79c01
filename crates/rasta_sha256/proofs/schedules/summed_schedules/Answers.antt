use Rattle.rasta_sha256.proofs.schedules.summed_schedules.Goals as goal

pub returns : goal.returns
returns c = c.add_constants.ensures c.args.group.now c.schedules.ensures
