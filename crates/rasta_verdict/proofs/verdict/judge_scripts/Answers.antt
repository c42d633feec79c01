use Rattle.std.proofs.Common.{sym}
use Rattle.rasta_verdict.proofs.Judging.{is_checked, verdict_stands}
use Rattle.rasta_verdict.proofs.verdict.judge_scripts.Goals as goal

pub verdict_by-requires : goal.verdict_by-requires
verdict_by-requires c = is_checked c.params.result c.args.store.now c.args.certificate c.check_store-checked.result (sym c.params.ensures.value)
    c.check_store-checked.ensures.verdict c.check_store-checked.ensures.refused c.check_store-checked.ensures.fits c.check_store-checked.ensures.headline c.params.ensures.crossing

pub returns-clause-stands : goal.returns-clause-stands
returns-clause-stands c = verdict_stands c.verdict_by.result c.args.store.now c.args.certificate c.verdict_by.ensures.judged
