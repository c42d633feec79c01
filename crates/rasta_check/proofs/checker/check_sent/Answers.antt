use Rattle.std.proofs.Common.{sym}
use Rattle.rasta_check.proofs.Verdict.CallAnswers.{if_ok}
use Rattle.rasta_check.proofs.Verdict.Headline.{lent}
use Rattle.rasta_check.proofs.checker.check_sent.Goals as goal

pub returns : goal.returns
returns c =
    let k = c.args.sent.now in
    let crossing = lent k c.args.p.now c.client.result.now c.server.result.now c.requires.same c.client.ensures.value c.server.ensures.value c.len.ensures.crossing in
    record {
      verdict = rw (c.len.ensures.value, c.client.ensures.value, c.server.ensures.value) at c.check_lists.ensures.verdict;
      fits = rw (c.len.ensures.value, c.client.ensures.value, c.server.ensures.value) at c.check_lists.ensures.fits;
      refused = rw (c.len.ensures.value, c.client.ensures.value, c.server.ensures.value) at c.check_lists.ensures.refused;
      exact = rw (c.len.ensures.value, c.client.ensures.value, c.server.ensures.value) at c.check_lists.ensures.exact;
      headline = if_ok c.check_lists.result _ _ c.check_lists.ensures.headline (λ r g. g k.packets (sym c.len.ensures.value) crossing);
      sharp = if_ok c.check_lists.result _ _ c.check_lists.ensures.sharp (λ r g. g k.packets (sym c.len.ensures.value) crossing);
    }
