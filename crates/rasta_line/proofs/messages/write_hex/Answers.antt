use Rattle.std.proofs.Common.{◌≡◌, ◌∙◌, length, arith}
use Rattle.std.proofs.lemmas.Bool.Decides.{nat_tests}
use Rattle.rasta_pcap.proofs.Sending.{Sent-all, Sent-failed, Sent-more}
use Rattle.rasta_line.proofs.Sending.{digits-none, digits-parts}
use Rattle.rasta_line.proofs.messages.write_hex.Goals as goal

pub returns-in_err-write_piece-clause-out : goal.returns-in_err-write_piece-clause-out
returns-in_err-write_piece-clause-out g c =
    Sent-failed c.from_residual.result _ _ _ c.from_residual.ensures.0 c.loop-rest.invariant.0
    (digits-parts _ _ _ _ c.split_at.ensures.front c.split_at.ensures.back) c.in_err-write_piece.ensures.out

pub loop-rest-preserved : goal.loop-rest-preserved
loop-rest-preserved g c = (
  Sent-more _ _ _ c.loop-rest.invariant.0 (digits-parts _ _ _ _ c.split_at.ensures.front c.split_at.ensures.back) c.in_ok-write_piece.ensures.out,
  c.in_ok-write_piece.ensures.written ∙ c.loop-rest.invariant.1,
)

pub returns-clause-out : goal.returns-clause-out
returns-clause-out g c =
    let empty : length c.loop-rest.rest.now ≡ 0 = grind (arith, nat_tests) in
    Sent-all c.loop-rest.invariant.0 (digits-none c.loop-rest.rest.now empty)
