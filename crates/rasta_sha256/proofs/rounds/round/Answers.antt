use Rattle.std.proofs.Common.{◌≡◌, ℕ, List, [], ◌∷◌, slice_index, ◌∙◌}
use Rattle.sha2.specs.Sha256.{add32, big_sigma1, ch, temp1}
use Rattle.rasta_sha256.proofs.Blocks.{sum_of_five}
use Rattle.rasta_sha256.proofs.rounds.round.Goals as goal

pub returns : goal.returns
returns c = λ constant word is_sum.
    let v : List ℕ = c.args.variables in
    let first : add32 (add32 (add32 (slice_index v 7) c.args.sum) c.choice.result) c.big_sigma1.result ≡ temp1 v constant word =
    (λ i. add32 (add32 (add32 (slice_index v 7) (is_sum i)) (c.choice.ensures i)) (c.big_sigma1.ensures i))
    ∙ sum_of_five (slice_index v 7) (big_sigma1 (slice_index v 4)) (ch (slice_index v 4) (slice_index v 5) (slice_index v 6)) constant word in
    (λ i.
    add32 (first i) (add32 (c.big_sigma0.ensures i) (c.majority.ensures i)) ∷ slice_index v 0 ∷ slice_index v 1 ∷ slice_index v 2
    ∷ add32 (slice_index v 3) (first i) ∷ slice_index v 4 ∷ slice_index v 5 ∷ slice_index v 6 ∷ [])
