-- A step of the table, from the parts that the code computes.
use Rattle.std.proofs.Common.{◌≡◌, ℕ, ◌+◌, ◌%◌, ◌^◌, List, [], ◌∷◌, ◌++◌, slice_index, refl, ap, sym, ◌∙◌}
use Rattle.std.specs.Prelude.{fold}
use Rattle.std.specs.Int.{w32, rotate_left}
use Rattle.std.proofs.lemmas.List.Sums.{fold-append}
use Rattle.rasta_md4.specs.Md4.{Row, compress, increased, round_1, round_2, round_3, step}

-- a step is its function's value, the sum with it, and that sum turned
pub step_is : (block r : List ℕ) (row : Row) (f sum turned : ℕ) → f ≡ row.function (slice_index r 1) (slice_index r 2) (slice_index r 3)
    → sum ≡ (slice_index r 0 + f + slice_index block row.place + row.constant) % 2 ^ 32 → turned ≡ rotate_left w32 sum row.shift
    → slice_index r 3 ∷ turned ∷ slice_index r 1 ∷ slice_index r 2 ∷ [] ≡ step block r row
unfolding step
step_is block r row f sum turned function total turn = rw (turn, total, function) refl

-- a block is its three rounds and the addition
pub compress_is : (block r r1 r2 r3 : List ℕ) → r1 ≡ fold (step block) r round_1 → r2 ≡ fold (step block) r1 round_2 → r3 ≡ fold (step block) r2 round_3
    → increased r r3 ≡ compress r block
unfolding compress
compress_is block r r1 r2 r3 e1 e2 e3 =
    let two : fold (step block) r (round_1 ++ round_2) ≡ r2 = fold-append (step block) r round_1 round_2 ∙ rw (← e1, ← e2) refl in
    let three : fold (step block) r (round_1 ++ round_2 ++ round_3) ≡ r3 = fold-append (step block) r (round_1 ++ round_2) round_3 ∙ rw (two, ← e3) refl in
    ap (increased r) (sym three)
