-- Each move of a run has one line.
use Rattle.std.proofs.Common.{◌≡◌, List, length, refl, arith}
use Rattle.rasta_check.proofs.Prelude.{length-append, Side, Packet, Parameters, Station, World, Move, Moves, Happened, Runs, starts, does, lines_of_move, told}
use Rattle.rasta_check.proofs.Run.Moves.{told_push}

one_line : {p : Parameters} {b a a' : Station} {xs ys : List Packet} {m : Move} (s : Side) → Moves p b xs a m a' ys → length (lines_of_move s a b xs m) ≡ 1
one_line s h = grind arith

pub one_line_each : (p : Parameters) (happened : List Happened) (w : World) → Runs p happened w → length (told happened) ≡ length happened
one_line_each p hs w (starts m n) = refl
one_line_each p hs w (does {happened = gs} {w = v} side move r d) =
    (let e = one_line_each p gs v r in let f = one_line side d in rw (told_push gs (record { world = v; side = side; move = move })) (simp length-append (omega (arith, e, f))))
