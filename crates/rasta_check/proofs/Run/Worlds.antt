-- Runs with what happened in them and runs of two ends go through the same worlds.
use Rattle.std.proofs.Common.{◌≡◌, List, [], ◌∷◌, ◌++◌, refl, ap, ◌∙◌}
use Rattle.rasta_check.proofs.Prelude.{map-append, Parameters, World, side_moves, Reaches, begins, goes_on, Happened, Runs, starts, does}
use Rattle.rasta_check.specs.Run.Moves.{worlds_of}

worlds_push : (hs : List Happened) (h : Happened) → worlds_of (hs ++ h ∷ []) ≡ worlds_of hs ++ h.world ∷ []
worlds_push hs h = map-append (λ (x : Happened). x.world) hs (h ∷ [])

-- what happened leads through its worlds
pub reaches_of : (p : Parameters) (hs : List Happened) (w : World) → Runs p hs w → Reaches p (worlds_of hs) w
reaches_of p hs w (starts m n) = begins m n
reaches_of p hs w (does {happened = gs} {w = v} {a = a} {after = ys} side move r d) =
    rw (worlds_push gs (record { world = v; side = side; move = move })) (goes_on (reaches_of p gs v r) (side_moves side d))

-- and where a run leads through worlds, something happened in each of them
pub runs_of : (p : Parameters) (ws : List World) (w : World) → Reaches p ws w → (hs : List Happened) × Runs p hs w × (worlds_of hs ≡ ws)
runs_of p ws w (begins m n) = ([], starts m n, refl)
runs_of p ws w (goes_on {ws = vs} {w = v} r (side_moves {move = move} side m)) =
    let z = runs_of p vs v r in
    let h : Happened = record { world = v; side = side; move = move } in
    (z.0 ++ h ∷ [], does side move z.1 m, worlds_push z.0 h ∙ ap (λ (us : List World). us ++ v ∷ []) z.2)
