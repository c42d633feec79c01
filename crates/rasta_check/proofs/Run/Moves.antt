-- Several moves of one station, one after the other, and their lines.
use Rattle.std.proofs.Common.{◌≡◌, List, [], ◌∷◌, ◌++◌, ap, sym, ◌∙◌}
use Rattle.rasta_check.proofs.Prelude.{append-nil, append_assoc, Side, Client, Server, Packet, Parameters, Station, World, other_side, station_of, Move, Moves, Happened, Runs}
use Rattle.rasta_check.proofs.Prelude.{does, lines_of_move, told}
use Rattle.rasta_check.specs.Model.World.{moved}
use Rattle.rasta_check.specs.Run.Lines.{Line, lines_in}

-- ---- lists of lines

pub told_push : (hs : List Happened) (h : Happened) → told (hs ++ h ∷ []) ≡ told hs ++ lines_in h.world h.side h.move
told_push [] h = append-nil (lines_in h.world h.side h.move)
told_push (x ∷ hs) h =
    ap (λ (l : List Line). lines_in x.world x.side x.move ++ l) (told_push hs h)
    ∙ sym (append_assoc (lines_in x.world x.side x.move) (told hs) (lines_in h.world h.side h.move))

-- ---- moves

-- several moves of one station, and their lines
pub data Many (p : Parameters) (b : Station) (s : Side) : List Packet → Station → List Line → Station → List Packet → Type 0 where
  stays : {xs : List Packet} {a : Station} → Many p b s xs a [] a xs
  moves : {xs ys zs : List Packet} {a a' a'' : Station} {ls : List Line} (m : Move) → Moves p b xs a m a' ys → Many p b s ys a' ls a'' zs → Many p b s xs a (lines_of_move s a b xs m ++ ls) a'' zs

-- one move of a side, from the world where its station is this one and that of its peer is w's
one_move : {p : Parameters} {hs : List Happened} {a a' : Station} {xs ys : List Packet} {m : Move} (side : Side) (w : World) → Runs p hs (moved w side a xs) → Moves p (station_of w (other_side side)) xs a m a' ys
    → (h : Happened) × Runs p (hs ++ h ∷ []) (moved w side a' ys) × (told (hs ++ h ∷ []) ≡ told hs ++ lines_of_move side a (station_of w (other_side side)) xs m)
one_move {hs = hs} {a = a} {xs = xs} {m = m} Client w r d = (let h : Happened = record { world = moved w Client a xs; side = Client; move = m } in (h, does Client m r d, told_push hs h))
one_move {hs = hs} {a = a} {xs = xs} {m = m} Server w r d = (let h : Happened = record { world = moved w Server a xs; side = Server; move = m } in (h, does Server m r d, told_push hs h))

pub many_moves : {p : Parameters} (side : Side) (w : World) {xs ys : List Packet} {a a' : Station} {ls : List Line} (hs : List Happened) → Many p (station_of w (other_side side)) side xs a ls a' ys
    → Runs p hs (moved w side a xs) → (gs : List Happened) × Runs p gs (moved w side a' ys) × (told gs ≡ told hs ++ ls)
many_moves side w hs stays r = (hs, r, sym (append-nil (told hs)))
many_moves side w hs (moves {xs = xs} {a = a} {ls = ls} m d k) r =
    let o = one_move side w r d in
    let z = many_moves side w (hs ++ o.0 ∷ []) k o.1 in
    (z.0, z.1, z.2 ∙ (ap (λ (l : List Line). l ++ ls) o.2 ∙ append_assoc (told hs) (lines_of_move side a (station_of w (other_side side)) xs m) ls))

pub append_many : {p : Parameters} {b : Station} {s : Side} {xs ys zs : List Packet} {a a' a'' : Station} {ls ms : List Line} → Many p b s xs a ls a' ys → Many p b s ys a' ms a'' zs → Many p b s xs a (ls ++ ms) a'' zs
append_many stays k = k
append_many (moves m d r) k = rw append_assoc (moves m d (append_many r k))

-- the same moves, with their lines and what has crossed then in another form
pub recast : {p : Parameters} {b : Station} {s : Side} {xs ys zs : List Packet} {a a' : Station} {ls ms : List Line} → ls ≡ ms → ys ≡ zs → Many p b s xs a ls a' ys → Many p b s xs a ms a' zs
recast e f m = rw (sym e, sym f) m
