-- All levels: two scripts that fit tell a run.
use Rattle.std.proofs.Common.{◌≡◌, ℕ, zero, suc, ◌+◌, ◌≤◌, List, [], ◌++◌, length, Some, slice_get, take, refl, ap, sym, ◌∙◌, arith}
use Rattle.rasta_check.proofs.Prelude.{None, append-nil, append_assoc, take_all, length-take-le, slice_get_within, Side, Client, Server, Packet, Parameters, Entry, EndState}
use Rattle.rasta_check.proofs.Prelude.{start_of, FirstCopy, CrossRecorded, Station, World, other_side, station_of, end_of, at_start, Follows, first_station, Happened, Runs, starts}
use Rattle.rasta_check.proofs.Prelude.{told, makes_at, slice_get_some}
use Rattle.std.specs.Prelude.{Option}
use Rattle.rasta_check.specs.Model.World.{moved, first_world}
use Rattle.rasta_check.specs.Run.Lines.{Line, number_of}
use Rattle.rasta_check.specs.Run.Levels.{takes_lines, side_lines, packet_lines, level_lines, levels_lines, run_lines}
use Rattle.rasta_check.proofs.Capture.FaultlessLists.{IsSent}
use Rattle.rasta_check.proofs.Model.Steps.{base}
use Rattle.rasta_check.proofs.Script.Tracks.{Tracks, Drained, first_number_of, first_tracks, nothing_left, passed_by}
use Rattle.rasta_check.proofs.Run.Rests.{Above, says_all, says_on, lead_above, Left, left_on}
use Rattle.rasta_check.proofs.Run.Moves.{Many, many_moves}
use Rattle.rasta_check.proofs.Run.Takes.{drain, above_next}
use Rattle.rasta_check.proofs.Run.Packets.{next_is}
use Rattle.rasta_check.proofs.Sides.{sided}

-- ---- sides

apart : (x : Side) → x ≡ other_side x → ⊥
apart x e = grind arith

unmoved : (w : World) (x : Side) → w ≡ moved w x (station_of w x) w.crossed
unmoved w x = grind arith

crossed_then : (w : World) (x : Side) (a : Station) (ys : List Packet) → (moved w x a ys).crossed ≡ ys
crossed_then w x a ys = grind arith

-- what holds of the station that moved and of that which stood still holds of both
both : (P : Side → Station → Type 0) (w : World) (x : Side) (a : Station) (ys : List Packet) → P x a → P (other_side x) (station_of w (other_side x)) → (y : Side) → P y (station_of (moved w x a ys) y)
both P w x a ys h1 h2 y = grind arith

-- ---- a run up to a level

module _ (p : Parameters) (packets : List Packet) where
  -- a run whose lines are these, with what holds of both stations
  record Stage (k : ℕ) (P : Side → Station → Type 0) (lines : List Line) : Type 0 where
    pub world : World
    pub happened : List Happened
    pub reached : Runs p happened world
    pub crossed : world.crossed ≡ take k packets
    pub shown : told happened ≡ lines
    pub sides : (x : Side) → P x (station_of world x)

  goes_on : {j k : ℕ} {P : Side → Station → Type 0} {lines ls : List Line} {a : Station} {ys : List Packet} (Q : Side → Station → Type 0) (w : Stage j P lines) (x : Side)
      → Many p (station_of w.world (other_side x)) x w.world.crossed (station_of w.world x) ls a ys → ys ≡ take k packets
      → Q x a → Q (other_side x) (station_of w.world (other_side x)) → Stage k Q (lines ++ ls)
  goes_on {ls = ls} {a = a} {ys = ys} Q w x m e h g =
      let z = many_moves x w.world w.happened m (rw (sym (unmoved w.world x)) w.reached) in
      record {
        world = moved w.world x a ys;
        happened = z.0;
        reached = z.1;
        crossed = crossed_then w.world x a ys ∙ e;
        shown = z.2 ∙ ap (λ (l : List Line). l ++ ls) w.shown;
        sides = both Q w.world x a ys h g;
      }

  module _ (recorded : CrossRecorded p packets) (lists : Side → List FirstCopy) (scripts : Side → List Entry) (ends : Side → EndState)
      (sent : (x : Side) → IsSent p packets x (lists x)) (follows : (x : Side) → Follows p x (length packets) (lists x) (lists (other_side x)) (scripts x) (ends x)) where
    -- a side before the takes of a level, and after them
    abbrev Before : ℕ → Side → Station → Type 0
    Before k x a = Left p (length packets) k x (lists x) (lists (other_side x)) (follows x).0 (Above k) k k (scripts x) a

    abbrev After : ℕ → Side → Station → Type 0
    After k x a = Left p (length packets) k x (lists x) (lists (other_side x)) (follows x).0 (Drained k) (suc k) k (scripts x) a

    takes_done : {k : ℕ} {P : Side → Station → Type 0} {lines : List Line} {bs : List Entry} (Q : Side → Station → Type 0) (w : Stage k P lines) (x : Side) → k ≤ length packets → Before k x (station_of w.world x)
        → Tracks p (length packets) k (other_side x) (lists (other_side x)) (lists x) bs (follows (other_side x)).0 (station_of w.world (other_side x))
        → ((a : Station) → After k x a → Q x a) → Q (other_side x) (station_of w.world (other_side x)) → Stage k Q (lines ++ takes_lines k x (scripts x))
    takes_done {k = k} {lines = lines} {bs = bs} Q w x l h g q still =
        let long : length w.world.crossed ≡ k = ap length w.crossed ∙ length-take-le k packets l in
        let d = drain p packets (length packets) k x (other_side x) (lists x) (lists (other_side x)) (sent (other_side x)) (follows x).0 (follows (other_side x)).0 (station_of w.world (other_side x)) bs g w.world.crossed long
        h.rest (station_of w.world x) h.ready h.tracks in
        rw (h.says.takes k (omega arith))
        (goes_on Q w x d.1 w.crossed (q d.0 (left_on h.says (omega arith) (omega arith) d.2)) still)

    -- the client took what is due, and the server hasn't yet
    abbrev Between : ℕ → Side → Station → Type 0
    Between k Client a = After k Client a
    Between k Server a = Before k Server a

    readied : {k : ℕ} {lines : List Line} → k ≤ length packets → Stage k (Before k) lines → Stage k (After k) ((lines ++ takes_lines k Client (scripts Client)) ++ takes_lines k Server (scripts Server))
    readied {k = k} l w =
        let d = takes_done (Between k) w Client l (w.sides Client) (w.sides Server).tracks (λ a h. h) (w.sides Server) in
        takes_done (After k) d Server l (d.sides Server) (d.sides Client).tracks (λ a h. h) (d.sides Client)

    -- the lines of a side's packet are those of the packet at this place
    here_lines : (k : ℕ) (here : Packet) (rest : List Entry) → slice_get packets k ≡ Some here → makes_at k (scripts here.side) ≡ makes_at k rest
        → side_lines k here.side (number_of here) (lists here.side) rest ≡ packet_lines k (lists Client) (lists Server) (scripts Client) (scripts Server) (slice_get packets k)
    here_lines k here rest at m = rw (at, sym m) (grind arith)

    abbrev level_at : ℕ → List Line
    level_at k = level_lines packets (lists Client) (lists Server) (scripts Client) (scripts Server) k

    -- a packet more
    packet_at : {k : ℕ} {lines : List Line} (here : Packet) → slice_get packets k ≡ Some here → Stage k (Before k) lines → Stage (suc k) (Before (suc k)) (lines ++ level_at k)
    packet_at {k = k} {lines = lines} here at w =
        let x = here.side in
        let d = readied (let l = slice_get_within packets k here at in omega (arith, l)) w in
        let h = d.sides x in
        let g = d.sides (other_side x) in
        let own = follows x in
        let other = follows (other_side x) in
        let m = next_is p packets k x (lists x) (lists (other_side x)) (sent x) recorded own.0 own.2 (station_of d.world (other_side x)) here at h.rest (station_of d.world x) refl h.ready h.tracks in
        let still = passed_by p packets k (other_side x) (lists (other_side x)) (lists (other_side (other_side x))) (sent (other_side x)) other.0 g.rest (station_of d.world (other_side x)) here at (apart x) g.tracks in
        let many = rw (sym d.crossed) at m.1 in
        let made = goes_on {k = suc k} (Before (suc k)) d x many refl (left_on h.says (omega arith) (omega arith) m.2)
        (record {
          rest = g.rest;
          tracks = still;
          ready = above_next p (length packets) (other_side x) (lists (other_side x)) (lists (other_side (other_side x))) other.0 k g.rest (station_of d.world (other_side x)) still g.ready;
          says = says_on g.says (says_all (suc k) (suc k) g.rest) (omega arith) (omega arith);
        }) in
        rw (sym (here_lines k here h.rest at (h.says.makes k (omega arith)))) (simp append_assoc at made)

    abbrev all_lines : List Line
    all_lines = run_lines packets (lists Client) (lists Server) (scripts Client) (scripts Server)

    no_packet : (k : ℕ) (o : Option Packet) → k ≡ length packets → slice_get packets k ≡ o → packet_lines k (lists Client) (lists Server) (scripts Client) (scripts Server) o ≡ []
    no_packet k None l e = refl
    no_packet k (Some x) l e = absurd (let z = slice_get_within packets k x e in omega (arith, z))

    -- the levels that are left: this one, and so many more
    all_packets : (left k : ℕ) (lines : List Line) → k + left ≡ length packets → Stage k (Before k) lines
        → lines ++ levels_lines packets (lists Client) (lists Server) (scripts Client) (scripts Server) k (suc left) ≡ all_lines
        → (hs : List Happened) × (w : World) × Runs p hs w × (w.crossed ≡ packets) × ((x : Side) → end_of w x ≡ ends x) × (told hs ≡ all_lines)
    all_packets zero k lines e w q =
        let last : k ≡ length packets = omega (arith, e) in
        let d = readied (omega (arith, last)) w in (
          d.happened,
          d.world,
          d.reached,
          d.crossed ∙ take_all k packets (omega (arith, last)),
          λ x. nothing_left p packets k x (lists x) (lists (other_side x)) (sent x) (follows x).0 (station_of d.world x) (d.sides x).rest (sym last) (d.sides x).ready (d.sides x).tracks ∙ (follows x).3,
          d.shown ∙ (append_assoc lines _ _ ∙ simp (append-nil, no_packet k (slice_get packets k) last refl) at q),
        )
    all_packets (suc left) k lines e w q =
        let g = slice_get_some packets k (omega (arith, e)) in
        all_packets left (suc k) (lines ++ level_at k) (omega (arith, e)) (packet_at g.0 g.1 w)
        (append_assoc lines (level_at k) (levels_lines packets (lists Client) (lists Server) (scripts Client) (scripts Server) (suc k) (suc left)) ∙ q)

    -- two scripts that are followed tell a run
    pub told_run : (hs : List Happened) × (w : World) × Runs p hs w × (w.crossed ≡ packets) × ((x : Side) → end_of w x ≡ ends x) × (told hs ≡ all_lines)
    told_run = all_packets (length packets) 0 [] (omega arith) first refl
      where
        at : (x : Side) → Before 0 x (first_station p x (first_number_of (base p) (lists x)))
        at x = (let f = follows x in record {
          rest = scripts x;
          tracks = first_tracks p packets x (lists x) (lists (other_side x)) (scripts x) f.0 (sent x) f.1;
          ready = lead_above p (length packets) 0 (lists x) (lists (other_side x)) (at_start (start_of p x)) f.0 (scripts x) f.1 (omega arith);
          says = says_all 0 0 (scripts x);
        })

        first : Stage 0 (Before 0) []
        first = (let m = first_number_of (base p) (lists Client) in let n = first_number_of (base p) (lists Server) in record {
          world = first_world p m n;
          happened = [];
          reached = starts m n;
          crossed = refl;
          shown = refl;
          sides = sided (λ x. Before 0 x (station_of (first_world p m n) x)) (at Client) (at Server);
        })
