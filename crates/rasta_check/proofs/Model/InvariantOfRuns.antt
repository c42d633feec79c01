-- Every run keeps what holds.
use Rattle.std.proofs.Common.{◌≡◌, ℕ, suc, ◌≤◌, false, List, [], length, Option, Some, None, refl, ap, sym, subst, ◌∙◌, arith}
use Rattle.rasta_check.proofs.Prelude.{length_push, Side, Client, Server, Packet, Parameters, Quiet, EndState, is_closed, after_make_by, take_fault, start_by, Station, World, Move}
use Rattle.rasta_check.proofs.Prelude.{Moves, makes, takes, side_moves, station_of, end_of, other_side, Reaches, begins, goes_on, first_station, KeepsRange}
use Rattle.rasta_pdu.specs.declared.quiet_point.QuietEnd.{QuietEnd}
use Rattle.rasta_end.specs.Starts.{sn_before, quiet_pdu, quiet_end}
use Rattle.rasta_check.proofs.Model.MakeRows.{passed, made_by, after_row, new_made}
use Rattle.rasta_check.proofs.Model.TakeRows.{take_made}
use Rattle.rasta_check.proofs.Model.NamedPositions.{SnIs}
use Rattle.rasta_check.proofs.Model.Invariant.{Held}
use Rattle.rasta_check.proofs.Model.InvariantAtMake.{own_make, peer_make}
use Rattle.rasta_check.proofs.Model.InvariantAtTake.{Taken, own_take}
use Rattle.rasta_check.proofs.Model.OfferedUnits.{Valued, valued_make, valued_take}
use Rattle.rasta_check.proofs.Model.HandedUnits.{Handed, handed_make, handed_peer, handed_take, Shown, shown_make, shown_peer_make, shown_take, shown_peer_take}
use Rattle.rasta_check.proofs.Model.Settled.{Settled, settled_make, settled_take}
use Rattle.rasta_check.proofs.Model.Steps.{start_base, base_small, grown_make, grown_take}

-- all that holds of an end e that took its peer's PDUs up to position t, and of this peer f
pub record InRun (e : EndState) (t : ℕ) (f : EndState) : Type 0 where
  pub held : Held e t f.made
  pub values : Valued e
  pub handed : Handed e f
  pub shown : Shown e f
  pub settled : Settled e

-- so it is of both stations
pub record All (a b : Station) : Type 0 where
  pub mine : InRun a.state a.mark b.state
  pub theirs : InRun b.state b.mark a.state

-- ---- the start: a fresh end, or one at a quiet point

-- each quiet PDU confirms the other
quiet_in_run : (side peer : Side) (own other : QuietEnd) → InRun (quiet_end side own other) 1 (quiet_end peer other own)
quiet_in_run side peer own other =
    let first : SnIs (quiet_end peer other own).made 0 (sn_before other.next_sn) = record { m = record { pdu = quiet_pdu other own; unit = None }; there = refl; same = refl } in
    grind arith

-- ---- the steps

-- an end that takes something owes nothing
pub free : (p : Parameters) (e : EndState) (clock : ℕ) → take_fault p e clock ≡ None → is_closed e.phase ≡ false → e.owed ≡ []
free p e clock h c = grind (arith, h, c)

abbrev Whole : Station → Station → Type 0
Whole a b = length a.state.made ≤ 2147483648 → length b.state.made ≤ 2147483648 → All a b

all_kept : (p : Parameters) (b a a' : Station) (xs ys : List Packet) (move : Move) → Moves p b xs a move a' ys → Whole a b → Whole a' b
all_kept p b a a' xs ys move (makes x why after channel reserve check bytes mk sp rec) g = λ l r. (
    let ok = passed p a.state x a.clock why mk.0 in
    let by = made_by p a.state x a.clock why ok in
    let now : after_make_by (Some by.row) a.state x a.clock ≡ after = after_row a.state x a.clock why by ∙ sym mk.1 in
    let longer = length_push a.state.made (new_made by.row a.state x) in
    let h = g (omega (arith, l, longer, ap (λ (e : EndState). length e.made) now)) r in
    let grown = grown_make p a.state x a.clock why by ok in
    subst (λ (e : EndState). All (record a { state = e }) b) now (record {
      mine = record {
        held = own_make p a.state x a.clock why a.mark b.state.made by ok h.mine.held;
        values = valued_make p a.state x a.clock why a.mark b.state.made by ok h.mine.held h.mine.values;
        handed = handed_make p a.state b.state x a.clock why a.mark by ok h.mine.held h.mine.handed;
        shown = shown_make p a.state b.state x a.clock why a.mark by ok h.mine.held h.mine.handed h.mine.shown;
        settled = settled_make p a.state x a.clock why a.mark b.state.made by ok h.mine.held h.mine.values h.mine.settled;
      };
      theirs = record {
        held = peer_make b.state b.mark a.state.made _ h.theirs.held;
        values = h.theirs.values;
        handed = handed_peer b.state a.state _ (let z = h.theirs.held.accepts in omega (arith, z.reached, z.within)) grown h.theirs.handed;
        shown = shown_peer_make b.state a.state x a.clock why by grown h.theirs.shown;
        settled = h.theirs.settled;
      };
    }))
all_kept p b a a' xs ys move (takes position m after c i s t) g = λ l r. (
    let same : after.made ≡ a.state.made = ap (λ (e : EndState). e.made) t.1 ∙ take_made p a.state m.pdu in
    let few : length a.state.made ≤ 2147483648 = rw same at l in
    let h = g few r in
    let k : Taken a.state b.state a.mark b.mark m position = record { mine = h.mine.held; theirs = h.theirs.held; there = s; above = i; few = few; few_theirs = r } in
    let fr = free p a.state a.clock t.0 in
    let grown = grown_take p a.state m.pdu h.mine.held.asks.asked in
    subst (λ (e : EndState). All (record a { state = e; mark = suc position }) b) (sym t.1) (record {
      mine = record {
        held = own_take p a.state b.state a.mark b.mark m position k fr;
        values = valued_take p a.state b.state a.mark b.mark m position k h.mine.values fr;
        handed = handed_take p a.state b.state a.mark b.mark m position k h.mine.handed h.theirs.values fr;
        shown = shown_take p a.state b.state m.pdu a.mark h.mine.held h.mine.shown;
        settled = settled_take p a.state b.state a.mark b.mark m position k h.mine.values h.mine.settled fr;
      };
      theirs = record {
        held = rw (take_made p a.state m.pdu) h.theirs.held;
        values = h.theirs.values;
        handed = handed_peer b.state a.state _ (let z = h.theirs.held.accepts in omega (arith, z.reached, z.within)) grown h.theirs.handed;
        shown = shown_peer_take p b.state a.state b.mark m position h.theirs.held s grown h.theirs.shown;
        settled = h.theirs.settled;
      };
    }))
all_kept p b a a' xs ys move _ g = λ l r. (let h = g l r in record { mine = h.mine; theirs = h.theirs })

-- ---- what each step keeps holds in every run

-- of the two stations, whichever stands first
module _ (p : Parameters) (Good : Station → Station → Type 0)
    (turned : (a b : Station) → Good a b → Good b a)
    (first : (m n : ℕ) → Good (first_station p Client m) (first_station p Server n))
    (kept : (b a a' : Station) (xs ys : List Packet) (move : Move) → Moves p b xs a move a' ys → Good a b → Good a' b) where
  of_both : (ws : List World) (w : World) → Reaches p ws w → Good w.client w.server
  of_both ws w (begins m n) = first m n
  of_both ws w (goes_on {ws = vs} {w = v} r (side_moves {a = a} {after = ys} {move = move} Client m)) = kept v.server v.client a v.crossed ys move m (of_both vs v r)
  of_both ws w (goes_on {ws = vs} {w = v} r (side_moves {a = a} {after = ys} {move = move} Server m)) = turned a v.client (kept v.client v.server a v.crossed ys move m (turned v.client v.server (of_both vs v r)))

  -- of each side and its peer
  pub always : (ws : List World) (w : World) (side : Side) → Reaches p ws w → Good (station_of w side) (station_of w (other_side side))
  always ws w side r = grind (arith, of_both)

-- ---- every run

first_in_run : (quiet : Option Quiet) (side : Side) → InRun (start_by quiet side) (start_by quiet side).base (start_by quiet (other_side side))
first_in_run None side = grind arith
first_in_run (Some q) Client = quiet_in_run Client Server q.client q.server
first_in_run (Some q) Server = quiet_in_run Server Client q.server q.client

-- no end has made more than 2^31 PDUs
pub few_made : (p : Parameters) (w : World) → KeepsRange p w → (side : Side) → length (end_of w side).made ≤ 2147483648
few_made p w within side = omega (arith, within side, start_base p.quiet side, base_small p.quiet)

pub all_held : (p : Parameters) (ws : List World) (w : World) (side : Side) → Reaches p ws w → KeepsRange p w → All (station_of w side) (station_of w (other_side side))
all_held p ws w side r within =
    always p Whole (λ a b g l m. (let h = g m l in record { mine = h.theirs; theirs = h.mine }))
    (λ m n l k. record { mine = first_in_run p.quiet Client; theirs = first_in_run p.quiet Server }) (all_kept p) ws w side r (few_made p w within side) (few_made p w within (other_side side))
