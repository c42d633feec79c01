-- What of an end stays along a run, and the worlds of a run.
use Rattle.std.proofs.Common.{◌≡◌, ℕ, suc, ◌+◌, ◌<◌, ◌≤◌, List, [], ◌∷◌, ◌++◌, length, Some, slice_get, sym, ◌∙◌, arith, ⊎_elim, subst}
use Rattle.rasta_check.proofs.Prelude.{length_push, slice_get_within, dec_lt, yes, no, Side, Client, Server, Packet, Parameters, AreParameters, Made, EndState, start_of, FirstCopy}
use Rattle.rasta_check.proofs.Prelude.{Station, World, Move, Moves, makes, repeats, takes, station_of, end_of, other_side, Reaches, begins, goes_on, KeepsRange, Appends, get_push_cases}
use Rattle.rasta_check.proofs.Prelude.{all_push, get_front, get_front_within, get_push, slice_get_some}
use Rattle.rasta_check.specs.Model.World.{Step}
use Rattle.rasta_check.proofs.Model.TakeRows.{take_made}
use Rattle.rasta_check.proofs.Model.Steps.{base, made_more, SameHanded, Grown, same_grown, grown_take}
use Rattle.rasta_check.proofs.Model.Counts.{answers_in}
use Rattle.rasta_check.proofs.Model.InvariantOfRuns.{all_held}
use Rattle.rasta_check.proofs.Script.ScriptsOfRuns.{Both, Sends, HadCrossed, Kept, all_crossed, turn, told_by, told_step, sends_count, copy_at}

both_grown : (a b c : EndState) → Grown a b → Grown b c → Grown a c
both_grown a b c g h = grind arith

-- what a step does to an end: it hands nothing up as a packet crosses, and makes at most one PDU
pub record EndStep (crossing : Type 0) (e e' : EndState) : Type 0 where
  pub same : crossing → SameHanded e e'
  pub longer : length e.made ≤ length e'.made
  pub most : length e'.made ≤ suc (length e.made)
  pub grown : answers_in e.made ≤ length e.asks → Grown e e'

pub record Stepped (v w : World) : Type 0 where
  pub less : length v.crossed ≤ length w.crossed
  pub more : length w.crossed ≤ suc (length v.crossed)
  pub ends : (side : Side) → EndStep (length w.crossed ≡ suc (length v.crossed)) (end_of v side) (end_of w side)

end_moves : (p : Parameters) (b a a' : Station) (xs ys : List Packet) {move : Move} → Moves p b xs a move a' ys
    → (length xs ≤ length ys) × (length ys ≤ suc (length xs)) × EndStep (length ys ≡ suc (length xs)) a.state a'.state
end_moves p b a a' xs ys (makes x why e' ch res chk bs mk sp rec) =
    let m = made_more p a.state x a.clock why e' mk in
    grind (arith, length_push)
end_moves p b a a' xs ys (repeats place ch old c s rec) = grind (arith, length_push, same_grown)
end_moves p b a a' xs ys (takes q m e' c i s t) = grind (arith, grown_take, take_made)
end_moves p b a a' xs ys _ = grind (arith, same_grown)

pub stepped : (p : Parameters) (v w : World) → Step p v w → Stepped v w
stepped p v w step = grind (arith, end_moves, same_grown)

-- an earlier world of the run
pub record After (p : Parameters) (v w : World) (side : Side) (own peer : List FirstCopy) : Type 0 where
  pub us : List World
  pub reached : Reaches p us v
  pub few : KeepsRange p v
  pub grown : (s : Side) → Grown (end_of v s) (end_of w s)
  pub less : length v.crossed ≤ length w.crossed
  pub told : Both p side (other_side side) v.crossed (station_of v side) (station_of v (other_side side))
  pub mine : HadCrossed (length v.crossed) own told.own
  pub theirs : HadCrossed (length v.crossed) peer told.peer

-- what a step keeps of the lists that a side and its peer have sent
told_on : (p : Parameters) (v w : World) → Step p v w → (side : Side) (g : Both p side (other_side side) v.crossed (station_of v side) (station_of v (other_side side)))
    → Kept p side (other_side side) (length v.crossed) w.crossed (station_of w side) (station_of w (other_side side)) g.own g.peer
told_on p v w st Client g = told_step p v w st g
told_on p v w st Server g = (let z = told_step p v w st (turn p Server Client v.crossed v.server v.client g) in (turn p Client Server w.crossed w.client w.server z.0, z.2, z.1))

-- what is said of each earlier world, for a side and its peer
abbrev History : Parameters → List World → World → Side → Type 0
History p ws w side = (g : Both p side (other_side side) w.crossed (station_of w side) (station_of w (other_side side)))
    × ((i : ℕ) (v : World) → slice_get (ws ++ w ∷ []) i ≡ Some v → After p v w side g.own g.peer)

with_itself : (p : Parameters) (ws : List World) (w : World) (side : Side) → Reaches p ws w → KeepsRange p w → (g : Both p side (other_side side) w.crossed (station_of w side) (station_of w (other_side side)))
    → ((i : ℕ) (v : World) → slice_get ws i ≡ Some v → After p v w side g.own g.peer) → History p ws w side
with_itself p ws w side r b g earlier = (
  g,
  all_push {P = λ i v. After p v w side g.own g.peer} ws w earlier
      (record { us = ws; reached = r; few = b; grown = λ s. same_grown (end_of w s); less = omega arith; told = g; mine = all_crossed _ g.own; theirs = all_crossed _ g.peer }),
)

pub history : (p : Parameters) (valid : AreParameters p) (ws : List World) (w : World) (side : Side) → Reaches p ws w → KeepsRange p w → History p ws w side
history p valid ws w side (begins m n) b = with_itself p [] w side (begins m n) b (told_by p valid [] w side (begins m n)) (λ i v x. absurd (cc))
history p valid ws w side (goes_on {ws = us} {w = u} r st) b = step (history p valid us u side r few)
  where
    sd : Stepped u w
    sd = stepped p u w st

    few : (s : Side) → length (end_of u s).made ≤ (start_of p s).base + 2147483647
    few s = (let z = (sd.ends s).longer in let y = b s in omega arith)

    step : History p us u side → History p (us ++ u ∷ []) w side
    step h =
        let kept = told_on p u w st side h.0 in
        let gr = λ (s : Side). (sd.ends s).grown (all_held p us u s r few).mine.held.asks.asked in
        let l = sd.less in
        with_itself p (us ++ u ∷ []) w side (goes_on r st) b kept.0
        (λ i v x. (let k = h.1 i v x in record {
          us = k.us;
          reached = k.reached;
          few = k.few;
          grown = λ s. both_grown (end_of v s) (end_of u s) (end_of w s) (k.grown s) (gr s);
          less = (let z = k.less in omega arith);
          told = k.told;
          mine = record { kept = λ j d y z. k.mine.kept j d (kept.1.kept j d y (let q = k.less in omega arith)) z; listed = λ j d y. kept.1.listed j d (k.mine.listed j d y) };
          theirs = record { kept = λ j d y z. k.theirs.kept j d (kept.2.kept j d y (let q = k.less in omega arith)) z; listed = λ j d y. kept.2.listed j d (k.theirs.listed j d y) };
        }))

-- two worlds one after the other in a run are joined by a step
pub joined : (p : Parameters) (ws : List World) (w : World) → Reaches p ws w → (i : ℕ) (u v : World) → slice_get (ws ++ w ∷ []) i ≡ Some u → slice_get (ws ++ w ∷ []) (suc i) ≡ Some v → Step p u v
joined p ws w (begins m n) i u v g h = absurd (cc)
joined p ws w (goes_on {ws = us} {w = z} r st) i u v g h = ⊎_elim
    (λ (old : slice_get (us ++ z ∷ []) (suc i) ≡ Some v). joined p us z r i u v (sym (get_front_within (us ++ z ∷ []) (w ∷ []) i (omega (arith, slice_get_within (us ++ z ∷ []) (suc i) v old))) ∙ g) old)
    (λ (new : (suc i ≡ length (us ++ z ∷ [])) × (w ≡ v)).
    let same : z ≡ u = grind (arith, g, new.0, length_push us z, get_front (us ++ z ∷ []) (w ∷ []) (length us) z (get_push us z)) in
    rw (← new.1, ← same) st)
    (get_push_cases (us ++ z ∷ []) w (suc i) v h)

pub appended : (p : Parameters) (ws : List World) (w : World) → Reaches p ws w → (k : ℕ) → k < length w.crossed → (v next : World) × Appends ws w k v next
appended p ws w (begins m n) k l = absurd (omega arith)
appended p ws w (goes_on {ws = us} {w = u} r st) k l =
    elim (dec_lt k (length u.crossed)) [
      | yes y ↦ (let a = appended p us u r k y in (a.0, a.1, record { i = a.2.i; here = get_front (us ++ u ∷ []) (w ∷ []) a.2.i a.0 a.2.here; there = get_front (us ++ u ∷ []) (w ∷ []) (suc a.2.i) a.1 a.2.there; before = a.2.before; after = a.2.after }))
      | no y ↦ (let s = stepped p u w st in let m = s.more in let q = length_push us u in
          (u, w, record { i = length us; here = get_front (us ++ u ∷ []) (w ∷ []) (length us) u (get_push us u); there = subst (λ j. slice_get ((us ++ u ∷ []) ++ w ∷ []) j ≡ Some w) (let z : length (us ++ u ∷ []) ≡ suc (length us) = omega arith in z) (get_push (us ++ u ∷ []) w); before = omega (arith, y, l, m); after = omega (arith, y, l, m) }))
    ]

-- the PDU of a copy
pub made_at : (p : Parameters) (s : Side) (xs : List Packet) (own : List FirstCopy) (e : EndState) (f j : ℕ) (d : FirstCopy) → Sends p s xs own e f → slice_get own j ≡ Some d → (m : Made) × (slice_get e.made (base p + j) ≡ Some m) × (m.pdu ≡ d.pdu.safety)
made_at p s xs own e f j d h g =
    let l = slice_get_within own j d g in
    let n = sends_count p s xs own e f h in
    let a = slice_get_some e.made (base p + j) (omega arith) in
    (a.0, a.1, grind (arith, copy_at p s xs own e f j a.0 h a.1))
