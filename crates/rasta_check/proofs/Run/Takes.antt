-- The takes that are due at a level, with their lines.
use Rattle.std.proofs.Common.{◌≡◌, ℕ, suc, ◌+◌, ◌<◌, ◌≤◌, List, [], ◌∷◌, length, refl, ap, sym, ◌∙◌, arith}
use Rattle.rasta_check.proofs.Prelude.{slice_get_within, yes, no, Side, Packet, Parameters, Entry, Take, Make, EndState, wrapped, Takes, FirstCopy, Station, ScriptCursor, Advances}
use Rattle.rasta_check.proofs.Prelude.{takes_next, Leads, arrives, takes, takes_at, slice_get_some}
use native.Mathlib.Decide.{dec_le}
use Rattle.rasta_check.specs.Model.World.{arriving, taking}
use Rattle.rasta_check.specs.Run.Levels.{take_line, brought_line, each_take, takes_lines}
use Rattle.rasta_check.proofs.Capture.FaultlessLists.{IsSent}
use Rattle.rasta_check.proofs.Script.Tracks.{Tracks, Drained, next_number}
use Rattle.rasta_check.proofs.Model.Steps.{base}
use Rattle.rasta_check.proofs.Model.TakeRows.{take_leaves}
use Rattle.rasta_check.proofs.Run.Entries.{takes_here, takes_none, takes_past}
use Rattle.rasta_check.proofs.Run.Rests.{place_of, Above, says_all, says_take, lead_above, no_takes, Left, left_on}
use Rattle.rasta_check.proofs.Run.Moves.{Many, stays, moves, append_many, recast}

module _ (p : Parameters) (n : ℕ) (s : Side) (own peer : List FirstCopy) (last : ScriptCursor) (k : ℕ) where
  -- where no take is due, the next entry lies at this level or above, and all after it above
  pub ahead : (j : ℕ) (x : Entry) (es : List Entry) (a : Station) → k ≤ j → j ≤ suc k → Tracks p n j s own peer (x ∷ es) last a → Drained k (x ∷ es) → (j ≤ place_of x) × Above (suc k) es
  ahead j x es a h1 h2 h3 h4 = grind (arith, lead_above, place_of)

  -- then the script has no take at this level
  none_due : (es : List Entry) (a : Station) → Tracks p n k s own peer es last a → Drained k es → takes_at k es ≡ []
  none_due [] a f dr = takes_none k
  none_due (Take slot number ∷ es) a f dr = no_takes k (suc k) (Take slot number ∷ es) (omega arith) (dr, (ahead k (Take slot number) es a (omega arith) (omega arith) f dr).1)
  none_due (Make place clock why ∷ es) a f dr = takes_past k place clock why es ∙ no_takes k (suc k) es (omega arith) (ahead k (Make place clock why) es a (omega arith) (omega arith) f dr).1

  -- and past the packet, nothing that is left lies below
  pub above_next : (es : List Entry) (a : Station) → Tracks p n (suc k) s own peer es last a → Drained k es → Above (suc k) es
  above_next [] a f dr = tt
  above_next (x ∷ es) a f dr = ahead (suc k) x es a (omega arith) (omega arith) f dr

-- a side beside its peer, whose station stands still
module _ (p : Parameters) (packets : List Packet) (n k : ℕ) (s r : Side) (own peer : List FirstCopy) (sent : IsSent p packets r peer) (last last' : ScriptCursor) (b : Station) (bs : List Entry) (g : Tracks p n k r peer own bs last' b)
    (xs : List Packet) (long : length xs ≡ k) where
  -- what the takes of a level leave: the lines are those of the level, and of later levels the rest says what the script says
  abbrev pub Drain : List Entry → Station → Type 0
  Drain from a = (station : Station) × Many p b s xs a (takes_lines k s from) station xs × Left p n k s own peer last (Drained k) (suc k) k from station

  one_take : (slot number : ℕ) (es : List Entry) (a : Station) (m : ScriptCursor) → (f : Tracks p n k s own peer (Take slot number ∷ es) last a) → slot ≡ k
      → Advances p n own peer (record { level = f.level; made_count = f.made_count; passed = f.passed; state = a.state }) (Take slot number) m → Leads p n own peer m es last
      → (a' : Station) × Many p b s xs a (brought_line k s number ∷ take_line k s number ∷ []) a' xs × Tracks p n k s own peer es last a'
  one_take slot number es a m f l (takes_next slot' position c e' lv le there below above t0) rest =
      let w : position < g.made_count = g.before position c there (omega (arith, below, l)) in
      let x = g.same position c there w in
      let t : Takes p a.state x.0.pdu a.clock e' = rw (x.2, f.clock) t0 in
      let left = take_leaves p a.state x.0.pdu in
      let same_made : e'.made ≡ a.state.made = ap (λ (e : EndState). e.made) t.1 ∙ left.made in
      let q : ℕ = base p + position in
      let low : b.state.base ≤ q = (let z = g.based in omega arith) in
      let passed_mark : a.mark ≤ q = omega (arith, f.mark, above) in
      let head = slice_get_some peer 0 (omega (arith, slice_get_within peer position c there)) in
      let numbered : wrapped (b.first_number + q) ≡ c.pdu.number =
      next_number b.first_number (base p) position q head.0.pdu.number refl (g.number head.0 head.1) ∙ sym (sent.numbers position head.0 c head.1 there) in (
        record a { arrived = q ∷ a.arrived; state = e'; mark = suc q },
        recast (λ i. brought_line (long i) s (numbered i) ∷ take_line (long i) s (numbered i) ∷ []) refl
            (moves (arriving q) (arrives q low (omega (arith, g.count, w))) (moves (taking q) (takes q x.0 e' (0, omega arith, refl) passed_mark x.1 t) stays)),
        record {
          level = slot;
          made_count = f.made_count;
          passed = suc position;
          low = omega (arith, l);
          fits = rest;
          based = ap (λ (e : EndState). e.base) t.1 ∙ (left.base ∙ f.based);
          count = ap length same_made ∙ f.count;
          mark = omega arith;
          clock = f.clock ∙ sym (ap (λ (e : EndState). e.clock) t.1 ∙ left.clock);
          number = f.number;
          before = f.before;
          after = f.after;
          same = λ i d h v. (let z = f.same i d h v in (z.0, rw same_made z.1, z.2));
          side = ap (λ (e : EndState). e.side) t.1 ∙ (left.side ∙ f.side);
        },
      )

  -- no take is due
  rests : (es : List Entry) (a : Station) → Tracks p n k s own peer es last a → Drained k es → Drain es a
  rests es a f dr = (a, recast (ap (each_take k s) (sym (none_due p n s own peer last k es a f dr))) refl stays, record { rest = es; tracks = f; ready = dr; says = says_all (suc k) k es })

  -- all takes that are due
  pub drain : (es : List Entry) (a : Station) → Above k es → Tracks p n k s own peer es last a → Drain es a
  drain [] a ab f = rests [] a f tt
  drain (Make place clock why ∷ es) a ab f = rests (Make place clock why ∷ es) a f tt
  drain (Take slot number ∷ es) a ab f =
      elim (dec_le slot k) [
        | yes l ↦ (let same : slot ≡ k = (let z = ab.0 in omega (arith, l, z)) in
            let o = one_take slot number es a f.fits.0 f same f.fits.1 f.fits.2 in
            let d = drain es o.0 ab.1 o.2 in
            let here : takes_at k (Take slot number ∷ es) ≡ number ∷ takes_at k es = rw same (takes_here k number es) in
            (d.0, recast (ap (each_take k s) (sym here)) refl (append_many o.1 d.1), left_on (says_take (suc k) k slot number es (omega (arith, l))) (omega arith) (omega arith) d.2))
        | no l ↦ rests (Take slot number ∷ es) a f (omega (arith, l))
      ]
