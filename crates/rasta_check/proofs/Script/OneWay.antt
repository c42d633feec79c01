-- Scripts are followed in one way, and first copies are the packets with a new number.
use Rattle.std.proofs.Common.{◌≡◌, ℕ, ◌<◌, List, [], ◌∷◌, ◌++◌, length, Some, slice_get, refl, arith}
use Rattle.rasta_check.proofs.Prelude.{append-nil, Side, Packet, Parameters, RedundancyPdu, Entry, FirstCopy, ScriptCursor, Advances, takes_next, makes_next, Leads, Spells}
use Rattle.rasta_check.specs.Capture.SentLists.{IsCarried, IsKnown}
use Rattle.rasta_check.proofs.Capture.FaultlessLists.{IsSent, ordered, read_once}
use Rattle.rasta_check.proofs.Capture.Positions.{number_once}

-- each member is a packet of the side, which spells its PDU
pub carried_at : (p : Parameters) (xs : List Packet) (s : Side) (own : List FirstCopy) → IsSent p xs s own → (i : ℕ) (c : FirstCopy) → slice_get own i ≡ Some c → IsCarried p xs s c
carried_at p xs s own h i c g = (let f = h.firsts i c g in record { packet = f.0; there = f.1; of_side = f.2; spelled = f.3 })

-- no member's number crossed before
pub first_is_new : (p : Parameters) (xs : List Packet) (s : Side) (own : List FirstCopy) → IsSent p xs s own → length own < 4294967296 → (i : ℕ) (c : FirstCopy) → slice_get own i ≡ Some c → IsKnown p xs s c.place c.pdu.number → ⊥
first_is_new p xs s own h1 h2 i c h3 h4 = grind (arith, read_once, number_once, ordered)

-- a packet whose number didn't cross before is that of a member
pub new_is_first : (p : Parameters) (xs : List Packet) (s : Side) (own : List FirstCopy) → IsSent p xs s own → (k : ℕ) (a : Packet) (d : RedundancyPdu) → slice_get xs k ≡ Some a → a.side ≡ s → Spells p s d a.payload
    → (IsKnown p xs s k d.number → ⊥) → (i : ℕ) × (c : FirstCopy) × (slice_get own i ≡ Some c) × (c.place ≡ k)
new_is_first p xs s own h1 k a d h2 h3 h4 h5 = grind (arith, read_once, carried_at)

module _ (p : Parameters) (n : ℕ) (packets : List Packet) (r : Side) (own peer : List FirstCopy) (sent : IsSent p packets r peer) (few : length peer < 4294967296) where
  -- an entry leads to one cursor
  once : (u v w : ScriptCursor) (x y : Entry) → x ≡ y → Advances p n own peer u x v → Advances p n own peer u y w → v ≡ w
  once u v w x y e (takes_next slot i c z a b g d f t) (takes_next slot' i' c' z' a' b' g' d' f' t') =
      let number : c.pdu.number ≡ c'.pdu.number = cc in
      let position = number_once peer (ordered sent) few i i' c c' g g' number in
      cc (t.1, t'.1)
  once u v w x y e (makes_next c clock why z a g m) (makes_next c' clock' why' z' a' g' m') = (let same : c ≡ c' = cc in cc (m.1, m'.1))
  once u v w x y e _ _ = absurd (cc)

  -- what leads to v, and the rest of a longer script
  leads_rest : (u v w : ScriptCursor) (es rest : List Entry) → Leads p n own peer u es v → Leads p n own peer u (es ++ rest) w → Leads p n own peer v rest w
  leads_rest u v w [] rest f g = rw f at g
  leads_rest u v w (x ∷ es) rest f g = leads_rest f.0 v w es rest f.2 (rw (once u g.0 f.0 x x refl g.1 f.1) at g.2)

  pub stuck : (u v w : ScriptCursor) (es rest : List Entry) (x : Entry) → Leads p n own peer u es v → ((z : ScriptCursor) → Advances p n own peer v x z → ⊥) → Leads p n own peer u (es ++ x ∷ rest) w → ⊥
  stuck u v w es rest x f h g = (let r = leads_rest u v w es (x ∷ rest) f g in h r.0 r.1)

  -- a script leads to one cursor
  pub leads_once : (u v w : ScriptCursor) (es : List Entry) → Leads p n own peer u es v → Leads p n own peer u es w → v ≡ w
  leads_once u v w es f g = leads_rest u v w es [] f (rw append-nil g)
