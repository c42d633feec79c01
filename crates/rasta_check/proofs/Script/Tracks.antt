-- One side along the packets, as the run of two scripts is built: its script leads on, and it has made what crossed.
use Rattle.std.proofs.Common.{◌≡◌, ℕ, suc, ◌+◌, ◌-◌, ◌%◌, ◌^◌, ◌<◌, ◌≤◌, List, [], ◌∷◌, ◌++◌, length, Some, slice_get, take, ap, ◌∙◌, arith, add-one}
use Rattle.rasta_check.proofs.Prelude.{slice_get_within, Side, Parameters, Made, wrapped, Packet, Station, first_station, start_of, FirstCopy, Entry, Take, Make, ScriptCursor, Advances}
use Rattle.rasta_check.proofs.Prelude.{takes_next, makes_next, Leads, at_start}
use Rattle.rasta_check.proofs.Model.Steps.{base}
use Rattle.rasta_check.proofs.Capture.FaultlessLists.{IsSent}
use Rattle.rasta_check.proofs.Lists.{take_one_more}

-- one side at a level: what is left of its script leads to its last cursor, and it has made what crossed
pub record Tracks (p : Parameters) (n k : ℕ) (s : Side) (own peer : List FirstCopy) (es : List Entry) (last : ScriptCursor) (a : Station) : Type 0 where
  pub level : ℕ
  pub made_count : ℕ
  pub passed : ℕ
  pub low : level ≤ k
  pub fits : Leads p n own peer (record { level = level; made_count = made_count; passed = passed; state = a.state }) es last
  pub based : a.state.base ≡ base p
  pub count : length a.state.made ≡ base p + made_count
  pub mark : a.mark ≡ base p + passed
  pub clock : a.clock ≡ a.state.clock
  pub number : (c : FirstCopy) → slice_get own 0 ≡ Some c → wrapped (a.first_number + base p) ≡ c.pdu.number
  pub before : (i : ℕ) (c : FirstCopy) → slice_get own i ≡ Some c → c.place < k → i < made_count
  pub after : (i : ℕ) (c : FirstCopy) → slice_get own i ≡ Some c → i < made_count → c.place < k
  pub same : (i : ℕ) (c : FirstCopy) → slice_get own i ≡ Some c → i < made_count → (m : Made) × (slice_get a.state.made (base p + i) ≡ Some m) × (m.pdu ≡ c.pdu.safety)
  pub side : a.state.side ≡ s

-- no take is due at this level
abbrev pub Drained : ℕ → List Entry → Type 0
Drained k [] = Unit {0}
Drained k (Take slot number ∷ es) = k < slot
Drained k (Make place clock why ∷ es) = Unit {0}

pub next_packet : (packets : List Packet) (k : ℕ) (a : Packet) (sd : Side) → sd ≡ a.side → slice_get packets k ≡ Some a → take k packets ++ record { channel = a.channel; side = sd; payload = a.payload } ∷ [] ≡ take (suc k) packets
next_packet packets k a sd e g = rw e (take_one_more k packets a g ∙ ap (λ j. take j packets) (add-one k))

pub next_number : (f b m n c : ℕ) → n ≡ b + m → (f + b) % 2 ^ 32 ≡ c → (f + n) % 2 ^ 32 ≡ (c + m) % 2 ^ 32
next_number f b m n c e h = omega arith

-- a packet that is no first copy of this side leaves the station as it is
pub untouched : (p : Parameters) (n k : ℕ) (s : Side) (own peer : List FirstCopy) (es : List Entry) (last : ScriptCursor) (a : Station) → Tracks p n k s own peer es last a
    → ((i : ℕ) (c : FirstCopy) → slice_get own i ≡ Some c → c.place ≡ k → ⊥) → Tracks p n (suc k) s own peer es last a
untouched p n k s own peer es last a h1 h2 = grind arith

module _ (p : Parameters) (packets : List Packet) (k : ℕ) (s : Side) (own peer : List FirstCopy) (sent : IsSent p packets s own) (last : ScriptCursor) where
  -- so does a packet of the other side
  pub passed_by : (es : List Entry) (a : Station) (here : Packet) → slice_get packets k ≡ Some here → (here.side ≡ s → ⊥) → Tracks p (length packets) k s own peer es last a → Tracks p (length packets) (suc k) s own peer es last a
  passed_by es a here h g l = grind arith

  -- when all packets have crossed and all takes that are due are done, nothing is left
  pub nothing_left : (a : Station) (es : List Entry) → length packets ≡ k → Drained k es → Tracks p (length packets) k s own peer es last a → a.state ≡ last.state
  nothing_left a [] e dr f = ap (λ (u : ScriptCursor). u.state) f.fits
  nothing_left a (x ∷ es) e dr f = absurd (by _ f.fits.0 x f.fits.1 f.before dr)
    where
      by : (u v : ScriptCursor) (x : Entry) → Advances p (length packets) own peer u x v → ((i : ℕ) (c : FirstCopy) → slice_get own i ≡ Some c → c.place < k → i < u.made_count) → Drained k (x ∷ es) → ⊥
      by u v x (takes_next slot position d e' lv le there below above t) h dr = omega (arith, e, le, dr)
      by u v x (makes_next c clock why e' lv mine mk) h dr =
          let r = sent.firsts u.made_count c mine in
          let l = slice_get_within packets c.place r.0 r.1 in
          omega (arith, h u.made_count c mine (omega (arith, e)))

-- a first number so that the first PDU of the list has its own
pub first_number_of : ℕ → List FirstCopy → ℕ
first_number_of b [] = 0
first_number_of b (c ∷ cs) = c.pdu.number + (2 ^ 32 - b)

wraps_back : (n b : ℕ) → n < 2 ^ 32 → b ≤ 1 → (n + (2 ^ 32 - b) + b) % 2 ^ 32 ≡ n
wraps_back n b l m = omega arith

pub first_tracks : (p : Parameters) (packets : List Packet) (sd : Side) (own peer : List FirstCopy) (es : List Entry) (last : ScriptCursor) → IsSent p packets sd own
    → Leads p (length packets) own peer (at_start (start_of p sd)) es last → Tracks p (length packets) 0 sd own peer es last (first_station p sd (first_number_of (base p) own))
unfolding first_number_of
first_tracks p packets sd own peer es last sent f = grind arith
