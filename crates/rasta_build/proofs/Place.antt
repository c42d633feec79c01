-- The place at which nothing is found is exact: some run within the limits sends the packets before it.
use Rattle.std.proofs.Common.{◌≡◌, ℕ, zero, suc, ◌+◌, ◌-◌, ◌^◌, ◌<◌, ◌≤◌, Bool, true, false, List, [], ◌∷◌, ◌++◌, length, Option, Some, None, Result, Ok, Err, slice_get, take, drop, refl, ap, sym, ◌∙◌, arith, subst}
use Rattle.rasta_build.proofs.Prelude.{nat_lt, if◌then◌else◌, min, slice_get_within, dec_lt, yes, no, fault_at, not_found, Side, Client, Server, Packet, Parameters, AreParameters}
use Rattle.rasta_build.proofs.Prelude.{Quiet, EndState, start_of, start_by, FirstCopy, Sent, OfConnection, get_front, slice_get_some, IsSent, to_record, made_more, take_leaves}
use Rattle.rasta_build.proofs.Prelude.{Built, first_of, Pass, first_pass, one_more, pass_on, passes, copy_goes, client_goes, server_goes, proposal, all_copies, CanCross, Begins}
use Rattle.std.specs.Prelude.{◌↔◌, IfSome}
use Rattle.rasta_pdu.specs.Params.{IsQuiet}
use Rattle.rasta_cert.specs.Certificate.{AreEntries, IsEntry}
use Rattle.rasta_cert.specs.declared.entry.Entry.{Entry}
use Rattle.rasta_check.specs.Capture.SentLists.{CrossRecorded}
use Rattle.rasta_check.specs.Capture.Faults.{sent_of}
use Rattle.rasta_check.specs.Model.World.{other_side}
use Rattle.rasta_check.proofs.Sides.{sided}
use Rattle.rasta_build.specs.Proposing.{side_goes}
use Rattle.rasta_check.specs.Model.World.{most_sent}
use Rattle.rasta_check.specs.Model.Theorem.{most_packets}
use Rattle.rasta_check.specs.Script.Following.{ScriptCursor, Advances, takes_next, makes_next, Leads, at_start, Follows}
use Rattle.rasta_check.proofs.Run.Simulation.{simulated}
use Rattle.rasta_check.proofs.Theorem.SentRuns.{keeps_limit}
use Rattle.rasta_check.proofs.Capture.NextPackets.{cut}
use Rattle.rasta_build.proofs.SentLists.{begun_get, begun_next, sent_rises, sent_numbers, sent_within, later_place}
use Rattle.rasta_build.proofs.Passes.{Fails, fails, proposed_fails, fails_within, length_take, take_drop, early, finds_none}
use Rattle.rasta_build.proofs.Soundness.{passes_read}
use Rattle.rasta_build.proofs.Comparisons.{less_is, not_less}

-- ---- a script over the beginnings of the lists

-- levels rise, and so does what was made
leads_rise : (p : Parameters) (n : ℕ) (own peer : List FirstCopy) (u v : ScriptCursor) (es : List Entry) → Leads p n own peer u es v → (u.level ≤ v.level) × (u.made_count ≤ v.made_count)
leads_rise p n own peer u v [] f = (let a = ap (λ (z : ScriptCursor). z.level) f in let b = ap (λ (z : ScriptCursor). z.made_count) f in (omega (arith, a), omega (arith, b)))
leads_rise p n own peer u v (x ∷ es) f = by x f.0 f.1 (leads_rise p n own peer f.0 v es f.2)
  where
    by : (x : Entry) (m : ScriptCursor) → Advances p n own peer u x m → (m.level ≤ v.level) × (m.made_count ≤ v.made_count) → (u.level ≤ v.level) × (u.made_count ≤ v.made_count)
    by x m (takes_next slot position c e' a b g d f t) l = (let y = l.0 in let z = l.1 in (omega (arith, y, a), omega (arith, z)))
    by x m (makes_next c clock why e' a g k) l = (let y = l.0 in let z = l.1 in (omega (arith, y, a), omega (arith, z)))

-- a member that crossed before a place is one of the beginning
in_beginning : (big own : List FirstCopy) (n i : ℕ) (c : FirstCopy) → Begins big own n → ((j : ℕ) (d : FirstCopy) → length own ≤ j → slice_get big j ≡ Some d → n ≤ d.place) → slice_get big i ≡ Some c → c.place < n → slice_get own i ≡ Some c
in_beginning big own n i c b later g l =
    elim (dec_lt i (length own)) [
      | yes y ↦ (let f = slice_get_some own i y in let h = begun_get big own n i f.0 b f.1 in let e : f.0 ≡ c = cc in f.1 ∙ ap (λ (k : FirstCopy). Some k) e)
      | no y ↦ absurd (let z = later i c (omega (arith, y)) g in omega (arith, z, l))
    ]

-- what leads to a level leads there over the beginnings that crossed before it
module _ (p : Parameters) (n q : ℕ) (own peer mine theirs : List FirstCopy) (bm : Begins own mine q) (bt : Begins peer theirs q)
    (later : (j : ℕ) (d : FirstCopy) → length theirs ≤ j → slice_get peer j ≡ Some d → q ≤ d.place) where
  leads_cut : (u v : ScriptCursor) (es : List Entry) → Leads p n own peer u es v → v.level ≤ q → v.made_count ≤ length mine → Leads p q mine theirs u es v
  leads_cut u v [] f l m = f
  leads_cut u v (x ∷ es) f l m = (let r = leads_rise p n own peer f.0 v es f.2 in (f.0, by x f.0 f.1 r, leads_cut f.0 v es f.2 l m))
    where
      by : (x : Entry) (w : ScriptCursor) → Advances p n own peer u x w → (w.level ≤ v.level) × (w.made_count ≤ v.made_count) → Advances p q mine theirs u x w
      by x w (takes_next slot position c e' a b g d f t) r =
          (let r0 = r.0 in takes_next slot position c e' a (omega (arith, r0, l)) (in_beginning peer theirs q position c bt later g (omega (arith, r0, l, d))) d f t)
      by x w (makes_next c clock why e' a g k) r =
          let r1 = r.1 in
          let f = slice_get_some mine u.made_count (omega (arith, r1, m)) in
          let h = begun_get own mine q u.made_count f.0 bm f.1 in
          let e : f.0 ≡ c = cc in
          makes_next c clock why e' a (f.1 ∙ ap (λ (z : FirstCopy). Some z) e) k

-- the clock stays below 2^64
leads_clock : (p : Parameters) (n : ℕ) (own peer : List FirstCopy) (u v : ScriptCursor) (es : List Entry) → Leads p n own peer u es v → AreEntries es → u.state.clock < 2 ^ 64 → v.state.clock < 2 ^ 64
leads_clock p n own peer u v [] f h l = (let a = ap (λ (z : ScriptCursor). z.state.clock) f in omega (arith, a, l))
leads_clock p n own peer u v (x ∷ es) f h l = leads_clock p n own peer f.0 v es f.2 h.1 (by x f.0 f.1 h.0)
  where
    by : (x : Entry) (m : ScriptCursor) → Advances p n own peer u x m → IsEntry x → m.state.clock < 2 ^ 64
    by x m (takes_next slot position c e' a b g d f t) h = (let k = take_leaves p u.state c.pdu.safety in let z : e'.clock ≡ u.state.clock = ap (λ (e : EndState). e.clock) t.1 ∙ k.clock in omega (arith, z, l))
    by x m (makes_next c clock why e' a g k) h = (let z = made_more p u.state c.pdu.safety clock why e' k in let w = z.now in let b = h.1 in omega (arith, w, b))

start_clock : (slack : ℕ) (q : Option Quiet) → IfSome q (IsQuiet slack) → (s : Side) → (start_by q s).clock < 2 ^ 64
start_clock slack q h s = grind arith

-- ---- what a pass has explained crossed before what it hasn't

-- how many first copies of a side it has explained
abbrev pub count_of : Pass → Side → ℕ
count_of t Client = t.made
count_of t Server = t.answered

-- a place between them
pub record IsFront (c s : List FirstCopy) (t : Pass) : Type 0 where
  pub low : ℕ
  pub passed : (x : Side) (i : ℕ) (d : FirstCopy) → i < count_of t x → slice_get (sent_of x c s) i ≡ Some d → d.place < low
  pub next : (x : Side) (d : FirstCopy) → slice_get (sent_of x c s) (count_of t x) ≡ Some d → low ≤ d.place
  pub most : (x : Side) → count_of t x ≤ length (sent_of x c s)

-- this place is one
record IsParted (c s : List FirstCopy) (t : Pass) (q : ℕ) : Type 0 where
  pub passed : (x : Side) (i : ℕ) (d : FirstCopy) → i < count_of t x → slice_get (sent_of x c s) i ≡ Some d → d.place < q
  pub next : (x : Side) (d : FirstCopy) → slice_get (sent_of x c s) (count_of t x) ≡ Some d → q ≤ d.place

-- what holds of a side and of the other holds of both
either_side : (x : Side) (P : Side → Type 0) → P x → P (other_side x) → (y : Side) → P y
either_side Client P a b Client = a
either_side Client P a b Server = b
either_side Server P a b Client = b
either_side Server P a b Server = a

-- a copy of this side is explained
record Goes (x : Side) (t t' : Pass) : Type 0 where
  went : count_of t' x ≡ suc (count_of t x)
  stays : count_of t' (other_side x) ≡ count_of t (other_side x)

abbrev side_by : Side → Pass → ℕ → Option Built → Result Pass ℕ
side_by Client = client_goes
side_by Server = server_goes

goes_by : (x : Side) (t t' : Pass) (place : ℕ) (o : Option Built) → side_by x t place o ≡ Ok t' → Goes x t t'
goes_by x t t' place o h = grind arith

goes : (x : Side) (c s : List FirstCopy) (t t' : Pass) (d : FirstCopy) → side_goes x c s t d ≡ Ok t' → Goes x t t'
goes Client c s t t' d h = goes_by Client t t' d.place _ h
goes Server c s t t' d h = goes_by Server t t' d.place _ h

-- or the pass fails at its place
stops_by : (x : Side) (t : Pass) (place q : ℕ) (o : Option Built) → side_by x t place o ≡ Err q → place ≡ q
stops_by x t place q o h = grind arith

stops : (x : Side) (c s : List FirstCopy) (t : Pass) (d : FirstCopy) (q : ℕ) → side_goes x c s t d ≡ Err q → d.place ≡ q
stops Client c s t d q h = stops_by Client t d.place q _ h
stops Server c s t d q h = stops_by Server t d.place q _ h

same_member : (xs : List FirstCopy) (i : ℕ) (a b : FirstCopy) → slice_get xs i ≡ Some a → slice_get xs i ≡ Some b → a.place ≡ b.place
same_member xs i a b g h = (let e : a ≡ b = cc in ap (λ (z : FirstCopy). z.place) e)

not_there : (xs : List FirstCopy) (i : ℕ) (a : FirstCopy) → slice_get xs i ≡ None → slice_get xs i ≡ Some a → ⊥
not_there xs i a g h = cc

module _ (p : Parameters) (packets : List Packet) (c s : List FirstCopy) (hc : IsSent p packets Client c) (hs : IsSent p packets Server s) where
  lists : (x : Side) → IsSent p packets x (sent_of x c s)
  lists x = grind arith

  -- no packet is of both sides
  apart : (i j : ℕ) (d f : FirstCopy) → slice_get c i ≡ Some d → slice_get s j ≡ Some f → d.place ≡ f.place → ⊥
  apart i j d f h g k = grind arith

  -- the next copy of a side is explained, which crossed before that of the other
  side_front : (x : Side) (t t' : Pass) (d : FirstCopy) → slice_get (sent_of x c s) (count_of t x) ≡ Some d
      → ((f : FirstCopy) → slice_get (sent_of (other_side x) c s) (count_of t (other_side x)) ≡ Some f → d.place < f.place) → IsFront c s t → side_goes x c s t d ≡ Ok t' → IsFront c s t'
  side_front x t t' d g before r h =
      let go = goes x c s t t' d h in
      let own = sent_of x c s in
      let low = r.next x d g in
      record {
        low = suc d.place;
        passed = either_side x (λ y. (i : ℕ) (f : FirstCopy) → i < count_of t' y → slice_get (sent_of y c s) i ≡ Some f → f.place < suc d.place)
            (λ i f l k. elim (dec_lt i (count_of t x)) [
              | yes z ↦ omega (arith, r.passed x i f z k, low)
              | no z ↦ (let w : i ≡ count_of t x = omega (arith, z, l, go.went) in omega (arith, same_member own (count_of t x) d f g (subst (λ n. slice_get own n ≡ Some f) w k)))
            ])
            (λ i f l k. omega (arith, r.passed (other_side x) i f (omega (arith, l, go.stays)) k, low));
        next = either_side x (λ y. (f : FirstCopy) → slice_get (sent_of y c s) (count_of t' y) ≡ Some f → suc d.place ≤ f.place)
            (λ f k. (lists x).rising (count_of t x) d f g (subst (λ n. slice_get own n ≡ Some f) go.went k)) (λ f k. before f (subst (λ n. slice_get (sent_of (other_side x) c s) n ≡ Some f) go.stays k));
        most = either_side x (λ y. count_of t' y ≤ length (sent_of y c s)) (omega (arith, go.went, slice_get_within own (count_of t x) d g)) (omega (arith, go.stays, r.most (other_side x)));
      }

  -- the server's next copy crossed before the client's, where it isn't the other way
  server_first : (t : Pass) (d f : FirstCopy) → slice_get c t.made ≡ Some d → slice_get s t.answered ≡ Some f → nat_lt d.place f.place ≡ false → f.place < d.place
  server_first t d f h g k = grind arith

  one_front : (t t' : Pass) → IsFront c s t → (a b : Option FirstCopy) → slice_get c t.made ≡ a → slice_get s t.answered ≡ b → copy_goes c s t (first_of a b) ≡ Ok t' → IsFront c s t'
  one_front t t' r None None x y h = (let z : t ≡ t' = cc in subst (λ (k : Pass). IsFront c s k) z r)
  one_front t t' r (Some d) None x y h = side_front Client t t' d x (λ f k. absurd (not_there s t.answered f y k)) r h
  one_front t t' r None (Some d) x y h = side_front Server t t' d y (λ f k. absurd (not_there c t.made f x k)) r h
  one_front t t' r (Some d) (Some f) x y h = by (nat_lt d.place f.place) refl h
    where
      by : (l : Bool) → nat_lt d.place f.place ≡ l → copy_goes c s t (Some (if l then record { side = Client; copy = d } else record { side = Server; copy = f })) ≡ Ok t' → IsFront c s t'
      by true e h = side_front Client t t' d x (λ g k. omega (arith, same_member s t.answered f g y k, less_is d.place f.place e)) r h
      by false e h = side_front Server t t' f y (λ g k. omega (arith, same_member c t.made d g x k, server_first t d f x y e)) r h

  first_front : IsFront c s (first_pass p)
  first_front = record {
    low = 0;
    passed = sided (λ y. (i : ℕ) (d : FirstCopy) → i < count_of (first_pass p) y → slice_get (sent_of y c s) i ≡ Some d → d.place < 0) (λ i d l g. absurd (omega (arith, l))) (λ i d l g. absurd (omega (arith, l)));
    next = λ x d g. omega arith;
    most = sided (λ y. count_of (first_pass p) y ≤ length (sent_of y c s)) (omega arith) (omega arith);
  }

  pub passes_front : (k : ℕ) (t : Pass) → passes p c s k ≡ Ok t → IsFront c s t
  passes_front zero t h = (let z : first_pass p ≡ t = cc in subst (IsFront c s) z first_front)
  passes_front (suc k) t h = then_by k t (passes p c s k) refl h (λ u e. passes_front k u e)
    where
      then_by : (k : ℕ) (t : Pass) (r : Result Pass ℕ) → passes p c s k ≡ r → pass_on r (one_more c s) ≡ Ok t → ((u : Pass) → passes p c s k ≡ Ok u → IsFront c s u) → IsFront c s t
      then_by k t (Err q) e h rest = absurd (cc)
      then_by k t (Ok u) e h rest = one_front u t (rest u e) (slice_get c u.made) (slice_get s u.answered) refl refl h

  -- where the pass fails
  side_parted : (x : Side) (t : Pass) (d : FirstCopy) (q : ℕ) → slice_get (sent_of x c s) (count_of t x) ≡ Some d
      → ((f : FirstCopy) → slice_get (sent_of (other_side x) c s) (count_of t (other_side x)) ≡ Some f → d.place ≤ f.place) → IsFront c s t → side_goes x c s t d ≡ Err q → IsParted c s t q
  side_parted x t d q g before r h =
      let z = stops x c s t d q h in
      let low = r.next x d g in
      record {
        passed = λ y i f l k. omega (arith, r.passed y i f l k, low, z);
        next = either_side x (λ y. (f : FirstCopy) → slice_get (sent_of y c s) (count_of t y) ≡ Some f → q ≤ f.place)
            (λ f k. omega (arith, same_member (sent_of x c s) (count_of t x) d f g k, z)) (λ f k. omega (arith, before f k, z));
      }

  parted_by : (t : Pass) (q : ℕ) → IsFront c s t → (a b : Option FirstCopy) → slice_get c t.made ≡ a → slice_get s t.answered ≡ b → copy_goes c s t (first_of a b) ≡ Err q → IsParted c s t q
  parted_by t q r None None x y h = absurd (cc)
  parted_by t q r (Some d) None x y h = side_parted Client t d q x (λ f k. absurd (not_there s t.answered f y k)) r h
  parted_by t q r None (Some d) x y h = side_parted Server t d q y (λ f k. absurd (not_there c t.made f x k)) r h
  parted_by t q r (Some d) (Some f) x y h = by (nat_lt d.place f.place) refl h
    where
      by : (l : Bool) → nat_lt d.place f.place ≡ l → copy_goes c s t (Some (if l then record { side = Client; copy = d } else record { side = Server; copy = f })) ≡ Err q → IsParted c s t q
      by true e h = side_parted Client t d q x (λ g k. omega (arith, same_member s t.answered f g y k, less_is d.place f.place e)) r h
      by false e h = side_parted Server t f q y (λ g k. omega (arith, same_member c t.made d g x k, not_less d.place f.place e)) r h

-- ---- the beginning of a list

-- what is passed is the beginning
as_many : (p : Parameters) (xs : List Packet) (side : Side) (big own : List FirstCopy) (k : ℕ) → IsSent p xs side own → Begins big own (length xs) → k ≤ length big
    → ((i : ℕ) (d : FirstCopy) → i < k → slice_get big i ≡ Some d → d.place < length xs) → ((d : FirstCopy) → slice_get big k ≡ Some d → length xs ≤ d.place) → k ≡ length own
as_many p xs side big own k h b most front next =
    elim (dec_lt k (length own)) [
      | yes y ↦ absurd (let f = slice_get_some own k y in let l = sent_within p xs side own h k f.0 f.1 in let m = next f.0 (begun_get big own (length xs) k f.0 b f.1) in omega (arith, l, m))
      | no y ↦ elim (dec_lt (length own) k) [
        | yes z ↦ absurd (let f = slice_get_some big (length own) (omega (arith, z, most)) in let l = front (length own) f.0 z f.1 in let m = begun_next big own (length xs) f.0 b f.1 in omega (arith, l, m))
        | no z ↦ omega (arith, y, z)
      ]
    ]

-- the packets before a place
recorded_front : (p : Parameters) (xs ys packets : List Packet) → packets ≡ xs ++ ys → CrossRecorded p packets → CrossRecorded p xs
recorded_front p xs ys packets e h place packet g = h place packet (subst (λ (l : List Packet). slice_get l place ≡ Some packet) (sym e) (get_front xs ys place packet g))

-- ---- the theorem

module _ (p : Parameters) (valid : AreParameters p) (packets : List Packet) (c s : List FirstCopy) (hc : IsSent p packets Client c) (hs : IsSent p packets Server s) (recorded : CrossRecorded p packets)
    (most : length packets ≤ 16000000) (lc : length c ≤ 1000000) (ls : length s ≤ 1000000) where
  crosses_before : (n q : ℕ) → Fails p c s q n → q < length packets → CanCross p (take q packets)
  crosses_before n q f low =
      let t : Pass = f.pass in
      let front : List Packet = take q packets in
      let lp : length front ≡ q = length_take q packets (omega (arith, low)) in
      let whole : packets ≡ front ++ drop q packets = take_drop q packets in
      let kc = cut p (drop q packets) front Client c (subst (λ (k : List Packet). IsSent p k Client c) whole hc) in
      let ks = cut p (drop q packets) front Server s (subst (λ (k : List Packet). IsSent p k Server s) whole hs) in
      let fr = passes_front p packets c s hc hs f.k t f.before in
      let pt = parted_by p packets c s hc hs t q fr (slice_get c t.made) (slice_get s t.answered) refl refl f.here in
      let a = passes_read p (length packets) c s lc ls (sent_rises p packets Client c hc) (sent_rises p packets Server s hs) hc.rising hs.rising (sent_within p packets Client c hc) (sent_within p packets Server s hs)
      (omega (arith, most)) (sent_numbers p packets Client c hc) (sent_numbers p packets Server s hs) f.k t f.before in
      let rc = a.client in
      let rs = a.server in
      let mc : t.made ≡ length kc.0 = as_many p front Client c kc.0 t.made kc.1 kc.2 (fr.most Client) (λ i d l g. omega (arith, pt.passed Client i d l g, lp)) (λ d g. omega (arith, pt.next Client d g, lp)) in
      let ms : t.answered ≡ length ks.0 = as_many p front Server s ks.0 t.answered ks.1 ks.2 (fr.most Server) (λ i d l g. omega (arith, pt.passed Server i d l g, lp)) (λ d g. omega (arith, pt.next Server d g, lp)) in
      let low_c = rc.low in
      let low_s = rs.low in
      let below_c = a.below q (pt.passed Client) in
      let below_s = a.their_below q (pt.passed Server) in
      let made_c = rc.made in
      let made_s = rs.made in
      let lead_c = leads_cut p (length packets) (length front) c s kc.0 ks.0 kc.2 ks.2 (λ j d l g. later_place p packets Server s ks.0 (length front) j d hs ks.2 l g) (at_start (start_of p Client)) rc.at t.own.script rc.leads
      (omega (arith, low_c, below_c, lp)) (omega (arith, made_c, mc)) in
      let lead_s = leads_cut p (length packets) (length front) s c ks.0 kc.0 ks.2 kc.2 (λ j d l g. later_place p packets Client c kc.0 (length front) j d hc kc.2 l g) (at_start (start_of p Server)) rs.at t.other.script rs.leads
      (omega (arith, low_s, below_s, lp)) (omega (arith, made_s, ms)) in
      let fits_c : Follows p Client (length front) kc.0 ks.0 t.own.script rc.at.state = (rc.at, lead_c, rc.made ∙ mc, refl) in
      let fits_s : Follows p Server (length front) ks.0 kc.0 t.other.script rs.at.state = (rs.at, lead_s, rs.made ∙ ms, refl) in
      let r = simulated p front kc.0 ks.0 t.own.script t.other.script rc.at.state rs.at.state (recorded_front p front (drop q packets) packets whole recorded) kc.1 ks.1 fits_c fits_s in
      let few_c = fr.most Client in
      let few_s = fr.most Server in
      let within = keeps_limit p r.0 r.1 kc.0 ks.0 r.2 (subst (λ (k : List Packet). IsSent p k Client kc.0) (sym r.3) kc.1) (subst (λ (k : List Packet). IsSent p k Server ks.0) (sym r.3) ks.1)
      (omega (arith, mc, few_c, lc)) (omega (arith, ms, few_s, ls)) in
      let length_all = ap (λ (k : List Packet). length k) r.3 in
      let clock_c = leads_clock p (length packets) c s (at_start (start_of p Client)) rc.at t.own.script rc.leads rc.entries (start_clock p.slack p.quiet valid.quiet Client) in
      let clock_s = leads_clock p (length packets) s c (at_start (start_of p Server)) rs.at t.other.script rs.leads rs.entries (start_clock p.slack p.quiet valid.quiet Server) in
      let at_c = ap (λ (e : EndState). e.clock) r.4 in
      let at_s = ap (λ (e : EndState). e.clock) r.5 in
      record {
        worlds = r.0;
        last = r.1;
        reached = r.2;
        crossed = r.3;
        bounded = record { packets = omega (arith, length_all, lp, low, most); pdus = within; client_clock = omega (arith, at_c, clock_c); server_clock = omega (arith, at_s, clock_s) };
      }

place_of : (q place n : ℕ) → min (q + 1) 4294967295 ≡ place → q < n → n ≤ 16000000 → q ≡ place - 1
place_of q place n h l m = omega arith

-- ---- the place is exact

take_take : {A : Type 0} (m n : ℕ) (xs : List A) → m ≤ n → take m (take n xs) ≡ take m xs
take_take zero n xs l = refl
take_take (suc m) zero xs l = absurd (omega (arith, l))
take_take (suc m) (suc n) [] l = refl
take_take (suc m) (suc n) (x ∷ xs) l = ap (λ ys. x ∷ ys) (take_take m n xs (omega (arith, l)))

-- a run within the limits that sends these packets passes through each beginning
crosses_less : (p : Parameters) (packets : List Packet) (m n : ℕ) → m ≤ n → n ≤ length packets → CanCross p (take n packets) → CanCross p (take m packets)
crosses_less p packets m n l k r =
    let lw = ap (λ (x : List Packet). length x) r.crossed in
    let lt = length_take n packets k in
    let u = early p r.worlds r.last r.reached r.bounded.pdus (r.bounded.client_clock, r.bounded.server_clock) m (omega (arith, lw, lt, l)) in
    let is : u.1.crossed ≡ take m packets = u.3 ∙ (ap (λ (x : List Packet). take m x) r.crossed ∙ take_take m n packets l) in
    let lu = ap (λ (x : List Packet). length x) is in
    let lm = length_take m packets (omega (arith, l, k)) in
    let most = r.bounded.packets in
    record { worlds = u.0; last = u.1; reached = u.2; crossed = is; bounded = record { packets = omega (arith, lu, lm, lw, lt, l, most); pdus = u.4; client_clock = u.5.0; server_clock = u.5.1 } }

-- a run within the limits sends exactly the first packets where they are fewer than the place says, and none does otherwise
pub exact : (p : Parameters) → OfConnection p → (packets : List Packet) (c s : List FirstCopy) (place n : ℕ) → CrossRecorded p packets → Sent p packets Client c → Sent p packets Server s
    → length packets ≤ most_packets → length c ≤ most_sent → length s ≤ most_sent → proposal p c s ≡ Err (fault_at not_found place)
    → CanCross p (take n packets) ↔ n < place
exact p conn packets c s place n recorded hc0 hs0 most lc ls h =
    let valid = conn.valid in
    let hc = to_record p packets Client c valid hc0 in
    let hs = to_record p packets Server s valid hs0 in
    let q = proposed_fails (passes p c s (all_copies c s)) place h in
    let f = fails p c s q.0 (all_copies c s) q.1 in
    let low = fails_within p valid packets c s hc hs (all_copies c s) q.0 f in
    let at : q.0 ≡ place - 1 = place_of q.0 place (length packets) q.2 low most in
    let r = crosses_before p valid packets c s hc hs recorded most lc ls (all_copies c s) q.0 f low in (
      λ w. elim (dec_lt n place) [
        | yes y ↦ y
        | no y ↦ absurd (finds_none p conn packets (drop place (take n packets)) c s place hc0 hs0 h
            (subst (λ (k : List Packet). CanCross p k) (take_drop place (take n packets) ∙ ap (λ (x : List Packet). x ++ drop place (take n packets)) (take_take place n packets (omega (arith, y)))) w))
      ],
      λ l. crosses_less p packets n q.0 (omega (arith, at, l)) (omega (arith, low)) r,
    )
