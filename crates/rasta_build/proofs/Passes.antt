-- The pass explains what a run sent; where it fails, no run sends packets that begin so.
use Rattle.std.proofs.Common.{◌≡◌, ℕ, zero, suc, ◌+◌, ◌-◌, ◌^◌, ◌<◌, ◌≤◌, ◌⊎◌, Bool, true, false, List, [], ◌∷◌, ◌++◌, length, Option, Some, None, Result, Ok, Err, slice_get, take, drop, refl, ap, sym, ◌∙◌, arith, inl, inr, subst, ⊎_elim, length-append}
use Rattle.rasta_build.proofs.Prelude.{nat_lt, if◌then◌else◌, min, slice_get_within, dec_lt, yes, no, fault_at, not_found, Fault, Side, Client, Server, Packet, Parameters}
use Rattle.rasta_build.proofs.Prelude.{AreParameters, Scripts, FirstCopy, Sent, OfConnection, Station, IsSent, to_record, made_more, start_of, take_leaves, Sends}
use Rattle.rasta_build.proofs.Prelude.{sends_count, Built, SidedCopy, first_of, Pass, first_pass, one_more, pass_on, passes, copy_goes, client_goes, server_goes}
use Rattle.rasta_build.proofs.Prelude.{scripts_of, proposed_by, proposal, all_copies, CanCross, Begins}
use Rattle.std.proofs.lemmas.List.{take-append-le, append_assoc, append-nil}
use native.Mathlib.Decide.{dec_le}
use Rattle.rasta_pcap.specs.Fault.{too_many_entries}
use Rattle.rasta_check.specs.Model.World.{World, Move, Moves, makes, repeats, arrives, takes, waits, Step, side_moves, end_of, Reaches, begins, goes_on, first_world, KeepsLimit}
use Rattle.rasta_check.proofs.Capture.FirstCopies.{sent_once, sent_none}
use Rattle.rasta_check.proofs.Model.Steps.{start_base}
use Rattle.rasta_check.proofs.Model.InvariantOfRuns.{all_held}
use Rattle.rasta_check.proofs.Model.History.{stepped}
use Rattle.rasta_check.proofs.Script.ScriptsOfRuns.{told}
use Rattle.rasta_build.specs.Proposing.{side_goes}
use Rattle.rasta_check.proofs.Capture.NextPackets.{cut}
use Rattle.rasta_build.proofs.SentLists.{later_place}
use Rattle.rasta_build.proofs.Beginning.{follows_first}
use Rattle.rasta_build.proofs.Simulation.{Keeps, few_list, few_made, in_range, step_keeps}

-- ---- along a run

-- what a step adds to the packets, and that clocks don't fall
record Onward (v w : World) : Type 0 where
  pub tail : List Packet
  pub crossed : w.crossed ≡ v.crossed ++ tail
  pub client : v.client.state.clock ≤ w.client.state.clock
  pub server : v.server.state.clock ≤ w.server.state.clock

move_on : (p : Parameters) (b a a' : Station) (xs ys : List Packet) {move : Move} → Moves p b xs a move a' ys → (tail : List Packet) × (ys ≡ xs ++ tail) × (a.state.clock ≤ a'.state.clock)
move_on p b a a' xs ys (makes x why e' ch res chk bs mk sp rec) = (let m = made_more p a.state x a.clock why e' mk in let n = m.now in let r = m.rises in (_, refl, omega (arith, n, r)))
move_on p b a a' xs ys (repeats place ch old c s rec) = (_, refl, omega arith)
move_on p b a a' xs ys (arrives q low i) = ([], sym (append-nil xs), omega arith)
move_on p b a a' xs ys (takes q m e' c i s t) = (let l = take_leaves p a.state m.pdu in let z : e'.clock ≡ a.state.clock = ap (λ (e : _). e.clock) t.1 ∙ l.clock in ([], sym (append-nil xs), omega (arith, z)))
move_on p b a a' xs ys (waits c i) = ([], sym (append-nil xs), omega arith)

onward : (p : Parameters) (v w : World) → Step p v w → Onward v w
onward p v w (side_moves {a = a} {after = ys} Client m) = (let h = move_on p v.server v.client a v.crossed ys m in record { tail = h.0; crossed = h.1; client = h.2; server = omega arith })
onward p v w (side_moves {a = a} {after = ys} Server m) = (let h = move_on p v.client v.server a v.crossed ys m in record { tail = h.0; crossed = h.1; client = omega arith; server = h.2 })

-- the clocks of both ends are within the limit
abbrev Clocks : World → Type 0
Clocks w = (w.client.state.clock < 2 ^ 64) × (w.server.state.clock < 2 ^ 64)

within_before : (p : Parameters) (v w : World) → Step p v w → KeepsLimit p w → (side : Side) → length (end_of v side).made ≤ (start_of p side).base + 1000000
within_before p v w st b side = (let x = ((stepped p v w st).ends side).longer in let y = b side in omega (arith, x, y))

clocks_before : (p : Parameters) (v w : World) → Step p v w → Clocks w → Clocks v
clocks_before p v w st c = (let o = onward p v w st in let x = o.client in let y = o.server in let z = c.0 in let u = c.1 in (omega (arith, x, z), omega (arith, y, u)))

module _ (p : Parameters) (valid : AreParameters p) (packets : List Packet) (c s : List FirstCopy) (hc : IsSent p packets Client c) (hs : IsSent p packets Server s) where
  -- the lists begin with what has crossed
  begun : (side : Side) (big own : List FirstCopy) (w : World) (a : Station) (rest : List Packet) → IsSent p packets side big → packets ≡ w.crossed ++ rest → Sends p side w.crossed own a.state a.first_number → length a.state.made ≤ 1000001
      → Begins big own (length w.crossed)
  begun side big own w a rest h e g l =
      let r = cut p rest w.crossed side big (subst (λ (k : List Packet). IsSent p k side big) e h) in
      subst (λ (o : List FirstCopy). Begins big o (length w.crossed)) (sym (sent_once p w.crossed side own r.0 g.sent r.1 (few_list p side w.crossed own a g l))) r.2

  -- the pass explains each first copy that crosses
  pub simulated : (ws : List World) (w : World) (r : Reaches p ws w) (rest : List Packet) → packets ≡ w.crossed ++ rest → KeepsLimit p w → Clocks w → Keeps p c s (told p valid ws w r).own (told p valid ws w r).peer w
  simulated ws w (begins m n) rest e b k =
      let g = told p valid [] (first_world p m n) (begins m n) in
      let few = few_made p (first_world p m n) b in
      let mine : g.own ≡ [] = sent_once p [] Client g.own [] g.sends.sent (sent_none p Client valid) (few_list p Client [] g.own w.client g.sends (few Client)) in
      let theirs : g.peer ≡ [] = sent_once p [] Server g.peer [] g.their_sends.sent (sent_none p Server valid) (few_list p Server [] g.peer w.server g.their_sends (few Server)) in
      let start : Keeps p c s [] [] (first_world p m n) = record {
        pass = first_pass p;
        done = refl;
        made = refl;
        answered = refl;
        client = follows_first p Client w.server.state.made s;
        server = follows_first p Server w.client.state.made c;
      } in
      subst (λ (o : List FirstCopy). Keeps p c s o g.peer (first_world p m n)) (sym mine) (subst (λ (q : List FirstCopy). Keeps p c s [] q (first_world p m n)) (sym theirs) start)
  simulated ws w (goes_on {ws = us} {w = v} r st) rest e b k =
      let bv = within_before p v w st b in
      let kv = clocks_before p v w st k in
      let o = onward p v w st in
      let ev : packets ≡ v.crossed ++ (o.tail ++ rest) = e ∙ (ap (λ (l : List Packet). l ++ rest) o.crossed ∙ append_assoc v.crossed o.tail rest) in
      let gv = told p valid us v r in
      let gw = told p valid (us ++ v ∷ []) w (goes_on r st) in
      let fv = few_made p v bv in
      let fw = few_made p w b in
      step_keeps p valid c s v w st gv gw (all_held p us v Client r (in_range p v bv)) (all_held p (us ++ v ∷ []) w Client (goes_on r st) (in_range p w b)) bv b k
      (begun Client c gv.own v v.client (o.tail ++ rest) hc ev gv.sends (fv Client)) (begun Server s gv.peer v v.server (o.tail ++ rest) hs ev gv.their_sends (fv Server))
      (begun Client c gw.own w w.client rest hc e gw.sends (fw Client)) (begun Server s gw.peer w w.server rest hs e gw.their_sends (fw Server))
      (simulated us v r (o.tail ++ rest) ev bv kv)

  few_sent : (side : Side) (xs : List Packet) (big own : List FirstCopy) (a : Station) → Sends p side xs own a.state a.first_number → own ≡ big → length a.state.made ≤ (start_of p side).base + 1000000 → length big ≤ 1000000
  few_sent side xs big own a g e l = (let x = sends_count p side xs own a.state a.first_number g in let y = ap length e in let z = start_base p.quiet side in omega (arith, x, y, z, l))

  -- a run that sends just these packets is explained as a whole
  pub explained : (ws : List World) (w : World) → Reaches p ws w → w.crossed ≡ packets → KeepsLimit p w → Clocks w
      → (t : Pass) × (passes p c s (length c + length s) ≡ Ok t) × (t.made ≡ length c) × (t.answered ≡ length s) × (length c ≤ 1000000) × (length s ≤ 1000000)
  explained ws w r e b k =
      let g = told p valid ws w r in
      let few = few_made p w b in
      let h = simulated ws w r [] (sym e ∙ sym (append-nil w.crossed)) b k in
      let same_c : g.own ≡ c = sent_once p w.crossed Client g.own c g.sends.sent (subst (λ (x : List Packet). IsSent p x Client c) (sym e) hc) (few_list p Client w.crossed g.own w.client g.sends (few Client)) in
      let same_s : g.peer ≡ s = sent_once p w.crossed Server g.peer s g.their_sends.sent (subst (λ (x : List Packet). IsSent p x Server s) (sym e) hs) (few_list p Server w.crossed g.peer w.server g.their_sends (few Server)) in (
        h.pass,
        ap (λ (o : List FirstCopy). passes p c s (length o + length s)) (sym same_c) ∙ (ap (λ (q : List FirstCopy). passes p c s (length g.own + length q)) (sym same_s) ∙ h.done),
        h.made ∙ ap (λ (o : List FirstCopy). length o) same_c,
        h.answered ∙ ap (λ (o : List FirstCopy). length o) same_s,
        few_sent Client w.crossed c g.own w.client g.sends same_c (b Client),
        few_sent Server w.crossed s g.peer w.server g.their_sends same_s (b Server),
      )

-- ---- earlier worlds

take_all : {A : Type 0} (xs : List A) → take (length xs) xs ≡ xs
take_all [] = refl
take_all (x ∷ xs) = ap (λ ys. x ∷ ys) (take_all xs)

-- a run passes through each beginning of what it sends
pub early : (p : Parameters) (ws : List World) (w : World) → Reaches p ws w → KeepsLimit p w → Clocks w → (n : ℕ) → n ≤ length w.crossed → (us : List World) × (u : World) × Reaches p us u × (u.crossed ≡ take n w.crossed) × KeepsLimit p u × Clocks u
early p ws w (begins m k) b c n l = ([], first_world p m k, begins m k, none n, b, c)
  where
    none : (n : ℕ) → ◌≡◌ {A = List Packet} [] (take n [])
    none zero = refl
    none (suc n) = refl
early p ws w (goes_on {ws = us} {w = v} r st) b c n l =
    elim (dec_le n (length v.crossed)) [
      | yes y ↦ (let h = early p us v r (within_before p v w st b) (clocks_before p v w st c) n y in let o = onward p v w st in
          (h.0, h.1, h.2, h.3 ∙ (sym (take-append-le n v.crossed o.tail y) ∙ ap (λ (x : List Packet). take n x) (sym o.crossed)), h.4, h.5))
      | no y ↦ (let d = stepped p v w st in let m = d.more in let z : n ≡ length w.crossed = at_end n (length v.crossed) (length w.crossed) y l m in
          (us ++ v ∷ [], w, goes_on r st, sym (ap (λ k. take k w.crossed) z ∙ take_all w.crossed), b, c))
    ]
  where
    at_end : (n m k : ℕ) → (n ≤ m → ⊥) → n ≤ k → k ≤ suc m → n ≡ k
    at_end n m k h l q = omega arith

-- ---- where the pass fails

-- the first copy that isn't explained
pub record Fails (p : Parameters) (c s : List FirstCopy) (place : ℕ) (n : ℕ) : Type 0 where
  pub k : ℕ
  pub below : k < n
  pub pass : Pass
  pub before : passes p c s k ≡ Ok pass
  pub here : one_more c s pass ≡ Err place

fails_by : (p : Parameters) (c s : List FirstCopy) (place n : ℕ) (r : Result Pass ℕ) → passes p c s n ≡ r → pass_on r (one_more c s) ≡ Err place → (passes p c s n ≡ Err place → Fails p c s place n) → Fails p c s place (suc n)
fails_by p c s place n (Ok t) h g rest = record { k = n; below = omega arith; pass = t; before = h; here = g }
fails_by p c s place n (Err q) h g rest = (let f = rest (h ∙ g) in record { k = f.k; below = (let z = f.below in omega (arith, z)); pass = f.pass; before = f.before; here = f.here })

pub fails : (p : Parameters) (c s : List FirstCopy) (place n : ℕ) → passes p c s n ≡ Err place → Fails p c s place n
fails p c s place zero h = absurd (cc)
fails p c s place (suc n) h = fails_by p c s place n (passes p c s n) refl h (λ g. fails p c s place n g)

-- what fails stays so
fails_more : (p : Parameters) (c s : List FirstCopy) (place n d : ℕ) → passes p c s n ≡ Err place → passes p c s (d + n) ≡ Err place
fails_more p c s place n zero h = (let e : 0 + n ≡ n = omega arith in ap (λ k. passes p c s k) e ∙ h)
fails_more p c s place n (suc d) h = (let e : suc d + n ≡ suc (d + n) = omega arith in ap (λ k. passes p c s k) e ∙ ap (λ (r : Result Pass ℕ). pass_on r (one_more c s)) (fails_more p c s place n d h))

-- the copy of the failure is the next of one of the lists
record Failing (c s : List FirstCopy) (t : Pass) (place : ℕ) : Type 0 where
  pub copy : FirstCopy
  pub where_is : (slice_get c t.made ≡ Some copy) ⊎ (slice_get s t.answered ≡ Some copy)
  pub at : copy.place ≡ place

client_place : (t : Pass) (q place : ℕ) (o : Option Built) → client_goes t q o ≡ Err place → q ≡ place
client_place t q place o h = grind arith

server_place : (t : Pass) (q place : ℕ) (o : Option Built) → server_goes t q o ≡ Err place → q ≡ place
server_place t q place o h = grind arith

failing_by : (c s : List FirstCopy) (t : Pass) (place : ℕ) (a b : Option FirstCopy) → slice_get c t.made ≡ a → slice_get s t.answered ≡ b → copy_goes c s t (first_of a b) ≡ Err place → Failing c s t place
failing_by c s t place None None x y h = absurd (cc)
failing_by c s t place (Some d) None x y h = record { copy = d; where_is = inl x; at = client_place t d.place place _ h }
failing_by c s t place None (Some d) x y h = record { copy = d; where_is = inr y; at = server_place t d.place place _ h }
failing_by c s t place (Some d) (Some f) x y h = by (nat_lt d.place f.place) h
  where
    by : (l : Bool) → copy_goes c s t (Some (if l then record { side = Client; copy = d } else record { side = Server; copy = f })) ≡ Err place → Failing c s t place
    by true h = record { copy = d; where_is = inl x; at = client_place t d.place place _ h }
    by false h = record { copy = f; where_is = inr y; at = server_place t f.place place _ h }

-- counts don't fall
client_grows : (t t' : Pass) (q : ℕ) (o : Option Built) → client_goes t q o ≡ Ok t' → (t.made ≤ t'.made) × (t.answered ≤ t'.answered)
client_grows t t' q o h = grind arith

server_grows : (t t' : Pass) (q : ℕ) (o : Option Built) → server_goes t q o ≡ Ok t' → (t.made ≤ t'.made) × (t.answered ≤ t'.answered)
server_grows t t' q o h = grind arith

one_grows : (c s : List FirstCopy) (t t' : Pass) (o : Option SidedCopy) → copy_goes c s t o ≡ Ok t' → (t.made ≤ t'.made) × (t.answered ≤ t'.answered)
one_grows c s t t' None h = (let e : t ≡ t' = cc in let x = ap (λ (z : Pass). z.made) e in let y = ap (λ (z : Pass). z.answered) e in (omega (arith, x), omega (arith, y)))
one_grows c s t t' (Some x) h = by x.side x.copy h
  where
    by : (sd : Side) (d : FirstCopy) → side_goes sd c s t d ≡ Ok t' → (t.made ≤ t'.made) × (t.answered ≤ t'.answered)
    by Client d h = client_grows t t' d.place _ h
    by Server d h = server_grows t t' d.place _ h

more_grows : (p : Parameters) (c s : List FirstCopy) (n d : ℕ) (t t' : Pass) → passes p c s n ≡ Ok t → passes p c s (d + n) ≡ Ok t' → (t.made ≤ t'.made) × (t.answered ≤ t'.answered)
more_grows p c s n zero t t' h g =
    let z : 0 + n ≡ n = omega arith in
    let g' : passes p c s n ≡ Ok t' = ap (λ k. passes p c s k) (sym z) ∙ g in
    let e : t ≡ t' = cc in let x = ap (λ (k : Pass). k.made) e in let y = ap (λ (k : Pass). k.answered) e in (omega (arith, x), omega (arith, y))
more_grows p c s n (suc d) t t' h g =
    let z : suc d + n ≡ suc (d + n) = omega arith in
    let g' : pass_on (passes p c s (d + n)) (one_more c s) ≡ Ok t' = ap (λ k. passes p c s k) (sym z) ∙ g in
    by (passes p c s (d + n)) refl g' (λ u k. more_grows p c s n d t u h k)
  where
    by : (r : Result Pass ℕ) → passes p c s (d + n) ≡ r → pass_on r (one_more c s) ≡ Ok t' → ((u : Pass) → passes p c s (d + n) ≡ Ok u → (t.made ≤ u.made) × (t.answered ≤ u.answered)) → (t.made ≤ t'.made) × (t.answered ≤ t'.answered)
    by (Ok u) k l rest = (let x = rest u k in let y = one_grows c s u t' (first_of (slice_get c u.made) (slice_get s u.answered)) l in let x0 = x.0 in let x1 = x.1 in let y0 = y.0 in let y1 = y.1 in (omega (arith, x0, y0), omega (arith, x1, y1)))
    by (Err q) k l rest = absurd (cc)

-- ---- the theorem

abbrev chosen : Bool → Pass → Result Scripts Fault
chosen b t = if b then Err (fault_at too_many_entries 0) else Ok (scripts_of t)

pub proposed_fails : (r : Result Pass ℕ) (place : ℕ) → proposed_by r ≡ Err (fault_at not_found place) → (q : ℕ) × (r ≡ Err q) × (min (q + 1) 4294967295 ≡ place)
proposed_fails r place h = grind arith

take_front : {A : Type 0} (n : ℕ) (xs ys : List A) → n ≤ length xs → take n (xs ++ ys) ≡ take n xs
take_front n xs ys l = take-append-le n xs ys l

pub length_take : {A : Type 0} (n : ℕ) (xs : List A) → n ≤ length xs → length (take n xs) ≡ n
length_take zero xs l = refl
length_take (suc n) [] l = absurd (omega arith)
length_take (suc n) (x ∷ xs) l = ap suc (length_take n xs (omega arith))

pub take_drop : {A : Type 0} (n : ℕ) (xs : List A) → xs ≡ take n xs ++ drop n xs
take_drop zero xs = refl
take_drop (suc n) [] = refl
take_drop (suc n) (x ∷ xs) = ap (λ ys. x ∷ ys) (take_drop n xs)

take_of_front : {A : Type 0} (n : ℕ) (w xs ys : List A) → w ≡ take n xs ++ ys → n ≤ length xs → take n w ≡ take n xs
take_of_front n w xs ys e l =
    let z = length_take n xs l in
    ap (λ k. take n k) e ∙ (take-append-le n (take n xs) ys (omega (arith, z)) ∙ (ap (λ k. take k (take n xs)) (sym z) ∙ take_all (take n xs)))

module _ (p : Parameters) (valid : AreParameters p) (packets : List Packet) (c s : List FirstCopy) (hc : IsSent p packets Client c) (hs : IsSent p packets Server s) where
  -- the pass doesn't fail at a place below that of a world of a run that sends a beginning of the packets
  not_failing : (us : List World) (u : World) → Reaches p us u → (rest : List Packet) → packets ≡ u.crossed ++ rest → KeepsLimit p u → Clocks u → (n place : ℕ) → Fails p c s place n → place < length u.crossed → ⊥
  not_failing us u r rest e b k n place f l =
      let g = told p valid us u r in
      let few = few_made p u b in
      let h = simulated p valid packets c s hc hs us u r rest e b k in
      let m : ℕ = length g.own + length g.peer in
      let bc = begun p valid packets c s hc hs Client c g.own u u.client rest hc e g.sends (few Client) in
      let bs = begun p valid packets c s hc hs Server s g.peer u u.server rest hs e g.their_sends (few Server) in
      let wrong : passes p c s (suc f.k) ≡ Err place = ap (λ (z : Result Pass ℕ). pass_on z (one_more c s)) f.before ∙ f.here in
      elim (dec_lt f.k m) [
        | yes y ↦ (let z : (m - suc f.k) + suc f.k ≡ m = omega arith in
            let w : passes p c s m ≡ Err place = ap (λ i. passes p c s i) (sym z) ∙ fails_more p c s place (suc f.k) (m - suc f.k) wrong in
            let d = h.done in cc)
        | no y ↦ (let z : (f.k - m) + m ≡ f.k = omega arith in
            let w : passes p c s ((f.k - m) + m) ≡ Ok f.pass = ap (λ i. passes p c s i) z ∙ f.before in
            let q = more_grows p c s m (f.k - m) h.pass f.pass h.done w in
            let a = failing_by c s f.pass place (slice_get c f.pass.made) (slice_get s f.pass.answered) refl refl f.here in
            let x = h.made in
            let v = h.answered in
            let q0 = q.0 in
            let q1 = q.1 in
            let t = a.at in
            ⊎_elim
            (λ (i : slice_get c f.pass.made ≡ Some a.copy). (let o = later_place p packets Client c g.own (length u.crossed) f.pass.made a.copy hc bc (omega (arith, q0, x)) i in let no_place : ⊥ = omega (arith, o, t, l) in no_place))
            (λ (i : slice_get s f.pass.answered ≡ Some a.copy). (let o = later_place p packets Server s g.peer (length u.crossed) f.pass.answered a.copy hs bs (omega (arith, q1, v)) i in let no_place : ⊥ = omega (arith, o, t, l) in no_place))
            a.where_is)
      ]

  -- the place of the failure is that of a packet
  pub fails_within : (n place : ℕ) → Fails p c s place n → place < length packets
  fails_within n place f =
      let a = failing_by c s f.pass place (slice_get c f.pass.made) (slice_get s f.pass.answered) refl refl f.here in
      let t = a.at in
      ⊎_elim
      (λ (i : slice_get c f.pass.made ≡ Some a.copy). (let w = hc.firsts f.pass.made a.copy i in let l = slice_get_within packets a.copy.place w.0 w.1 in omega (arith, l, t)))
      (λ (i : slice_get s f.pass.answered ≡ Some a.copy). (let w = hs.firsts f.pass.answered a.copy i in let l = slice_get_within packets a.copy.place w.0 w.1 in omega (arith, l, t)))
      a.where_is

-- where 60 is proposed at a place, no run within the limits sends packets that begin with those up to it
pub finds_none : (p : Parameters) → OfConnection p → (packets rest : List Packet) (c s : List FirstCopy) (place : ℕ) → Sent p packets Client c → Sent p packets Server s
    → proposal p c s ≡ Err (fault_at not_found place)
    → CanCross p (take place packets ++ rest) → ⊥
finds_none p conn packets rest c s place hc0 hs0 h x =
    let w = x.last in
    let b = x.bounded in
    let e = x.crossed in
    let valid = conn.valid in
    let hc = to_record p packets Client c valid hc0 in
    let hs = to_record p packets Server s valid hs0 in
    let q = proposed_fails (passes p c s (all_copies c s)) place h in
    let f = fails p c s q.0 (all_copies c s) q.1 in
    let low = fails_within p valid packets c s hc hs (all_copies c s) q.0 f in
    let at = q.2 in
    let small : place ≤ length packets = least_place q.0 place (length packets) at low in
    let lt = length_take place packets small in
    let le = ap length e in
    let la = length-append (take place packets) rest in
    let most = b.packets in
    let exact : place ≡ suc q.0 = exact_place q.0 place at (omega (arith, lt, le, la, most)) in
    let u = early p x.worlds w x.reached b.pdus (b.client_clock, b.server_clock) place (omega (arith, lt, le, la)) in
    let crossed : u.1.crossed ≡ take place packets = u.3 ∙ take_of_front place w.crossed packets rest e small in
    let whole : packets ≡ u.1.crossed ++ drop place packets = take_drop place packets ∙ ap (λ (x : List Packet). x ++ drop place packets) (sym crossed) in
    let lc = ap length crossed in
    not_failing p valid packets c s hc hs u.0 u.1 u.2 (drop place packets) whole u.4 u.5 (all_copies c s) q.0 f (omega (arith, lc, lt, exact))
  where
    least_place : (q place n : ℕ) → min (q + 1) 4294967295 ≡ place → q < n → place ≤ n
    least_place q place n h l = omega arith

    exact_place : (q place : ℕ) → min (q + 1) 4294967295 ≡ place → place ≤ 16000000 → place ≡ suc q
    exact_place q place h l = omega arith
