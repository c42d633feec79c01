-- Along a run: the first copies so far, and a script for each end.
use Rattle.std.proofs.Common.{◌≡◌, ℕ, suc, ◌+◌, ◌-◌, ◌<◌, ◌≤◌, Bool, false, List, [], ◌∷◌, ◌++◌, length, Option, Some, None, slice_get, refl, ap, sym, ◌∙◌, arith, subst, ⊎_elim, length-append}
use Rattle.rasta_check.proofs.Prelude.{append-nil, append_assoc, length_push, length-map, map-append, slice_get_within, Side, Client, Server, Packet, Parameters}
use Rattle.rasta_check.proofs.Prelude.{AreParameters, SafetyPdu, RedundancyPdu, Entry, Take, Make, Owed, Why, Made, EndState, wrapped, Makes, Takes, start_of, FirstCopy, Station}
use Rattle.rasta_check.proofs.Prelude.{World, Reaches, other_side, station_of, ScriptCursor, Advances, takes_next, makes_next, Leads, at_start, Follows, first_that_holds, take_fault}
use Rattle.rasta_check.proofs.Prelude.{Spells, Move, Moves, makes, repeats, arrives, takes, waits, side_moves, begins, goes_on, first_station, pdus_of, pdus_made, get_push_cases}
use Rattle.rasta_check.proofs.Prelude.{get_front, get_push, get_past, map_at, get_mapped}
use Rattle.rasta_pcap.specs.Fault.{reply_owed, past_deadline}
use Rattle.rasta_end.specs.State.{is_owing}
use Rattle.rasta_end.specs.MakeRule.{is_past}
use Rattle.rasta_check.proofs.Model.Steps.{base, start_base, start_made, start_side, made_more}
use Rattle.rasta_check.specs.Model.World.{Step}
use Rattle.rasta_cert.specs.Certificate.{most_entries}
use Rattle.rasta_check.proofs.Capture.FaultlessLists.{IsSent}
use Rattle.rasta_check.proofs.Model.TakeRows.{take_leaves}
use Rattle.rasta_check.proofs.Capture.FirstCopies.{Counts_from, sent_other, sent_copy, sent_first, sent_none, sent_once}

-- one entry more
pub leads_more : (p : Parameters) (n : ℕ) (own peer : List FirstCopy) (u v w : ScriptCursor) (es : List Entry) (x : Entry) → Leads p n own peer u es v → Advances p n own peer v x w → Leads p n own peer u (es ++ x ∷ []) w
leads_more p n own peer u v w [] x f a = (w, rw f a, refl)
leads_more p n own peer u v w (y ∷ es) x f a = (f.0, f.1, leads_more p n own peer f.0 v w es x f.2 a)

-- each make's clock is at most n
abbrev pub ClocksWithin : ℕ → List Entry → Type 0
ClocksWithin n [] = Unit {0}
ClocksWithin n (Take slot number ∷ es) = ClocksWithin n es
ClocksWithin n (Make place clock why ∷ es) = (clock ≤ n) × ClocksWithin n es

clocks_on : (m n : ℕ) (es more : List Entry) → m ≤ n → ClocksWithin m es → ClocksWithin n more → ClocksWithin n (es ++ more)
clocks_on m n [] more l h g = g
clocks_on m n (Take slot number ∷ es) more l h g = clocks_on m n es more l h g
clocks_on m n (Make place clock why ∷ es) more l h g = ((let z = h.0 in omega arith), clocks_on m n es more l h.1 g)

-- each entry raises one of the two marks
pub leads_count : (p : Parameters) (n : ℕ) (own peer : List FirstCopy) (u v : ScriptCursor) (es : List Entry) → Leads p n own peer u es v → length es + u.made_count + u.passed ≤ v.made_count + v.passed
leads_count p n own peer u v [] f = (let a = ap (λ (z : ScriptCursor). z.made_count) f in let b = ap (λ (z : ScriptCursor). z.passed) f in omega arith)
leads_count p n own peer u v (x ∷ es) (m, takes_next slot position c e a b g d f t, r) = (let z = leads_count p n own peer _ v es r in omega arith)
leads_count p n own peer u v (x ∷ es) (m, makes_next c clock why e a g k, r) = (let z = leads_count p n own peer _ v es r in omega arith)

pub taken_within : (p : Parameters) (n : ℕ) (own peer : List FirstCopy) (u v : ScriptCursor) (es : List Entry) → Leads p n own peer u es v → u.passed ≤ length peer → v.passed ≤ length peer
taken_within p n own peer u v [] f l = (let b = ap (λ (z : ScriptCursor). z.passed) f in omega arith)
taken_within p n own peer u v (x ∷ es) (m, takes_next slot position c e a b g d f t, r) l = taken_within p n own peer _ v es r (let z = slice_get_within peer position c g in omega arith)
taken_within p n own peer u v (x ∷ es) (m, makes_next c clock why e a g k, r) l = taken_within p n own peer _ v es r l

-- the deadline test at an earlier moment
past_before : (p : Parameters) (d : Option ℕ) (m n : ℕ) → m ≤ n → is_past p d n ≡ false → is_past p d m ≡ false
past_before p d m n h g = grind arith

pub fault_by : (os : List Owed) (b c : Bool) → (b ≡ false → c ≡ false) → first_that_holds ((is_owing os, reply_owed) ∷ (b, past_deadline) ∷ []) ≡ None → first_that_holds ((is_owing os, reply_owed) ∷ (c, past_deadline) ∷ []) ≡ None
fault_by os b c i h = grind arith

pub earlier : (p : Parameters) (e : EndState) (m n : ℕ) → m ≤ n → take_fault p e n ≡ None → take_fault p e m ≡ None
earlier p e m n l h = (let z = past_before p e.deadline m n l in grind arith)

-- what a station sends: its first copies so far are what it has made since the start_of
pub record Sends (p : Parameters) (s : Side) (xs : List Packet) (own : List FirstCopy) (e : EndState) (first : ℕ) : Type 0 where
  pub sent : IsSent p xs s own
  pub same : pdus_made e.made ≡ pdus_made (start_of p s).made ++ pdus_of own
  pub numbers : Counts_from (first + base p) own
  pub side : e.side ≡ s

-- the members of the one list stand at their positions in the other
abbrev StandIn : List FirstCopy → List FirstCopy → Type 0
StandIn xs ys = (i : ℕ) (c : FirstCopy) → slice_get xs i ≡ Some c → slice_get ys i ≡ Some c

-- a script for it; it leads there too where more has crossed
pub record Told (p : Parameters) (s : Side) (n : ℕ) (own peer : List FirstCopy) (e : EndState) (moment passed_mark : ℕ) : Type 0 where
  pub es : List Entry
  pub at : ScriptCursor
  pub leads : (n' : ℕ) (own' peer' : List FirstCopy) → n ≤ n' → StandIn own own' → StandIn peer peer' → Leads p n' own' peer' (at_start (start_of p s)) es at
  pub made : at.made_count ≡ length own
  pub mark : passed_mark ≡ base p + at.passed
  pub level : at.level ≤ n
  pub state : at.state ≡ e
  pub clock : e.clock ≤ moment
  pub clocks : ClocksWithin e.clock es

pub record Both (p : Parameters) (s r : Side) (xs : List Packet) (a b : Station) : Type 0 where
  pub own : List FirstCopy
  pub peer : List FirstCopy
  pub sends : Sends p s xs own a.state a.first_number
  pub their_sends : Sends p r xs peer b.state b.first_number
  pub told : Told p s (length xs) own peer a.state a.clock a.mark
  pub their_told : Told p r (length xs) peer own b.state b.clock b.mark

pub sends_count : (p : Parameters) (s : Side) (xs : List Packet) (own : List FirstCopy) (e : EndState) (f : ℕ) → Sends p s xs own e f → length e.made ≡ base p + length own
sends_count p s xs own e f h = (let a = simp (length-append, length-map) at (ap length h.same) in let g = start_made p.quiet s in omega arith)

-- the copy at a position of the peer
pub copy_at : (p : Parameters) (s : Side) (xs : List Packet) (own : List FirstCopy) (e : EndState) (f i : ℕ) (m : Made) → Sends p s xs own e f → slice_get e.made (base p + i) ≡ Some m → (c : FirstCopy) × (slice_get own i ≡ Some c) × (c.pdu.safety ≡ m.pdu)
copy_at p s xs own e f i m h g =
    let l : length (pdus_made (start_of p s).made) ≡ base p = length-map (start_of p s).made (λ (x : Made). x.pdu) ∙ start_made p.quiet s in
    let a = rw h.same at (map_at (λ (x : Made). x.pdu) e.made (base p + i) m g) in
    get_mapped (λ (c : FirstCopy). c.pdu.safety) own i m.pdu (sym (get_past (pdus_made (start_of p s).made) (pdus_of own) i) ∙ rw l a)

-- a packet of the other side leaves what an end sends
sends_other : (p : Parameters) (s : Side) (xs : List Packet) (k : Packet) (own : List FirstCopy) (e : EndState) (f : ℕ) → Sends p s xs own e f → (k.side ≡ s → ⊥) → Sends p s (xs ++ k ∷ []) own e f
sends_other p s xs k own e f h apart = record { sent = sent_other p xs k s own h.sent apart; same = h.same; numbers = h.numbers; side = h.side }

told_wider : (p : Parameters) (s : Side) (n n' : ℕ) (own peer peer' : List FirstCopy) (e : EndState) (clock taken : ℕ) → n ≤ n' → StandIn peer peer'
    → Told p s n own peer e clock taken → Told p s n' own peer' e clock taken
told_wider p s n n' own peer peer' e clock taken h1 h2 h3 = grind arith

-- a make
module _ (p : Parameters) (s : Side) (xs : List Packet) (own peer : List FirstCopy) (e e' : EndState) (first clock taken channel reserve : ℕ) (check bytes : List ℕ) (x : SafetyPdu) (why : Why)
    (mk : Makes p e x clock why e') (sp : Spells p e.side (record { number = wrapped (first + length e.made); reserve = reserve; safety = x; check_bytes = check }) bytes)
    (h : Sends p s xs own e first) (t : Told p s (length xs) own peer e clock taken) where
  abbrev datagram : RedundancyPdu
  datagram = record { number = wrapped (first + length e.made); reserve = reserve; safety = x; check_bytes = check }

  abbrev packet : Packet
  packet = record { channel = channel; side = e.side; payload = bytes }

  abbrev copy : FirstCopy
  copy = record { place = length xs; pdu = datagram }

  made_sends : Sends p s (xs ++ packet ∷ []) (own ++ copy ∷ []) e' first
  made_sends =
      let r = sent_first p xs packet s own datagram (first + base p) h.sent h.numbers h.side (rw h.side at sp) (ap (λ n. wrapped n) (let z = sends_count p s xs own e first h in omega arith)) in
      let made = made_more p e x clock why e' mk in
      record {
        sent = r.0;
        same = rw made.made (simp (map-append, made.pdu, h.same, append_assoc));
        numbers = r.1;
        side = made.side ∙ h.side;
      }

  made_told : Told p s (length (xs ++ packet ∷ [])) (own ++ copy ∷ []) peer e' clock taken
  made_told =
      let len = length_push xs packet in
      let made = made_more p e x clock why e' mk in
      record {
        es = t.es ++ Make (length xs) clock why ∷ [];
        at = record { level = suc (length xs); made_count = suc t.at.made_count; passed = t.at.passed; state = e' };
        leads = λ n own' peer' k mine theirs. leads_more p n own' peer' _ _ _ t.es _ (t.leads n own' peer' (omega arith) (λ i c g. mine i c (get_front own (copy ∷ []) i c g)) theirs)
            (makes_next copy clock why e' t.level (mine t.at.made_count copy (rw t.made (get_push own copy))) (subst (λ (z : EndState). Makes p z x clock why e') (sym t.state) mk));
        made = (let z = length_push own copy in omega (arith, t.made));
        mark = t.mark;
        level = omega arith;
        state = refl;
        clock = (let z = made.now in omega arith);
        clocks = rw made.now (clocks_on e.clock clock t.es (Make (length xs) clock why ∷ []) made.rises t.clocks (omega arith, tt));
      }

-- a take
took : (p : Parameters) (s r : Side) (xs : List Packet) (own peer : List FirstCopy) (e e' f : EndState) (clock taken position their : ℕ) (m : Made) → Takes p e m.pdu clock e' → taken ≤ position → slice_get f.made position ≡ Some m
    → Sends p r xs peer f their → Told p s (length xs) own peer e clock taken → Told p s (length xs) own peer e' clock (suc position)
took p s r xs own peer e e' f clock taken position their m tk above g hs t =
    let i : ℕ = position - base p in
    let at : position ≡ base p + i = (let z = t.mark in omega arith) in
    let c = copy_at p r xs peer f their i m hs (rw at at g) in
    let fst = hs.sent.firsts i c.0 c.1 in
    let same : e'.clock ≡ e.clock = ap (λ (z : EndState). z.clock) tk.1 ∙ (take_leaves p e m.pdu).clock in
    record {
      es = t.es ++ Take (length xs) c.0.pdu.number ∷ [];
      at = record { level = length xs; made_count = t.at.made_count; passed = suc i; state = e' };
      leads = λ n own' peer' k mine theirs. leads_more p n own' peer' _ _ _ t.es _ (t.leads n own' peer' k mine theirs)
          (takes_next (length xs) i c.0 e' t.level k (theirs i c.0 c.1) (slice_get_within xs c.0.place fst.0 fst.1) (let z = t.mark in omega arith) (rw t.state (earlier p e e.clock clock t.clock tk.0), rw (t.state, c.2) tk.1));
      made = t.made;
      mark = omega arith;
      level = omega arith;
      state = refl;
      clock = (let z = t.clock in omega arith);
      clocks = rw same (clocks_on e.clock e.clock t.es (Take (length xs) c.0.pdu.number ∷ []) (omega arith) t.clocks tt);
    }

-- of the copies of a list, these are those that had crossed
pub record HadCrossed (packets : ℕ) (list copies : List FirstCopy) : Type 0 where
  pub kept : (j : ℕ) (d : FirstCopy) → slice_get list j ≡ Some d → d.place < packets → slice_get copies j ≡ Some d
  pub listed : (j : ℕ) (d : FirstCopy) → slice_get copies j ≡ Some d → slice_get list j ≡ Some d

pub all_crossed : (n : ℕ) (list : List FirstCopy) → HadCrossed n list list
all_crossed n list = record { kept = λ j d h l. h; listed = λ j d h. h }

-- of the list that a make leaves
but_last : (own : List FirstCopy) (c : FirstCopy) → HadCrossed c.place (own ++ c ∷ []) own
but_last own c = record {
  kept = λ j d at l. ⊎_elim (λ (x : slice_get own j ≡ Some d). x) (λ (x : (j ≡ length own) × (c ≡ d)). absurd (let z = ap (λ (y : FirstCopy). y.place) x.1 in omega (arith, z, l))) (get_push_cases own c j d at);
  listed = λ j d at. get_front own (c ∷ []) j d at;
}

-- what holds after a move, where these lists were sent before
abbrev pub Kept : Parameters → Side → Side → ℕ → List Packet → Station → Station → List FirstCopy → List FirstCopy → Type 0
Kept p s r n ys a b own peer = (g : Both p s r ys a b) × HadCrossed n g.own own × HadCrossed n g.peer peer

-- where nothing crosses, both lists stay
stay : (p : Parameters) (s r : Side) (xs : List Packet) (a a' b : Station) (g : Both p s r xs a b) → Sends p s xs g.own a'.state a'.first_number → Told p s (length xs) g.own g.peer a'.state a'.clock a'.mark
    → Kept p s r (length xs) xs a' b g.own g.peer
stay p s r xs a a' b g sends told = (record { own = g.own; peer = g.peer; sends = sends; their_sends = g.their_sends; told = told; their_told = g.their_told }, all_crossed _ g.own, all_crossed _ g.peer)

both_kept : (p : Parameters) (s r : Side) (xs ys : List Packet) (a a' b : Station) → (s ≡ r → ⊥) → {move : Move} → Moves p b xs a move a' ys → (g : Both p s r xs a b) → Kept p s r (length xs) ys a' b g.own g.peer
both_kept p s r xs ys a a' b apart (makes x why e' ch res chk bs mk sp rec) g =
    let c : FirstCopy = copy p s xs g.own g.peer a.state e' a.first_number a.clock a.mark ch res chk bs x why mk sp g.sends g.told in
    let k : Packet = record { channel = ch; side = a.state.side; payload = bs } in (
      record {
        own = g.own ++ c ∷ [];
        peer = g.peer;
        sends = made_sends p s xs g.own g.peer a.state e' a.first_number a.clock a.mark ch res chk bs x why mk sp g.sends g.told;
        their_sends = sends_other p r xs k g.peer b.state b.first_number g.their_sends (λ z. apart (sym g.sends.side ∙ z));
        told = made_told p s xs g.own g.peer a.state e' a.first_number a.clock a.mark ch res chk bs x why mk sp g.sends g.told;
        their_told = told_wider p r (length xs) _ g.peer g.own (g.own ++ c ∷ []) b.state b.clock b.mark (let z = length_push xs k in omega arith) (λ i d h. get_front g.own (c ∷ []) i d h) g.their_told;
      },
      but_last g.own c,
      all_crossed _ g.peer,
    )
both_kept p s r xs ys a a' b apart (repeats place ch old at sd rec) g =
    let k : Packet = record old { channel = ch } in
    let len = length_push xs k in (
      record {
        own = g.own;
        peer = g.peer;
        sends = record { sent = sent_copy p xs k s g.own place old g.sends.sent at (sd ∙ g.sends.side) refl; same = g.sends.same; numbers = g.sends.numbers; side = g.sends.side };
        their_sends = sends_other p r xs k g.peer b.state b.first_number g.their_sends (λ z. apart (sym (sd ∙ g.sends.side) ∙ z));
        told = told_wider p s (length xs) _ g.own g.peer g.peer a.state a.clock a.mark (omega arith) (λ i c h. h) g.told;
        their_told = told_wider p r (length xs) _ g.peer g.own g.own b.state b.clock b.mark (omega arith) (λ i c h. h) g.their_told;
      },
      all_crossed _ g.own,
      all_crossed _ g.peer,
    )
both_kept p s r xs ys a a' b apart (arrives q low l) g = stay p s r xs a a' b g g.sends g.told
both_kept p s r xs ys a a' b apart (takes q m e' c l at tk) g =
    let left = take_leaves p a.state m.pdu in
    let same : e'.made ≡ a.state.made = ap (λ (z : EndState). z.made) tk.1 ∙ left.made in
    stay p s r xs a a' b g
    (record { sent = g.sends.sent; same = ap pdus_made same ∙ g.sends.same; numbers = g.sends.numbers; side = ap (λ (z : EndState). z.side) tk.1 ∙ (left.side ∙ g.sends.side) })
    (took p s r xs g.own g.peer a.state e' b.state a.clock a.mark q b.first_number m tk l at g.their_sends g.told)
both_kept p s r xs ys a a' b apart (waits c l) g =
    let t = g.told in
    stay p s r xs a a' b g g.sends (record { es = t.es; at = t.at; leads = t.leads; made = t.made; mark = t.mark; level = t.level; state = t.state; clock = (let z = t.clock in omega arith); clocks = t.clocks })

abbrev pub turn : (p : Parameters) (s r : Side) (xs : List Packet) (a b : Station) → Both p s r xs a b → Both p r s xs b a
turn p s r xs a b g = record { own = g.peer; peer = g.own; sends = g.their_sends; their_sends = g.sends; told = g.their_told; their_told = g.told }

first_sends : (p : Parameters) (s : Side) (n : ℕ) → AreParameters p → Sends p s [] [] (start_of p s) n
first_sends p s n valid = record { sent = sent_none p s valid; same = sym (append-nil (pdus_made (start_of p s).made)); numbers = λ i c g. absurd (cc); side = start_side p.quiet s }

first_told : (p : Parameters) (s : Side) → Told p s 0 [] [] (start_of p s) (start_of p s).clock (start_of p s).base
first_told p s = record { es = []; at = at_start (start_of p s); leads = λ n own peer l mine theirs. refl; made = refl; mark = (let z = start_base p.quiet s in omega arith); level = omega arith; state = refl; clock = omega arith; clocks = tt }

pub told_step : (p : Parameters) (v w : World) → Step p v w → (g : Both p Client Server v.crossed v.client v.server) → Kept p Client Server (length v.crossed) w.crossed w.client w.server g.own g.peer
told_step p v w (side_moves {a = a} {after = ys} Client m) g = both_kept p Client Server v.crossed ys v.client a v.server (λ e. cc (e)) m g
told_step p v w (side_moves {a = a} {after = ys} Server m) g =
    let z = both_kept p Server Client v.crossed ys v.server a v.client (λ e. cc (e)) m (turn p Client Server v.crossed v.client v.server g) in
    (turn p Server Client ys a v.client z.0, z.2, z.1)

pub told_first : (p : Parameters) (m n : ℕ) → AreParameters p → Both p Client Server [] (first_station p Client m) (first_station p Server n)
told_first p m n valid = record { own = []; peer = []; sends = first_sends p Client m valid; their_sends = first_sends p Server n valid; told = first_told p Client; their_told = first_told p Server }

pub told : (p : Parameters) → AreParameters p → (ws : List World) (w : World) → Reaches p ws w → Both p Client Server w.crossed w.client w.server
told p valid ws w (begins m n) = told_first p m n valid
told p valid ws w (goes_on {ws = vs} {w = v} r st) = (told_step p v w st (told p valid vs v r)).0

-- of a side and its peer
pub told_by : (p : Parameters) → AreParameters p → (ws : List World) (w : World) (side : Side) → Reaches p ws w → Both p side (other_side side) w.crossed (station_of w side) (station_of w (other_side side))
told_by p h1 ws w side h2 = grind (arith, told)

-- the same for given lists of first copies
pub told_of : (p : Parameters) (ws : List World) (w : World) (side : Side) (own peer : List FirstCopy) → Reaches p ws w → IsSent p w.crossed side own → IsSent p w.crossed (other_side side) peer
    → length own ≤ 2147483647 → length peer ≤ 2147483647 → (g : Both p side (other_side side) w.crossed (station_of w side) (station_of w (other_side side))) × (g.own ≡ own) × (g.peer ≡ peer)
told_of p ws w side own peer r mine theirs few few_theirs =
    let g = told_by p mine.valid ws w side r in
    (g, sym (sent_once p w.crossed side own g.own mine g.sends.sent (omega arith)), sym (sent_once p w.crossed (other_side side) peer g.peer theirs g.their_sends.sent (omega arith)))

-- the whole script of a side
told_whole : (p : Parameters) (s : Side) (n : ℕ) (own peer : List FirstCopy) (e : EndState) (clock taken most : ℕ) → Told p s n own peer e clock taken → e.clock ≤ most
    → (es : List Entry) × Follows p s n own peer es e × (length es ≤ length own + length peer) × ClocksWithin most es
told_whole p s n own peer e clock taken most t l =
    let f = t.leads n own peer (omega arith) (λ i c g. g) (λ i c g. g) in
    let a = leads_count p n own peer _ _ t.es f in
    let b = taken_within p n own peer _ _ t.es f (omega arith) in
    (t.es, (t.at, f, t.made, t.state), omega (arith, t.made), rw append-nil at (clocks_on _ most t.es [] l t.clocks tt))

pub complete : (p : Parameters) (ws : List World) (w : World) (c s : List FirstCopy) → Reaches p ws w
    → IsSent p w.crossed Client c → IsSent p w.crossed Server s → length c ≤ 1000000 → length s ≤ 1000000
    → (n : ℕ) → w.client.state.clock ≤ n → w.server.state.clock ≤ n
    → (cs ss : List Entry)
    × Follows p Client (length w.crossed) c s cs w.client.state × Follows p Server (length w.crossed) s c ss w.server.state
    × (length cs + length ss ≤ most_entries) × ClocksWithin n cs × ClocksWithin n ss
complete p ws w c s r hc hs lc ls n bc bs =
    let g = told_of p ws w Client c s r hc hs (omega (arith, lc)) (omega (arith, ls)) in
    let a = rw (g.1, g.2) at (told_whole p Client _ g.0.own g.0.peer _ _ _ n g.0.told bc) in
    let b = rw (g.1, g.2) at (told_whole p Server _ g.0.peer g.0.own _ _ _ n g.0.their_told bs) in
    (a.0, b.0, a.1, b.1, omega (arith, a.2, b.2), a.3, b.3)
