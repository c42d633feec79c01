-- The lists that a builder is given, and what has crossed of them so far.
use Rattle.std.proofs.Common.{◌≡◌, ℕ, ◌+◌, ◌-◌, ◌^◌, ◌<◌, ◌≤◌, false, List, [], ◌∷◌, ◌++◌, length, Option, Some, None, slice_get, refl, ap, sym, ◌∙◌, arith, subst}
use Rattle.rasta_build.proofs.Prelude.{◌==◌, nat_tests, slice_get_within, dec_lt, yes, no, Side, Client, Server, Packet, Parameters, SafetyPdu, Quiet, Made, EndState, first_sn}
use Rattle.rasta_build.proofs.Prelude.{start_by, FirstCopy, get_front, slice_get_some, IsSent, base, base_by, Begins, Sends, peer_quiet_sn, first_sn_of}
use Rattle.rasta_check.specs.Model.World.{other_side}
use Rattle.rasta_check.specs.Model.Taken.{pdus_made, pdus_of}
use Rattle.rasta_check.proofs.Lists.{get_next}
use Rattle.rasta_check.proofs.Capture.FaultlessLists.{ordered}
use Rattle.rasta_check.proofs.Script.ScriptsOfRuns.{copy_at as sent_at}
use Rattle.rasta_check.proofs.Capture.Positions.{places_rise}
use Rattle.rasta_build.specs.Choices.{member_at, copy_there}
use Rattle.rasta_build.proofs.Scans.{AreCopies}

pub begun_get : (big own : List FirstCopy) (n i : ℕ) (c : FirstCopy) → Begins big own n → slice_get own i ≡ Some c → slice_get big i ≡ Some c
begun_get big own n i c b g = subst (λ (l : List FirstCopy). slice_get l i ≡ Some c) (sym b.whole) (get_front own b.later i c g)

pub begun_next : (big own : List FirstCopy) (n : ℕ) (c : FirstCopy) → Begins big own n → slice_get big (length own) ≡ Some c → n ≤ c.place
begun_next big own n c b g = b.place c (sym (get_next own b.later) ∙ (ap (λ (l : List FirstCopy). slice_get l (length own)) (sym b.whole) ∙ g))

-- ---- positions

not_zero : (i : ℕ) → 1 ≤ i → (i == 0) ≡ false
not_zero i h = grind (arith, nat_tests)

member_is : (q : Option Quiet) (s : Side) (i : ℕ) → base_by q ≤ i → member_at (peer_quiet_sn q s) i ≡ Some (i - base_by q)
member_is q s i h = grind arith

-- what the peer made is found in its list
pub found_there : (p : Parameters) (s r : Side) (xs : List Packet) (peer big : List FirstCopy) (f : EndState) (first : ℕ) → Sends p r xs peer f first → Begins big peer (length xs)
    → AreCopies (peer_quiet_sn p.quiet s) big f.made (base p) (length xs)
found_there p s r xs peer big f first h b i m g l =
    let j : ℕ = i - base p in
    let at : slice_get f.made (base p + j) ≡ Some m = subst (λ n. slice_get f.made n ≡ Some m) (omega (arith, l)) g in
    let c = sent_at p r xs peer f first j m h at in
    let t = begun_get big peer (length xs) j c.0 b c.1 in
    let fs = h.sent.firsts j c.0 c.1 in
    let mem : member_at (peer_quiet_sn p.quiet s) i ≡ Some j = member_is p.quiet s i l in
    (c.0, ap (copy_there big) mem ∙ t, c.2, slice_get_within xs c.0.place fs.0 fs.1)

first_of_pdus : (ms : List Made) (x : SafetyPdu) (xs : List SafetyPdu) → pdus_made ms ≡ x ∷ xs → first_sn ms ≡ x.sn
first_of_pdus ms x xs h = grind arith

no_pdus : (ms : List Made) → pdus_made ms ≡ [] → ms ≡ []
no_pdus [] h = refl
no_pdus (m ∷ ms) h = absurd (cc)

fresh_first : (s r : Side) (own big later : List FirstCopy) (ms : List Made) → pdus_made ms ≡ pdus_of own → big ≡ own ++ later → 0 < length ms → first_sn_of None big ≡ Some (first_sn ms)
fresh_first s r [] big later ms h b l = absurd (let z = no_pdus ms h in let y = ap (λ (k : List Made). length k) z in omega (arith, l, y))
fresh_first s r (c ∷ own) big later ms h b l = (let z = first_of_pdus ms c.pdu.safety (pdus_of own) h in ap (first_sn_of None) b ∙ ap Some (sym z))

first_by : (q : Option Quiet) (s r : Side) (own big later : List FirstCopy) (ms : List Made) → r ≡ other_side s → pdus_made ms ≡ pdus_made (start_by q r).made ++ pdus_of own → big ≡ own ++ later → 0 < length ms
    → first_sn_of (peer_quiet_sn q s) big ≡ Some (first_sn ms)
first_by None Client Server own big later ms e h b l = fresh_first Client Server own big later ms h b l
first_by None Server Client own big later ms e h b l = fresh_first Server Client own big later ms h b l
first_by (Some q) Client Server own big later ms e h b l = ap Some (sym (first_of_pdus ms _ (pdus_of own) h))
first_by (Some q) Server Client own big later ms e h b l = ap Some (sym (first_of_pdus ms _ (pdus_of own) h))
first_by None Client Client own big later ms e h b l = absurd (cc)
first_by None Server Server own big later ms e h b l = absurd (cc)
first_by (Some q) Client Client own big later ms e h b l = absurd (cc)
first_by (Some q) Server Server own big later ms e h b l = absurd (cc)

-- its first SN is known
pub first_there : (p : Parameters) (s r : Side) (xs : List Packet) (peer big : List FirstCopy) (f : EndState) (first : ℕ) → r ≡ other_side s → Sends p r xs peer f first → Begins big peer (length xs)
    → 0 < length f.made → first_sn_of (peer_quiet_sn p.quiet s) big ≡ Some (first_sn f.made)
first_there p s r xs peer big f first e h b l = first_by p.quiet s r peer big b.later f.made e h.same b.whole l

-- ---- members

-- a later member crosses later
pub sent_rises : (p : Parameters) (packets : List Packet) (side : Side) (own : List FirstCopy) → IsSent p packets side own → (i j : ℕ) (a b : FirstCopy) → slice_get own i ≡ Some a → slice_get own j ≡ Some b → i ≤ j → a.place ≤ b.place
sent_rises p packets side own h i j a b x y l =
    elim (dec_lt i j) [
      | yes z ↦ (let r = places_rise own (ordered h) i j a b x y z in omega (arith, r))
      | no z ↦ (let w : j ≡ i = omega arith in let e : a ≡ b = (let y' : slice_get own i ≡ Some b = subst (λ k. slice_get own k ≡ Some b) w y in cc) in let q = ap (λ (k : FirstCopy). k.place) e in omega (arith, q))
    ]

-- numbers have 32 bits
pub sent_numbers : (p : Parameters) (packets : List Packet) (side : Side) (own : List FirstCopy) → IsSent p packets side own → (i : ℕ) (a : FirstCopy) → slice_get own i ≡ Some a → a.pdu.number < 2 ^ 32
sent_numbers p packets side own h i a g = (let l = slice_get_within own i a g in let first = slice_get_some own 0 (omega (arith, l)) in let n = h.numbers i first.0 a first.1 g in omega (arith, n))

-- each member is the copy of a packet
pub sent_within : (p : Parameters) (packets : List Packet) (side : Side) (own : List FirstCopy) → IsSent p packets side own → (i : ℕ) (a : FirstCopy) → slice_get own i ≡ Some a → a.place < length packets
sent_within p packets side own h i a g = (let f = h.firsts i a g in slice_get_within packets a.place f.0 f.1)

-- members after those that crossed cross later
pub later_place : (p : Parameters) (packets : List Packet) (side : Side) (big own : List FirstCopy) (n j : ℕ) (d : FirstCopy) → IsSent p packets side big → Begins big own n → length own ≤ j → slice_get big j ≡ Some d → n ≤ d.place
later_place p packets side big own n j d h b l g =
    let w = slice_get_within big j d g in
    let first = slice_get_some big (length own) (omega (arith, l, w)) in
    let low = begun_next big own n first.0 b first.1 in
    let r = sent_rises p packets side big h (length own) j first.0 d first.1 g l in
    omega (arith, r, low)
