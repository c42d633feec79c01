-- What the checker answers for a script is the end that it leads to, exactly where it fits.
use Rattle.std.proofs.Common.{◌≡◌, ℕ, suc, ◌+◌, ◌<◌, ◌≤◌, true, false, List, [], ◌∷◌, drop, length, get_or, Option, Some, None, Result, Ok, Err, slice_get, position, MatchResult, ◌⊎◌, inl, inr, refl, ap, sym, ◌∙◌, arith, subst, add-one}
use Rattle.rasta_check.proofs.Prelude.{◌==◌, nat_tests, slice_get-get_or, Fault, Side, Parameters, Entry, Take, Make, Why, EndState, Makes, Takes, start_of, FirstCopy, ScriptCursor}
use Rattle.rasta_check.proofs.Prelude.{Advances, takes_next, makes_next, Leads, at_start, Follows, fault_of_end, no_memory, make_fault, after_make, take_fault, after_take}
use Rattle.rasta_check.proofs.Prelude.{IsOrdered, position_of_number, position_of_place, cursor_unless, made_there, follow_from, follow, Followed}
use Rattle.std.proofs.lemmas.List.{drop_all}
use Rattle.rasta_pcap.specs.Fault.{make_missing}
use Rattle.rasta_end.specs.Judged.{JudgedEnd}
use Rattle.rasta_end.proofs.MakeTests.{no_fault, no_test}
use Rattle.rasta_check.specs.Internals.Checking.{take_entry, make_entry, taken_there, next_cursor, then_follow, moved_to, IsRefusedFollow}
use Rattle.rasta_check.proofs.Lists.{drop_one_more}
use Rattle.rasta_check.proofs.Capture.Positions.{number_found, number_named, place_found, place_named}

-- ---- one entry that is allowed leads on

allowed : (fault : Option ℕ) (w v : ScriptCursor) → cursor_unless fault w ≡ Ok v → (fault ≡ None) × (w ≡ v)
allowed fault w v e = grind arith

module _ (p : Parameters) (packets : ℕ) (own peer : List FirstCopy) where
  -- the code goes on with an entry: from here to there
  pub data Goes : ScriptCursor → Entry → ScriptCursor → Type 0 where
    takes : {u : ScriptCursor} (slot number position : ℕ) (c : FirstCopy) (after : EndState) → u.level ≤ slot → slot ≤ packets
        → position_of_number peer number ≡ Some position → slice_get peer position ≡ Some c → c.place < slot → u.passed ≤ position
        → Takes p u.state c.pdu.safety u.state.clock after
        → Goes u (Take slot number) (record { level = slot; made_count = u.made_count; passed = suc position; state = after })
    makes : {u : ScriptCursor} (place clock : ℕ) (why : Why) (c : FirstCopy) (after : EndState) → u.level ≤ place
        → position_of_place own place ≡ Some u.made_count → slice_get own u.made_count ≡ Some c → c.place ≡ place
        → Makes p u.state c.pdu.safety clock why after
        → Goes u (Make place clock why) (record { level = suc place; made_count = suc u.made_count; passed = u.passed; state = after })

  pub goes : (u v : ScriptCursor) (x : Entry) → next_cursor p packets own peer u x ≡ Ok v → Goes u x v
  unfolding next_cursor
  goes u v (Take slot number) e = by (position_of_number peer number) refl e
    where
      by : (o : Option ℕ) → position_of_number peer number ≡ o → take_entry p packets peer u slot number ≡ Ok v → Goes u (Take slot number) v
      by None k e = absurd (let z = rw k at e in grind arith)
      by (Some position) k e =
          let f = number_found peer number position k in
          let ok : (u.level ≤ slot) × (slot ≤ packets) × (f.0.place < slot) × (u.passed ≤ position) = grind (arith, nat_tests) in
          let d = allowed (take_fault p u.state u.state.clock) (taken_there u slot position (after_take p u.state f.0.pdu.safety)) v (grind arith) in
          subst (Goes u (Take slot number)) d.1 (takes slot number position f.0 _ ok.0 ok.1 k f.1 ok.2 ok.3 (d.0, refl))
  goes u v (Make place clock why) e = by (position_of_place own place) refl e
    where
      by : (o : Option ℕ) → position_of_place own place ≡ o → make_entry p own u place clock why ≡ Ok v → Goes u (Make place clock why) v
      by None k e = absurd (let z = rw k at e in grind arith)
      by (Some position) k e =
          let f = place_found own place position k in
          let same : position ≡ u.made_count = grind (arith, nat_tests) in
          let d = allowed (make_fault p u.state f.0.pdu.safety clock why) (made_there u place (after_make u.state f.0.pdu.safety clock why)) v (grind arith) in
          subst (Goes u (Make place clock why)) d.1 (makes place clock why f.0 _ (grind (arith, nat_tests)) (k ∙ ap Some same) (ap (slice_get own) (sym same) ∙ f.1) f.2 (no_test p u.state f.0.pdu.safety clock why d.0, refl))

  -- what follows by one entry is where it leads
  leads_on : (u v : ScriptCursor) (x : Entry) → Goes u x v → Advances p packets own peer u x v
  leads_on u v x (takes slot number position c after low high at g front up t) =
      let f = number_found peer number position at in
      let named : c.pdu.number ≡ number = (let same : f.0 ≡ c = cc (f.1) in cc (f.2)) in
      rw (sym named) (takes_next slot position c after low high g front up t)
  leads_on u v x (makes place clock why c after low at g same m) = rw (sym same) (makes_next {u = u} c clock why after (omega arith) g m)

  -- these entries lead from here to an end, and make the whole list
  abbrev Ends : ScriptCursor → List Entry → EndState → Type 0
  Ends u es e = (v : ScriptCursor) × Leads p packets own peer u es v × (v.made_count ≡ length own) × (v.state ≡ e)

  leads_from : (side : Side) (entry : ℕ) (u : ScriptCursor) (es : List Entry) (e : EndState) → follow_from p side packets own peer entry u es ≡ Ok e → Ends u es e
  unfolding follow_from
  leads_from side entry u [] e h = (let all : u.made_count ≡ length own = grind (arith, nat_tests) in (u, refl, all, grind arith))
  leads_from side entry u (x ∷ xs) e h = by (next_cursor p packets own peer u x) refl h (λ v k. leads_from side (suc entry) v xs e k)
    where
      by : (r : Result ScriptCursor ℕ) → next_cursor p packets own peer u x ≡ r → then_follow (λ v. follow_from p side packets own peer (suc entry) v xs) entry side r ≡ Ok e
          → ((v : ScriptCursor) → follow_from p side packets own peer (suc entry) v xs ≡ Ok e → Ends v xs e) → Ends u (x ∷ xs) e
      by (Err f) k g rest = absurd (cc)
      by (Ok v) k g rest = (let r = rest v g in (r.0, (v, leads_on u v x (goes u v x k), r.1), r.2, r.3))

  -- a script that the checker follows fits
  pub follow_fits : (side : Side) (es : List Entry) (e : EndState) → follow p side packets own peer es ≡ Ok e → Follows p side packets own peer es e
  follow_fits side es e h = leads_from side 1 (at_start (start_of p side)) es e h

-- ---- a script that fits is followed

module _ (p : Parameters) (packets : ℕ) (own peer : List FirstCopy) where
  -- and where it goes on, the cursor is next
  pub gone : (u v : ScriptCursor) (x : Entry) → Goes p packets own peer u x v → next_cursor p packets own peer u x ≡ Ok v
  unfolding next_cursor
  gone u v x (takes slot number position c after low high at g front up t) = rw (at, g, t.0, t.1) (grind (arith, nat_tests, low, high, front, up))
  gone u v x (makes place clock why c after low at g same m) = rw (at, g, no_fault p u.state c.pdu.safety clock why m.0, m.1) (grind (arith, nat_tests, low))

module _ (p : Parameters) (packets : ℕ) (own peer : List FirstCopy) (mine : IsOrdered own) (theirs : IsOrdered peer) (few : length peer < 4294967296) where
  -- where an entry leads, the checker goes
  pub goes_on : (u v : ScriptCursor) (x : Entry) → Advances p packets own peer u x v → next_cursor p packets own peer u x ≡ Ok v
  goes_on u v x (takes_next slot position c after low high g front up t) = gone p packets own peer u v x (takes slot c.pdu.number position c after low high (number_named peer theirs few position c g) g front up t)
  goes_on u v x (makes_next c clock why after low g m) = gone p packets own peer u v x (makes c.place clock why c after low (place_named own mine u.made_count c g) g refl m)

  follows_from : (side : Side) (entry : ℕ) (u v : ScriptCursor) (es : List Entry) → Leads p packets own peer u es v → v.made_count ≡ length own → follow_from p side packets own peer entry u es ≡ Ok v.state
  unfolding follow_from
  follows_from side entry u v [] f e = rw f (let t : (v.made_count == length own) ≡ true = grind (arith, nat_tests, e) in rw t refl)
  follows_from side entry u v (x ∷ xs) f e = rw (goes_on u f.0 x f.1) (follows_from side (suc entry) f.0 v xs f.2 e)

  -- a script that fits is followed to its end
  pub fits_follow : (side : Side) (es : List Entry) (e : EndState) → Follows p side packets own peer es e → follow p side packets own peer es ≡ Ok e
  fits_follow side es e f = follows_from side 1 (at_start (start_of p side)) f.0 es f.1 f.2 ∙ ap Ok f.3

-- ---- step by step

module _ (p : Parameters) (packets : ℕ) (own peer : List FirstCopy) (side : Side) where
  -- by what the code answers for an entry
  step_by : (entry : ℕ) (u : ScriptCursor) (es : List Entry) (i : ℕ) (x : Entry) (r : Result ScriptCursor ℕ) → slice_get es i ≡ Some x → next_cursor p packets own peer u x ≡ r
      → follow_from p side packets own peer entry u (drop i es) ≡ then_follow (λ w. follow_from p side packets own peer (suc entry) w (drop (suc i) es)) entry side r
  unfolding follow_from
  step_by entry u es i x r g n = rw (drop_one_more i es x g) (rw n refl)

  -- the same for a follower
  pub loop_on : (f f' : Followed) (es : List Entry) (i : ℕ) (d : Entry) → i < length es → f.params ≡ p → f.side ≡ side
      → next_cursor f.params packets own peer f.cursor (get_or es i d) ≡ Ok f'.cursor → f' ≡ moved_to f f'.cursor
      → follow_from p side packets own peer f'.entry f'.cursor (drop (i + 1) es) ≡ follow_from p side packets own peer f.entry f.cursor (drop i es)
  loop_on f f' es i d l same_p same_s n m =
      rw (ap (λ (g : Followed). g.entry) m, add-one) (sym (step_by f.entry f.cursor es i (get_or es i d) (Ok f'.cursor) (slice_get-get_or es i d l) (rw same_p at n)))

  -- an entry that is refused is the answer of the whole script
  pub loop_off : (f : Followed) (es : List Entry) (i : ℕ) (d : Entry) (fault : Fault) → i < length es → f.params ≡ p → f.side ≡ side
      → follow_from p side packets own peer f.entry f.cursor (drop i es) ≡ follow p side packets own peer es
      → IsRefusedFollow f (next_cursor f.params packets own peer f.cursor (get_or es i d)) fault
      → (follow p side packets own peer es ≡ Err fault) ⊎ (fault ≡ no_memory)
  loop_off f es i d fault l same_p same_s rest (inl w) =
      inl (sym rest ∙ (step_by f.entry f.cursor es i (get_or es i d) (Err w.0) (slice_get-get_or es i d l) (rw same_p at w.1) ∙ rw (w.2, same_s) refl))
  loop_off f es i d fault l same_p same_s rest (inr w) = inr w

  -- and after the last, what the end of a script answers
  pub loop_end : (f : Followed) (es : List Entry) (i : ℕ) (result : Result JudgedEnd Fault) → length es ≤ i → f.params ≡ p → f.side ≡ side
      → follow_from p side packets own peer f.entry f.cursor (drop i es) ≡ follow p side packets own peer es
      → MatchResult result (λ (e : JudgedEnd). (e ≡ record { params = f.params; state = f.cursor.state }) × (f.cursor.made_count ≡ length own))
      (λ (fault : Fault). (fault ≡ fault_of_end make_missing f.entry f.side) × ((f.cursor.made_count == length own) ≡ false))
      → MatchResult result (λ (e : JudgedEnd). (e.params ≡ p) × (follow p side packets own peer es ≡ Ok e.state)) (λ (f : Fault). (follow p side packets own peer es ≡ Err f) ⊎ (f ≡ no_memory))
  unfolding follow_from
  loop_end f es i result h1 h2 h3 h4 h5 = grind (arith, drop_all)
