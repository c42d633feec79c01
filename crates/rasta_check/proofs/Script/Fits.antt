-- The script that fits is the one that the code follows to its end, and the first fault of another is the one that the code answers.
use Rattle.std.proofs.Common.{◌≡◌, ℕ, suc, ◌+◌, ◌<◌, ◌≤◌, true, false, List, [], ◌∷◌, ◌++◌, length, Option, Some, None, Result, Ok, Err, slice_get, ◌⊎◌, inl, inr, refl, ap, sym, ◌∙◌, arith, subst}
use Rattle.rasta_check.proofs.Prelude.{◌==◌, nat_tests, append-nil, append_assoc, length-append, slice_get_within, Fault, Side, Client, Server, Parameters, Entry, Take, Make}
use Rattle.rasta_check.proofs.Prelude.{EndState, Makes, start_of, FirstCopy, ScriptCursor, at_start, Follows, fault_of_end, Scripts, make_fault, after_make, first_that_holds}
use Rattle.rasta_check.proofs.Prelude.{copy_with, IsOrdered, position_of_number, position_of_place, cursor_unless, made_there, follow_from, follow, Explained, BothFit}
use Rattle.rasta_check.proofs.Prelude.{report_of, slice_get_some, get_past}
use Rattle.std.specs.Option.{option_or}
use Rattle.rasta_pcap.specs.Fault.{make_missing}
use Rattle.rasta_check.specs.Capture.Lists.{places_of}
use Rattle.rasta_check.specs.Script.Fitting.{places_made, AreInOrder, AreNamed, Joins, Fits, level_after, position_after, entry_tests, end_fault, FirstFault, at_entry, after_last}
use Rattle.rasta_check.specs.Script.Laws.{HasOneAnswer}
use Rattle.rasta_check.specs.Internals.Checking.{take_entry, make_entry, next_cursor, then_follow, where_followed, verdict_of}
use Rattle.rasta_check.specs.Verdict.Report.{IsScriptVerdict, both_fit, client_refused, server_refused}
use Rattle.rasta_check.proofs.Script.FollowedScripts.{Goes, takes, makes, goes, gone, follow_fits, fits_follow}
use Rattle.rasta_check.proofs.Internals.StoreLists.{copy_of_position, no_copy}
use Rattle.rasta_check.proofs.Capture.Positions.{number_found, place_found, place_first}

-- so many and those of a list
abbrev counted : {A : Type 0} → ℕ → List A → ℕ
counted n [] = n
counted n (x ∷ xs) = counted (suc n) xs

counted_is : {A : Type 0} (n : ℕ) (xs : List A) (m : ℕ) → n + length xs ≡ m → counted n xs ≡ m
counted_is n [] m e = omega arith
counted_is n (x ∷ xs) m e = counted_is (suc n) xs m (omega arith)

module _ (p : Parameters) (packets : ℕ) (own peer : List FirstCopy) where
  -- ---- entries from a cursor on

  -- these entries fit from here on
  record FitsFrom (u : ScriptCursor) (xs : List Entry) (made : List FirstCopy) (taken : List ℕ) (e : EndState) : Type 0 where
    makes : places_made xs ≡ places_of made
    slots : AreInOrder packets u.level xs
    takes : AreNamed peer u.passed xs taken
    ends : Joins p peer u.state xs made e

  -- the cursor behind them
  abbrev reached : ScriptCursor → List Entry → List FirstCopy → List ℕ → EndState → ScriptCursor
  reached u xs made taken e = record { level = level_after u.level xs; made_count = counted u.made_count made; passed = position_after u.passed taken; state = e }

  -- these own PDUs are left at the cursor
  abbrev Rests : ScriptCursor → List FirstCopy → Type 0
  Rests u left = (j : ℕ) → slice_get own (u.made_count + j) ≡ slice_get left j

  -- what was made lies below the level
  abbrev Behind : ScriptCursor → Type 0
  Behind u = (j : ℕ) (c : FirstCopy) → j < u.made_count → slice_get own j ≡ Some c → c.place < u.level

  head : (u : ScriptCursor) (left : List FirstCopy) → Rests u left → slice_get own u.made_count ≡ slice_get left 0
  head u left h = (let z : u.made_count + 0 ≡ u.made_count = omega arith in rw z at (h 0))

  rests_on : (u v : ScriptCursor) (c : FirstCopy) (left : List FirstCopy) → v.made_count ≡ suc u.made_count → Rests u (c ∷ left) → Rests v left
  rests_on u v c left e h j = ap (slice_get own) (let z = e in omega arith) ∙ h (suc j)

  behind_on : (u v : ScriptCursor) (c : FirstCopy) → v.made_count ≡ suc u.made_count → v.level ≡ suc c.place → u.level ≤ c.place → slice_get own u.made_count ≡ Some c → Behind u → Behind v
  behind_on u v c h g k l m = grind arith

  -- entries that fit are followed, whatever comes behind them
  runs : (side : Side) (entry : ℕ) (u : ScriptCursor) (xs rest : List Entry) (made left : List FirstCopy) (taken : List ℕ) (e : EndState)
      → Rests u (made ++ left) → Behind u → FitsFrom u xs made taken e
      → follow_from p side packets own peer entry u (xs ++ rest) ≡ follow_from p side packets own peer (counted entry xs) (reached u xs made taken e) rest
  unfolding follow_from
  runs side entry u [] rest (c ∷ made) left taken e r b f = absurd (let z = f.makes in cc)
  runs side entry u [] rest [] left (j ∷ taken) e r b f = absurd f.takes
  runs side entry u [] rest [] left [] e r b f = rw (sym f.ends) refl
  runs side entry u (Take slot number ∷ xs) rest made left [] e r b f = absurd f.takes
  runs side entry u (Take slot number ∷ xs) rest made left (position ∷ taken) e r b f =
      let c = f.ends.0 in
      let there : slice_get peer position ≡ Some c = sym (copy_of_position peer number position f.takes.1) ∙ f.ends.2 in
      let same : f.takes.2.0 ≡ c = (let x = f.takes.2.1 in let y = f.ends.2 in cc) in
      let v : ScriptCursor = record { level = slot; made_count = u.made_count; passed = suc position; state = f.ends.1 } in
      rw (gone p packets own peer u v (Take slot number) (takes slot number position c f.ends.1 f.slots.0 f.slots.1 f.takes.1 there (rw same at f.takes.2.2) f.takes.0 f.ends.3))
      (runs side (suc entry) v xs rest made left taken e r (λ j d l k. let q = b j d l k in let z = f.slots.0 in omega arith)
      (record { makes = f.makes; slots = f.slots.2; takes = f.takes.3; ends = f.ends.4 }))
  runs side entry u (Make place clock why ∷ xs) rest [] left taken e r b f = absurd f.ends
  runs side entry u (Make place clock why ∷ xs) rest (c ∷ made) left taken e r b f =
      let same : place ≡ c.place = (let z = f.makes in cc) in
      let low : u.level ≤ c.place = (let z = f.slots.0 in omega arith) in
      let there = head u (c ∷ (made ++ left)) r in
      let found = place_first own u.made_count c there (λ j d l k q. (let y = b j d l k in omega (arith, q, y, low))) in
      let v : ScriptCursor = record { level = suc place; made_count = suc u.made_count; passed = u.passed; state = f.ends.0 } in
      rw (gone p packets own peer u v (Make place clock why) (makes place clock why c f.ends.0 f.slots.0 (rw same found) there (sym same) f.ends.1))
      (runs side (suc entry) v xs rest made left taken e (rests_on u v c (made ++ left) refl r) (behind_on u v c refl (ap suc same) low there b)
      (record { makes = (let z = f.makes in cc); slots = f.slots.1; takes = f.takes; ends = f.ends.2 }))

  -- ---- an entry that the code follows is one that fits

  record Consed (u v : ScriptCursor) (x : Entry) (left : List FirstCopy) : Type 0 where
    one : List FirstCopy
    others : List FirstCopy
    is : left ≡ one ++ others
    rests : Rests v others
    within : u.made_count ≤ length own → v.made_count ≤ length own
    fits : (xs : List Entry) (made : List FirstCopy) (taken : List ℕ) (e : EndState) → FitsFrom v xs made taken e
        → (positions : List ℕ) × FitsFrom u (x ∷ xs) (one ++ made) positions e × (reached u (x ∷ xs) (one ++ made) positions e ≡ reached v xs made taken e)

  consed : (u v : ScriptCursor) (x : Entry) (left : List FirstCopy) → Goes p packets own peer u x v → Rests u left → Consed u v x left
  consed u v x left (takes slot number position c after low high at g front up t) r =
      let named : copy_with peer number ≡ Some c = copy_of_position peer number position at ∙ g in
      record {
        one = [];
        others = left;
        is = refl;
        rests = r;
        within = λ l. l;
        fits = λ xs made taken e f. (
          position ∷ taken,
          record { makes = f.makes; slots = (low, high, f.slots); takes = (up, at, (c, named, front), f.takes); ends = (c, after, named, t, f.ends) },
          refl,
        );
      }
  consed u v x [] (makes place clock why c after low at g same m) r = absurd (let z = head u [] r in cc)
  consed u v x (d ∷ left) (makes place clock why c after low at g same m) r =
      let is : c ≡ d = (let there = head u (d ∷ left) r in cc) in
      let here : place ≡ d.place = sym same ∙ ap (λ (z : FirstCopy). z.place) is in
      record {
        one = d ∷ [];
        others = left;
        is = refl;
        rests = rests_on u (record { level = suc place; made_count = suc u.made_count; passed = u.passed; state = after }) d left refl r;
        within = λ l. slice_get_within own u.made_count c g;
        fits = λ xs made taken e f. (taken, record { makes = (λ i. here i ∷ f.makes i); slots = (low, f.slots); takes = f.takes; ends = (after, subst (λ (z : FirstCopy). Makes p u.state z.pdu.safety clock why after) is m, f.ends) }, refl);
      }

  -- ---- the tests on an entry are those of the code

  abbrev entry_fault : ScriptCursor → List FirstCopy → Entry → Option ℕ
  entry_fault w left x = option_or (first_that_holds (entry_tests packets own peer w.level w.made_count w.passed x)) (end_fault p w.state left x)

  abbrev fault_of : Result ScriptCursor ℕ → Option ℕ
  fault_of (Ok v) = None
  fault_of (Err n) = Some n

  by_rules : (o : Option ℕ) (v : ScriptCursor) → fault_of (cursor_unless o v) ≡ o
  by_rules o v = grind arith

  judged : (w : ScriptCursor) (left : List FirstCopy) (x : Entry) → Rests w left → fault_of (next_cursor p packets own peer w x) ≡ entry_fault w left x
  unfolding next_cursor
  judged w left (Take slot number) r = by (position_of_number peer number) refl
    where
      by : (o : Option ℕ) → position_of_number peer number ≡ o → fault_of (take_entry p packets peer w slot number) ≡ entry_fault w left (Take slot number)
      by None e = (let n = no_copy peer number e in grind arith)
      by (Some i) e =
          let f = number_found peer number i e in
          rw (e, f.1, copy_of_position peer number i e ∙ f.1) (grind arith)
  judged w left (Make place clock why) r = by left r (position_of_place own place) refl
    where
      by : (cs : List FirstCopy) → Rests w cs → (o : Option ℕ) → position_of_place own place ≡ o → fault_of (make_entry p own w place clock why) ≡ entry_fault w cs (Make place clock why)
      by cs q None k = grind arith
      by [] q (Some i) k =
          let f = place_found own place i k in
          let none : i ≡ w.made_count → ⊥ = λ at. absurd (let z = ap (slice_get own) at ∙ head w [] q in cc (f.1)) in
          rw k (grind (arith, nat_tests))
      by (d ∷ cs) q (Some i) k =
          let there : i ≡ w.made_count → slice_get own i ≡ Some d = λ at. ap (slice_get own) at ∙ head w (d ∷ cs) q in
          let z = by_rules (make_fault p w.state d.pdu.safety clock why) (made_there w place (after_make w.state d.pdu.safety clock why)) in
          rw k (grind (arith, nat_tests))

  -- the code refuses an entry by the first test that holds
  refuses : (w : ScriptCursor) (left : List FirstCopy) (x : Entry) (n : ℕ) → Rests w left → entry_fault w left x ≡ Some n → next_cursor p packets own peer w x ≡ Err n
  refuses w left x n r h = (let z = judged w left x r ∙ h in grind arith)

  -- ---- what the code answers is the first fault

  data FaultFrom (side : Side) (entry : ℕ) (u : ScriptCursor) (xs : List Entry) (all : List FirstCopy) : Fault → Type 0 where
    one_of : (front behind : List Entry) (x : Entry) (made left : List FirstCopy) (taken : List ℕ) (e : EndState) (number : ℕ)
        → xs ≡ front ++ x ∷ behind → all ≡ made ++ left → FitsFrom u front made taken e → entry_fault (reached u front made taken e) left x ≡ Some number
        → FaultFrom side entry u xs all (fault_of_end number (counted entry front) side)
    none_left : (made left : List FirstCopy) (c : FirstCopy) (taken : List ℕ) (e : EndState) → FitsFrom u xs made taken e → all ≡ made ++ c ∷ left
        → FaultFrom side entry u xs all (fault_of_end make_missing (counted entry xs) side)

  here : (u : ScriptCursor) → FitsFrom u [] [] [] u.state
  here u = record { makes = refl; slots = tt; takes = tt; ends = refl }

  fault_after : (side : Side) (entry : ℕ) (u v : ScriptCursor) (x : Entry) (xs : List Entry) (left : List FirstCopy) (f : Fault) (z : Consed u v x left)
      → FaultFrom side (suc entry) v xs z.others f → FaultFrom side entry u (x ∷ xs) left f
  fault_after side entry u v x xs left f z (one_of front behind y made rest taken e number is parts fits says) =
      let w = z.fits front made taken e fits in
      one_of (x ∷ front) behind y (z.one ++ made) rest w.0 e number (ap (λ (l : List Entry). x ∷ l) is) (z.is ∙ rw (parts, append_assoc) refl) w.1
      (subst (λ (q : ScriptCursor). entry_fault q rest y ≡ Some number) (sym w.2) says)
  fault_after side entry u v x xs left f z (none_left made rest c taken e fits parts) =
      let w = z.fits xs made taken e fits in
      none_left (z.one ++ made) rest c w.0 e w.1 (z.is ∙ rw (parts, append_assoc) refl)

  -- an end that the script fits with, or its first fault
  abbrev Answered : Side → ℕ → ScriptCursor → List Entry → List FirstCopy → Result EndState Fault → Type 0
  Answered side entry u xs left (Ok e) = (taken : List ℕ) × FitsFrom u xs left taken e
  Answered side entry u xs left (Err f) = FaultFrom side entry u xs left f

  answered_on : (side : Side) (entry : ℕ) (u v : ScriptCursor) (x : Entry) (xs : List Entry) (left : List FirstCopy) (z : Consed u v x left) (r : Result EndState Fault)
      → Answered side (suc entry) v xs z.others r → Answered side entry u (x ∷ xs) left r
  answered_on side entry u v x xs left z r h1 = grind (arith, fault_after)

  answered : (side : Side) (entry : ℕ) (u : ScriptCursor) (xs : List Entry) (left : List FirstCopy) → Rests u left → u.made_count ≤ length own
      → Answered side entry u xs left (follow_from p side packets own peer entry u xs)
  unfolding follow_from
  answered side entry u [] [] r l =
      let none : u.made_count < length own → ⊥ = λ q. absurd (let f = slice_get_some own u.made_count q in let z = head u [] r in cc (f.1)) in
      let all : (u.made_count == length own) ≡ true = grind (arith, nat_tests) in
      rw all ([], here u)
  answered side entry u [] (c ∷ left) r l =
      let m = slice_get_within own u.made_count c (head u (c ∷ left) r) in
      let more : (u.made_count == length own) ≡ false = grind (arith, nat_tests) in
      rw more (none_left [] left c [] u.state (here u) refl)
  answered side entry u (x ∷ xs) left r l = by (next_cursor p packets own peer u x) refl (λ v cs q m. answered side (suc entry) v xs cs q m)
    where
      by : (o : Result ScriptCursor ℕ) → next_cursor p packets own peer u x ≡ o
          → ((v : ScriptCursor) (cs : List FirstCopy) → Rests v cs → v.made_count ≤ length own → Answered side (suc entry) v xs cs (follow_from p side packets own peer (suc entry) v xs))
          → Answered side entry u (x ∷ xs) left (then_follow (λ v. follow_from p side packets own peer (suc entry) v xs) entry side o)
      by (Err n) k rest = one_of [] xs x [] left [] u.state n refl refl (here u) (sym (judged u left x r) ∙ ap fault_of k)
      by (Ok v) k rest =
          let z = consed u v x left (goes p packets own peer u v x k) r in
          answered_on side entry u v x xs left z (follow_from p side packets own peer (suc entry) v xs) (rest v z.others z.rests (z.within l))

  -- ---- a whole script

  abbrev to_start : (side : Side) (made : List FirstCopy) (es : List Entry) (taken : List ℕ) (e : EndState) → FitsFrom (at_start (start_of p side)) es made taken e → Fits p side packets made peer es e
  to_start side made es taken e f = record { makes = f.makes; slots = f.slots; positions = taken; takes = f.takes; ends = f.ends }

  -- a script whose beginning fits is followed through it
  from_start : (side : Side) (es rest : List Entry) (made left : List FirstCopy) (e : EndState) → own ≡ made ++ left → (f : Fits p side packets made peer es e)
      → follow p side packets own peer (es ++ rest)
      ≡ follow_from p side packets own peer (suc (length es)) (record { level = level_after 0 es; made_count = length made; passed = position_after 0 f.positions; state = e }) rest
  from_start side es rest made left e parts f =
      rw (sym (counted_is 1 es (suc (length es)) (omega arith)), sym (counted_is 0 made (length made) (omega arith)))
      (runs side 1 (at_start (start_of p side)) es rest made left f.positions e (λ j. (let z : 0 + j ≡ j = omega arith in rw (z, parts) refl)) (λ j c l g. absurd (omega arith))
      (record { makes = f.makes; slots = f.slots; takes = f.takes; ends = f.ends }))

  -- a script that fits is followed
  pub fits_is : (side : Side) (es : List Entry) (e : EndState) → Fits p side packets own peer es e → follow p side packets own peer es ≡ Ok e
  unfolding follow_from
  fits_is side es e f =
      let all : (length own == length own) ≡ true = grind (arith, nat_tests) in
      (rw append-nil at (from_start side es [] own [] e (sym (append-nil own)) f)) ∙ rw all refl

  by_code : (side : Side) (es : List Entry) (r : Result EndState Fault) → follow p side packets own peer es ≡ r → Answered side 1 (at_start (start_of p side)) es own r
  by_code side es r h = subst (Answered side 1 (at_start (start_of p side)) es own) h (answered side 1 (at_start (start_of p side)) es own (λ j. let z : 0 + j ≡ j = omega arith in ap (slice_get own) z) (omega arith))

  -- and what is followed fits
  pub is_fits : (side : Side) (es : List Entry) (e : EndState) → follow p side packets own peer es ≡ Ok e → Fits p side packets own peer es e
  is_fits side es e h = (let z = by_code side es (Ok e) h in to_start side own es z.0 e z.1)

  pub is_fault : (side : Side) (es : List Entry) (f : Fault) → follow p side packets own peer es ≡ Err f → FirstFault p side packets own peer es f
  is_fault side es f h = by f (by_code side es (Err f) h)
    where
      by : (f : Fault) → FaultFrom side 1 (at_start (start_of p side)) es own f → FirstFault p side packets own peer es f
      by f (one_of front behind x made left taken e number is parts fits says) =
          let made_is = counted_is 0 made (length made) (omega arith) in
          rw (counted_is 1 front (suc (length front)) (omega arith)) (at_entry front behind x made left e (to_start side made front taken e fits) number is parts (rw made_is at says))
      by f (none_left made left c taken e fits parts) = rw (counted_is 1 es (suc (length es)) (omega arith)) (after_last made left c e (to_start side made es taken e fits) parts)

  pub fault_is : (side : Side) (es : List Entry) (f : Fault) → FirstFault p side packets own peer es f → follow p side packets own peer es ≡ Err f
  unfolding follow_from
  fault_is side es f (at_entry front behind x made left e before number is parts says) =
      let w : ScriptCursor = record { level = level_after 0 front; made_count = length made; passed = position_after 0 before.positions; state = e } in
      rw (is, from_start side front (x ∷ behind) made left e parts before, refuses w left x number (λ j. (rw parts (get_past made left j))) says) refl
  fault_is side es f (after_last made left c e before parts) =
      let more : (length made == length own) ≡ false = (let y = ap length parts in let q = length-append made (c ∷ left) in grind (arith, nat_tests, y, q)) in
      (rw append-nil at (from_start side es [] made (c ∷ left) e parts before)) ∙ rw more refl

  -- ---- one answer

  -- a script fits or has a first fault
  pub answered_once : (side : Side) (es : List Entry) → HasOneAnswer p side packets own peer es
  answered_once side es = record {
    some = by (follow p side packets own peer es) refl;
    one_end = λ a b f g. cc (fits_is side es a f, fits_is side es b g);
    one_fault = λ f g a b. cc (fault_is side es f a, fault_is side es g b);
    not_both = λ e f a b. absurd (let x = fits_is side es e a in let y = fault_is side es f b in cc);
  }
    where
      by : (r : Result EndState Fault) → follow p side packets own peer es ≡ r → ((e : EndState) × Fits p side packets own peer es e) ⊎ ((f : Fault) × FirstFault p side packets own peer es f)
      by (Ok e) h = inl (e, is_fits side es e h)
      by (Err f) h = inr (f, is_fault side es f h)

  -- ---- the cursor's form

  pub fits_follows : (side : Side) (es : List Entry) (e : EndState) → Fits p side packets own peer es e → Follows p side packets own peer es e
  fits_follows side es e f = follow_fits p packets own peer side es e (fits_is side es e f)

  pub follows_fits : IsOrdered own → IsOrdered peer → length peer < 4294967296 → (side : Side) (es : List Entry) (e : EndState) → Follows p side packets own peer es e → Fits p side packets own peer es e
  follows_fits mine theirs few side es e f = is_fits side es e (fits_follow p packets own peer mine theirs few side es e f)

-- ---- two scripts

module _ (p : Parameters) (packets : ℕ) (c s : List FirstCopy) (scripts : Scripts) where
  -- the verdict of the code is one
  pub is_verdict : (answer : Result Explained Fault) → verdict_of p packets c s scripts ≡ answer → IsScriptVerdict p packets c s scripts answer
  is_verdict answer h = subst (IsScriptVerdict p packets c s scripts) h (by (follow p Client packets c s scripts.client) (follow p Server packets s c scripts.server) refl refl)
    where
      by : (a b : Result EndState Fault) → follow p Client packets c s scripts.client ≡ a → follow p Server packets s c scripts.server ≡ b
          → IsScriptVerdict p packets c s scripts (where_followed a (where_followed b (Ok (report_of p packets c s))))
      by (Err f) b g k = client_refused f (is_fault p packets c s Client scripts.client f g)
      by (Ok e) (Err f) g k = server_refused e f (is_fits p packets c s Client scripts.client e g) (is_fault p packets s c Server scripts.server f k)
      by (Ok e) (Ok e') g k = both_fit ((e, is_fits p packets c s Client scripts.client e g), (e', is_fits p packets s c Server scripts.server e' k))

  -- and no other is
  pub verdict_is_of : (answer : Result Explained Fault) → IsScriptVerdict p packets c s scripts answer → verdict_of p packets c s scripts ≡ answer
  verdict_is_of answer (both_fit fits) = rw (fits_is p packets c s Client scripts.client fits.0.0 fits.0.1, fits_is p packets s c Server scripts.server fits.1.0 fits.1.1) refl
  verdict_is_of answer (client_refused f fault) = rw (fault_is p packets c s Client scripts.client f fault) refl
  verdict_is_of answer (server_refused e f fits fault) = rw (fits_is p packets c s Client scripts.client e fits, fault_is p packets s c Server scripts.server f fault) refl

  pub one_answer : (a b : Result Explained Fault) → IsScriptVerdict p packets c s scripts a → IsScriptVerdict p packets c s scripts b → a ≡ b
  one_answer a b h k = sym (verdict_is_of a h) ∙ verdict_is_of b k

  -- where it is a report, both scripts fit
  pub verdict_fits : (report : Explained) → verdict_of p packets c s scripts ≡ Ok report → BothFit p packets c s scripts × (report ≡ report_of p packets c s)
  verdict_fits report e = by report (is_verdict (Ok report) e)
    where
      by : (report : Explained) → IsScriptVerdict p packets c s scripts (Ok report) → BothFit p packets c s scripts × (report ≡ report_of p packets c s)
      by _ (both_fit fits) = (fits, refl)

  pub verdict_refuses : (fault : Fault) → verdict_of p packets c s scripts ≡ Err fault → BothFit p packets c s scripts → ⊥
  verdict_refuses fault e fits = (let z = verdict_is_of _ (both_fit fits) in absurd (cc))
