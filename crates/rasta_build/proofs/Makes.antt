-- A make of a run's end is one of the builder's end, at a clock that isn't later.
use Rattle.std.proofs.Common.{◌≡◌, ℕ, zero, suc, ◌+◌, ◌-◌, ◌*◌, ◌%◌, ◌/◌, ◌^◌, ◌<◌, ◌≤◌, ◌⊎◌, Bool, true, false, List, [], ◌∷◌, length, Option, Some, None, refl, ap, sym, ◌∙◌, arith, inl, inr, subst}
use Rattle.rasta_build.proofs.Prelude.{nat_lt, not, ◌&&◌, ◌==◌, nat_tests, Side, too_early_timeout, Parameters, SafetyPdu, Kind, Owed, Phase, Why}
use Rattle.rasta_build.proofs.Prelude.{Bye, Expired, MakeRow, Made, EndState, wrapped, ahead_by, reason_of, content_of, start_of, make_fault, has_ended, row_of}
use Rattle.rasta_build.proofs.Prelude.{is_judged, confirms_last, confirms_a_time, is_past, is_early, is_expired, after_make, no_test, passed, Making, opening, answer, ask, made_by}
use Rattle.rasta_build.proofs.Prelude.{after_row, Built, clock_of, made_at, earliest_by}
use Rattle.std.specs.Bool.{then_some}
use Rattle.rasta_pcap.specs.Fault.{closed, not_allowed, reply_owed, sequence_number, clock_differs, clock_falls, past_deadline, confirmed_number, confirmed_time, resend_differs}
use Rattle.rasta_end.specs.MakeRule.{first_that_holds, make_row, is_refused_row, is_owing_else, is_next_sn, differs, after_make_by, offered_after, owed_after}
use Rattle.rasta_check.proofs.Model.MakeRows.{Passed, response, first_beat, again, beat, fresh, bye, expired, MadeBy}
use Rattle.rasta_build.specs.Choices.{why_by, why_of, next_unit}
use Rattle.rasta_build.specs.Explaining.{make_step, earliest_timeout, least_later}
use Rattle.rasta_build.proofs.Times.{timed, NearDeadlines, not_past}
use Rattle.rasta_build.proofs.Readiness.{IsReady, IsTrail}

-- ---- the reason

-- what the reason of a disconnection request says of why it is made
abbrev pub ReasonIs : Why → ℕ → Type 0
ReasonIs Bye reason = (reason == 4) ≡ false
ReasonIs Expired reason = (reason == 4) ≡ true
ReasonIs _ reason = Unit {0}

next_unit_is : (offered trail k n : ℕ) → k + n ≡ offered + trail → k ≤ offered → offered ≤ 1000001 → next_unit offered n trail ≡ Some k
next_unit_is offered trail k n h g l = grind arith

why_is : (x : SafetyPdu) (e : EndState) (trail : ℕ) (s : Side) (ph : Phase) (why : Why) (k : Kind) (os : List Owed) (row : MakeRow) → Making s ph why k os row → e.owed ≡ os → IsTrail e.offered trail os → e.offered ≤ 1000001
    → ReasonIs why (reason_of x.body) → why_by k e trail x ≡ Some why
why_is x e trail s ph why k os row opening h t b r = refl
why_is x e trail s ph why k os row response h t b r = refl
why_is x e trail s ph why k os row first_beat h t b r = rw h refl
why_is x e trail s ph why k os row (answer c) h t b r = refl
why_is x e trail s ph why k os row (again {k = j} {os = rest} c) h t b r = (let n : next_unit e.offered (suc (length rest)) trail ≡ Some j = next_unit_is e.offered trail j (suc (length rest)) t.0 t.1 b in rw h (rw n refl))
why_is x e trail s ph why k os row (ask c) h t b r = refl
why_is x e trail s ph why k os row (beat c) h t b r = rw h refl
why_is x e trail s ph why k os row (fresh c) h t b r = refl
why_is x e trail s ph why k os row (bye c) h t b r = rw r refl
why_is x e trail s ph why k os row (expired c) h t b r = rw r refl

second : (a b : Bool) (row : MakeRow) (os : List Owed) → is_refused_row (then_some (a && b) row) os ≡ false → b ≡ true
second a b row os h = grind arith

was_not : (b : Bool) → not b ≡ true → b ≡ false
was_not b h = grind arith

pub reason_is : (s : Side) (ph : Phase) (reason : ℕ) (why : Why) (k : Kind) (os : List Owed) → is_refused_row (make_row s ph reason why k) os ≡ false → ReasonIs why reason
reason_is s ph reason why k os h = grind arith

-- ---- the tests of a make

pub none_of : (a b c d f g h i j k l : Bool) → a ≡ false → b ≡ false → c ≡ false → d ≡ false → f ≡ false → g ≡ false → h ≡ false → i ≡ false → j ≡ false → k ≡ false → l ≡ false
    → first_that_holds ((a, closed) ∷ (b, not_allowed) ∷ (c, reply_owed) ∷ (d, sequence_number) ∷ (f, clock_differs) ∷ (g, clock_falls) ∷ (h, past_deadline) ∷ (i, too_early_timeout) ∷ (j, confirmed_number) ∷ (k, confirmed_time) ∷ (l, resend_differs) ∷ []) ≡ None
none_of a b c d f g h i j k l a' b' c' d' f' g' h' i' j' k' l' = rw a' (rw b' (rw c' (rw d' (rw f' (rw g' (rw h' (rw i' (rw j' (rw k' (rw l' refl))))))))))

early_of : (a b c d f g h i j k l : Bool) → a ≡ false → b ≡ false → c ≡ false → d ≡ false → f ≡ false → g ≡ false → h ≡ false → i ≡ true
    → first_that_holds ((a, closed) ∷ (b, not_allowed) ∷ (c, reply_owed) ∷ (d, sequence_number) ∷ (f, clock_differs) ∷ (g, clock_falls) ∷ (h, past_deadline) ∷ (i, too_early_timeout) ∷ (j, confirmed_number) ∷ (k, confirmed_time) ∷ (l, resend_differs) ∷ []) ≡ Some too_early_timeout
early_of a b c d f g h i j k l a' b' c' d' f' g' h' i' = rw a' (rw b' (rw c' (rw d' (rw f' (rw g' (rw h' (rw i' refl)))))))

-- ---- clocks

-- the builder's clock: not later, by a multiple of 2^32
pub record IsClock (c lag k ts c1 : ℕ) : Type 0 where
  pub more : ℕ
  pub clocks : k ≡ c1 + more * 4294967296
  pub least : lag ≤ more
  pub rises : c ≤ c1
  pub stamp : ts ≡ c1 % 4294967296

clock_at : (c lag k ts : ℕ) → c + lag * 4294967296 ≤ k → ts ≡ k % 4294967296 → IsClock c lag k ts (c + ahead_by ts c)
clock_at c lag k ts l h = record {
  more = (k - (c + ahead_by ts c)) / 4294967296;
  clocks = omega (arith, l, h);
  least = omega (arith, l, h);
  rises = omega arith;
  stamp = omega (arith, l, h);
}

told_clock : (n ts : ℕ) → n + ahead_by ts n < 2 ^ 64 → clock_of n ts ≡ Some (n + ahead_by ts n)
told_clock n ts h = (let z : nat_lt (n + ahead_by ts n) (2 ^ 64) ≡ true = grind (arith, nat_tests) in rw z refl)

ts_is : (ts k : ℕ) → not (ts == wrapped k) ≡ false → ts ≡ k % 4294967296
ts_is ts k h = grind (arith, nat_tests)

pub ts_not : (ts k : ℕ) → ts ≡ k % 4294967296 → not (ts == wrapped k) ≡ false
ts_not ts k h = grind (arith, nat_tests)

pub rise_is : (k c : ℕ) → nat_lt k c ≡ false → c ≤ k
rise_is k c h = grind (arith, nat_tests)

pub rise_not : (k c : ℕ) → c ≤ k → nat_lt k c ≡ false
rise_not k c h = grind (arith, nat_tests)

past_either : (a b c : Bool) → (b ≡ false → c ≡ false) → (a && b) ≡ false → (a && c) ≡ false
past_either a b c h g = grind arith

near_more : (p : Parameters) (start : Option ℕ) (c c1 lag more : ℕ) (d b : Option ℕ) → c ≤ c1 → lag ≤ more → NearDeadlines p start c lag d b → NearDeadlines p start c1 more d b
near_more p start c c1 lag more d b h g k = grind arith

-- where a timeout is too early for the builder's end but not for the run's end, the clocks differ
early_apart : (p : Parameters) (start : Option ℕ) (c lag k c1 : ℕ) (d b : Option ℕ) → NearDeadlines p start c lag d b → is_early p d k ≡ false → is_early p b c1 ≡ true → c1 < k
early_apart p start c lag k c1 d b h g l = grind arith

-- a clock that is later than the least one, and not below the earliest timeout of the start, isn't too early
late_enough : (p : Parameters) (start : Option ℕ) (c lag c2 : ℕ) (d b : Option ℕ) → p.t_max ≤ 60000 → NearDeadlines p start c lag d b → c + 4294967296 ≤ c2 → earliest_by p start ≤ c2 → is_early p b c2 ≡ false
late_enough p start c lag c2 d b h g k l = grind arith

-- ---- the make

make_plain : (place : ℕ) (x : SafetyPdu) (b : Built) (why : Why) (c1 : ℕ) → why_of b.end.state b.trail x ≡ Some why → clock_of b.clock x.ts ≡ Some c1 → make_fault b.end.params b.end.state x c1 why ≡ None
    → make_step place x b ≡ Some (made_at place x why c1 b)
make_plain place x b why c1 w k f = rw w (rw k (rw f refl))

make_late : (place : ℕ) (x : SafetyPdu) (b : Built) (why : Why) (c1 c2 : ℕ) → why_of b.end.state b.trail x ≡ Some why → clock_of b.clock x.ts ≡ Some c1 → make_fault b.end.params b.end.state x c1 why ≡ Some too_early_timeout
    → clock_of (least_later c1 b) x.ts ≡ Some c2 → make_fault b.end.params b.end.state x c2 why ≡ None → make_step place x b ≡ Some (made_at place x why c2 b)
make_late place x b why c1 c2 w k f l g = rw w (rw k (rw f (rw l (rw g refl))))

trail_make : (s : Side) (ph : Phase) (why : Why) (k : Kind) (os : List Owed) (row : MakeRow) (offered trail : ℕ) → Making s ph why k os row → IsTrail offered trail os → IsTrail (offered_after row offered) trail (owed_after row os)
trail_make s ph why k os row offered trail h g = grind arith

module _ (p : Parameters) (start : Option ℕ) (side : Side) (quiet_sn : Option ℕ) (e : EndState) (taken : ℕ) (ms : List Made) (b : Built) (r : IsReady p start side quiet_sn e taken ms b)
    (place k : ℕ) (x : SafetyPdu) (why : Why) (ok : make_fault p e x k why ≡ None) (bounded : k < 2 ^ 64) (waits : p.t_max ≤ 60000) (from : start ≡ (start_of p side).deadline) (low_start : earliest_by p start ≤ 2 ^ 63)
    (few : e.offered ≤ 1000001) where
  all : Passed p e x k why
  all = passed p e x k why (no_test p e x k why ok)

  pass : Passed p e x k why
  pass = passed p e x k why (no_test p e x k why ok)

  by : MadeBy e x why
  by = made_by p e x k why pass

  c1 : ℕ
  c1 = r.clock + ahead_by x.ts r.clock

  stamped : x.ts ≡ k % 4294967296
  stamped = (let t = all in ts_is x.ts k t.stamp)

  rose : r.clock + r.near.lag * 4294967296 ≤ k
  rose = (let t = all in let z = rise_is k e.clock t.rises in let n = r.near in let y = n.clocks in omega (arith, z, y))

  clk : IsClock r.clock r.near.lag k x.ts (r.clock + ahead_by x.ts r.clock)
  clk = clock_at r.clock r.near.lag k x.ts rose stamped

  told : (n c : ℕ) → c ≡ n + ahead_by x.ts n → c < 2 ^ 64 → clock_of n x.ts ≡ Some c
  told n c h l = told_clock n x.ts (omega (arith, h, l)) ∙ ap Some (sym h)

  -- the tests of the builder's end at a clock
  none_at : (c : ℕ) → r.clock ≤ c → x.ts ≡ c % 4294967296 → (not (is_expired why) && is_past p r.deadline c) ≡ false → (is_expired why && is_early p r.deadline c) ≡ false
      → make_fault b.end.params b.end.state x c why ≡ None
  none_at c l h past early =
      let t = all in
      let z : make_fault p (timed r.clock r.deadline e) x c why ≡ None =
      none_of (has_ended e) (is_refused_row (row_of e x why) e.owed) (is_owing_else (row_of e x why) e.owed) (not (is_next_sn e.made x.sn)) (not (x.ts == wrapped c)) (nat_lt c r.clock)
      (not (is_expired why) && is_past p r.deadline c) (is_expired why && is_early p r.deadline c) (is_judged e x.kind && not (confirms_last e x.cs)) (is_judged e x.kind && not (confirms_a_time e x.cts)) (differs e.made (row_of e x why) (content_of x.body))
      t.open_yet t.row t.owed t.sn (ts_not x.ts c h) (rise_not c r.clock l) past early t.cs t.cts t.same in
      let y : make_fault p b.end.state x c why ≡ None = subst (λ (s : EndState). make_fault p s x c why ≡ None) (sym r.state) z in
      subst (λ (q : Parameters). make_fault q b.end.state x c why ≡ None) (sym r.params) y

  early_at : (c : ℕ) → r.clock ≤ c → x.ts ≡ c % 4294967296 → (not (is_expired why) && is_past p r.deadline c) ≡ false → (is_expired why && is_early p r.deadline c) ≡ true
      → make_fault b.end.params b.end.state x c why ≡ Some too_early_timeout
  early_at c l h past early =
      let t = all in
      let z : make_fault p (timed r.clock r.deadline e) x c why ≡ Some too_early_timeout =
      early_of (has_ended e) (is_refused_row (row_of e x why) e.owed) (is_owing_else (row_of e x why) e.owed) (not (is_next_sn e.made x.sn)) (not (x.ts == wrapped c)) (nat_lt c r.clock)
      (not (is_expired why) && is_past p r.deadline c) (is_expired why && is_early p r.deadline c) (is_judged e x.kind && not (confirms_last e x.cs)) (is_judged e x.kind && not (confirms_a_time e x.cts)) (differs e.made (row_of e x why) (content_of x.body))
      t.open_yet t.row t.owed t.sn (ts_not x.ts c h) (rise_not c r.clock l) past early in
      let y : make_fault p b.end.state x c why ≡ Some too_early_timeout = subst (λ (s : EndState). make_fault p s x c why ≡ Some too_early_timeout) (sym r.state) z in
      subst (λ (q : Parameters). make_fault q b.end.state x c why ≡ Some too_early_timeout) (sym r.params) y

  said : why_of b.end.state b.trail x ≡ Some why
  said = (let t = all in let m = by in
      ap (λ (z : EndState). why_by x.kind z b.trail x) r.state
      ∙ why_is x (timed r.clock r.deadline e) b.trail e.side e.phase why x.kind e.owed m.row m.how refl r.trail few (reason_is e.side e.phase (reason_of x.body) why x.kind e.owed t.row))

  least_told : clock_of b.clock x.ts ≡ Some (r.clock + ahead_by x.ts r.clock)
  least_told = (let w = clk in ap (λ n. clock_of n x.ts) r.now ∙ told r.clock (r.clock + ahead_by x.ts r.clock) refl (let z = w.clocks in omega (arith, z, bounded)))

  not_past_then : (not (is_expired why) && is_past p r.deadline (r.clock + ahead_by x.ts r.clock)) ≡ false
  not_past_then = (let t = all in let w = clk in let n = r.near in
      past_either (not (is_expired why)) (is_past p e.deadline k) (is_past p r.deadline (r.clock + ahead_by x.ts r.clock))
      (λ h. not_past p start r.clock n.lag k (r.clock + ahead_by x.ts r.clock) e.deadline r.deadline n.deadlines (let z = w.clocks in let y = w.least in omega (arith, z, y)) h) t.in_time)

  earliest : earliest_timeout b ≡ earliest_by p start
  earliest = ap (λ (q : Parameters). earliest_by q (start_of q b.side).deadline) r.params ∙ (ap (λ (s : Side). earliest_by p (start_of p s).deadline) r.of_side ∙ ap (λ (o : Option ℕ). earliest_by p o) (sym from))

  -- the builder's end makes it: at the least clock, or where it says that it timed out at a later one
  pub makes_by : (c : ℕ) × (make_step place x b ≡ Some (made_at place x why c b)) × ((c ≡ r.clock + ahead_by x.ts r.clock) ⊎ (is_expired why ≡ true))
  makes_by = cases (is_expired why && is_early p r.deadline (r.clock + ahead_by x.ts r.clock)) refl
    where
      both : (u v : Bool) → (u && v) ≡ true → (u ≡ true) × (v ≡ true)
      both true v h = (refl, h)
      both false v h = absurd (cc)

      early_false : (u v : Bool) → u ≡ true → (u && v) ≡ false → v ≡ false
      early_false true v h g = g
      early_false false v h g = absurd (cc)

      congruent : (c1 k n : ℕ) → k ≡ c1 + n * 4294967296 → c1 < k → c1 + 4294967296 ≤ k
      congruent c1 k zero h l = absurd (omega arith)
      congruent c1 k (suc n) h l = omega arith

      cases : (u : Bool) → (is_expired why && is_early p r.deadline (r.clock + ahead_by x.ts r.clock)) ≡ u → (c : ℕ) × (make_step place x b ≡ Some (made_at place x why c b)) × ((c ≡ r.clock + ahead_by x.ts r.clock) ⊎ (is_expired why ≡ true))
      cases false h = (let w = clk in (r.clock + ahead_by x.ts r.clock, make_plain place x b why (r.clock + ahead_by x.ts r.clock) said least_told (none_at (r.clock + ahead_by x.ts r.clock) w.rises w.stamp not_past_then h), inl refl))
      cases true h =
          let w = clk in
          let t = all in
          let n = r.near in
          let first : ℕ = r.clock + ahead_by x.ts r.clock in
          let v = both (is_expired why) (is_early p r.deadline first) h in
          let apart = early_apart p start r.clock n.lag k first e.deadline r.deadline n.deadlines (early_false (is_expired why) (is_early p e.deadline k) v.0 t.late) v.1 in
          let room = congruent first k w.more w.clocks apart in
          let least : ℕ = least_later first b in
          let es = earliest in
          let c2 : ℕ = least + ahead_by x.ts least in
          let st = w.stamp in
          let ri = w.rises in
          let stamp2 : x.ts ≡ c2 % 4294967296 = omega (arith, st) in
          let later : first + 4294967296 ≤ c2 = omega (arith, st) in
          let small : c2 < 2 ^ 64 = omega (arith, st, room, bounded, low_start, es) in
          let k2 : clock_of (least_later first b) x.ts ≡ Some c2 = told least c2 refl small in
          let fine : is_early p r.deadline c2 ≡ false = late_enough p start r.clock n.lag c2 e.deadline r.deadline waits n.deadlines (omega (arith, later, ri)) (omega (arith, es)) in
          let past2 : (not (is_expired why) && is_past p r.deadline c2) ≡ false = (let z = v.0 in rw z refl) in
          let early2 : (is_expired why && is_early p r.deadline c2) ≡ false = (let z = v.0 in rw z fine) in
          (c2, make_late place x b why first c2 said least_told (early_at first w.rises w.stamp not_past_then h) k2 (none_at c2 (omega (arith, later, ri)) stamp2 past2 early2), inr v.0)

  -- and is ready again, at the least clock
  pub ready_make : IsReady p start side quiet_sn (after_make e x k why) taken ms (made_at place x why (r.clock + ahead_by x.ts r.clock) b)
  ready_make =
      let m = by in
      let w = clk in
      let n = r.near in
      let c : ℕ = r.clock + ahead_by x.ts r.clock in
      let after : after_make_by (Some m.row) e x k ≡ after_make e x k why = after_row e x k why m in
      let s : after_make b.end.state x c why ≡ timed c r.deadline (after_make_by (Some m.row) e x k) =
      ap (λ (z : EndState). after_make z x c why) r.state ∙ ap (λ (o : Option MakeRow). after_make_by o (timed r.clock r.deadline e) x c) m.is in
      subst (λ (z : EndState). IsReady p start side quiet_sn z taken ms (made_at place x why c b)) after (record {
        clock = c;
        deadline = r.deadline;
        near = record { lag = w.more; clocks = w.clocks; deadlines = near_more p start r.clock c n.lag w.more e.deadline r.deadline w.rises w.least n.deadlines };
        state = s;
        params = r.params;
        now = refl;
        of_side = r.of_side;
        quiet = r.quiet;
        next = r.next;
        trail = trail_make e.side e.phase why x.kind e.owed m.row e.offered b.trail m.how r.trail;
        asked = r.asked;
      })
