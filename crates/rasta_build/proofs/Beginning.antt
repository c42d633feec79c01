-- The builder's ends at the start.
use Rattle.std.proofs.Common.{◌≡◌, ℕ, true, List, [], length, Option, Some, None, refl, ap, sym, arith, inl, inr, subst}
use Rattle.rasta_build.proofs.Prelude.{◌==◌, Side, Client, Server, Parameters, Quiet, Owed, Made, EndState, is_closed, is_client, is_start, start_of, start_by, FirstCopy, base}
use Rattle.rasta_build.proofs.Prelude.{base_by, peer_quiet_sn}
use Rattle.rasta_build.specs.Built.{built_at_start}
use Rattle.rasta_build.proofs.Times.{NearDeadlines}
use Rattle.rasta_build.proofs.Readiness.{IsReady, IsTrail}
use Rattle.rasta_build.proofs.Stations.{Follows}
use Rattle.rasta_build.proofs.Comparisons.{is_same}

-- an end at the start
pub record FirstEnd (q : Option Quiet) (s : Side) (e : EndState) : Type 0 where
  pub owed : e.owed ≡ []
  pub asks : e.asks ≡ []
  pub offered : e.offered ≡ 0
  pub side : e.side ≡ s
  pub base : e.base ≡ base_by q
  pub accepted : e.accepted ≡ base_by q
  pub unopened : e.side ≡ Client → e.made ≡ [] → (is_closed e.phase ≡ true) × (e.deadline ≡ None)
  pub young : is_client e.side ≡ true → is_start e.phase ≡ true → e.deadline ≡ None

first_end : (q : Option Quiet) (s : Side) → FirstEnd q s (start_by q s)
first_end None Client = record { owed = refl; asks = refl; offered = refl; side = refl; base = refl; accepted = refl; unopened = λ a b. (refl, refl); young = λ a b. refl }
first_end None Server = record { owed = refl; asks = refl; offered = refl; side = refl; base = refl; accepted = refl; unopened = λ a b. absurd (cc); young = λ a b. refl }
first_end (Some q) Client = record { owed = refl; asks = refl; offered = refl; side = refl; base = refl; accepted = refl; unopened = λ a b. absurd (cc); young = λ a b. absurd (cc) }
first_end (Some q) Server = record { owed = refl; asks = refl; offered = refl; side = refl; base = refl; accepted = refl; unopened = λ a b. absurd (cc); young = λ a b. absurd (cc) }

near_itself : (p : Parameters) (start : Option ℕ) (c : ℕ) (d : Option ℕ) → start ≡ d → NearDeadlines p start c 0 d d
near_itself p start c d h = grind arith

ready_first : (p : Parameters) (s : Side) (ms : List Made) → IsReady p (start_of p s).deadline s (peer_quiet_sn p.quiet s) (start_of p s) (start_of p s).base ms (built_at_start p s)
ready_first p s ms =
    let f = first_end p.quiet s in
    record {
      clock = (start_of p s).clock;
      deadline = (start_of p s).deadline;
      near = record { lag = 0; clocks = omega arith; deadlines = near_itself p (start_of p s).deadline (start_of p s).clock (start_of p s).deadline refl };
      state = refl;
      params = refl;
      now = refl;
      of_side = refl;
      quiet = refl;
      next = omega arith;
      trail = subst (λ (os : List Owed). IsTrail (start_of p s).offered 0 os) (sym f.owed) tt;
      asked = (let z : length (start_of p s).asks ≡ 0 = ap length f.asks in omega (arith, z));
    }

pub follows_first : (p : Parameters) (s : Side) (ms : List Made) (sent : List FirstCopy)
    → Follows p (start_of p s).deadline s (peer_quiet_sn p.quiet s) (base p) (start_of p s) (start_of p s).base ms sent (built_at_start p s)
follows_first p s ms sent =
    let f = first_end p.quiet s in
    let r = ready_first p s ms in
    let same : ((start_of p s).accepted == (start_of p s).accepted) ≡ true = is_same (start_of p s).accepted (start_of p s).accepted refl in
    record {
      of_side = f.side;
      unopened = f.unopened;
      stage = inr (record {
        lag = record { base = start_of p s; mark = (start_of p s).base; marked = omega arith; low = omega arith; caught = λ slot. (built_at_start p s, rw same refl, r); calm = λ l. absurd (omega (arith, l)); still = λ o. refl; stage = inl refl };
        org = record { origin = start_of p s; mark = (start_of p s).base; marked = omega arith; itself = r; made = refl; clock = refl; of_side = refl; young = f.young; few = (let z = f.offered in omega (arith, z)) };
        low = (let z = f.accepted in omega (arith, z));
      });
    }
