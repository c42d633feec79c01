-- Two ends that differ in their clock and their deadline alone.
use Rattle.std.proofs.Common.{◌≡◌, ℕ, ◌+◌, ◌*◌, ◌≤◌, ◌⊎◌, Bool, true, false, Option, Some, None, ap, sym, ◌∙◌, arith, subst}
use Rattle.rasta_build.proofs.Prelude.{if◌then◌else◌, Parameters, SafetyPdu, TakeRow, FirstHeartbeat, InSequence, ResentInSequence, Resumed}
use Rattle.rasta_build.proofs.Prelude.{Requested, EndState, is_past, hand_up, effect}
use Rattle.rasta_pdu.specs.Pdu.{is_timed}
use Rattle.rasta_end.specs.TakeRule.{deadline_from}

-- the same end with another clock and another deadline
abbrev pub timed : ℕ → Option ℕ → EndState → EndState
timed clock deadline e = record e { clock = clock; deadline = deadline }

-- the row accepts, so that a time-relevant PDU sets the deadline
abbrev pub sets_deadline : TakeRow → Bool
sets_deadline FirstHeartbeat = true
sets_deadline InSequence = true
sets_deadline ResentInSequence = true
sets_deadline Resumed = true
sets_deadline Requested = true
sets_deadline _ = false

abbrev pub next_deadline : Parameters → Bool → Bool → ℕ → Option ℕ → ℕ → Option ℕ
next_deadline p true true clock deadline cts = Some (deadline_from p clock cts)
next_deadline p true false clock deadline cts = deadline
next_deadline p false t clock deadline cts = deadline

abbrev pub deadline_by : Parameters → TakeRow → ℕ → Option ℕ → SafetyPdu → Option ℕ
deadline_by p row clock deadline x = next_deadline p (sets_deadline row) (is_timed x.kind) clock deadline x.cts

-- with a deadline set by a test
hand_timed : (b : Bool) (i clock : ℕ) (deadline : Option ℕ) (e : EndState) (x : SafetyPdu)
    → (if b then hand_up i (timed clock deadline e) x else timed clock deadline e) ≡ timed clock deadline (if b then hand_up i e x else e)
hand_timed b i clock deadline e x = grind arith

if_next : (p : Parameters) (t : Bool) (clock : ℕ) (deadline : Option ℕ) (cts : ℕ) → (if t then Some (deadline_from p clock cts) else deadline) ≡ next_deadline p true t clock deadline cts
if_next p t clock deadline cts = grind arith

-- a row's effect doesn't depend on them
pub effect_timed : (p : Parameters) (row : TakeRow) (clock : ℕ) (deadline : Option ℕ) (e : EndState) (x : SafetyPdu)
    → effect p row (timed clock deadline e) x ≡ timed clock (deadline_by p row clock deadline x) (effect p row e x)
effect_timed p row clock deadline e x = grind arith

pub effect_deadline : (p : Parameters) (row : TakeRow) (e : EndState) (x : SafetyPdu) → (effect p row e x).deadline ≡ deadline_by p row e.clock e.deadline x
effect_deadline p row e x = ap (λ (z : EndState). z.deadline) (effect_timed p row e.clock e.deadline e x)

pub effect_clock : (p : Parameters) (row : TakeRow) (e : EndState) (x : SafetyPdu) → (effect p row e x).clock ≡ e.clock
effect_clock p row e x = ap (λ (z : EndState). z.clock) (effect_timed p row e.clock e.deadline e x)

-- ---- near times: the one clock is later by a multiple of 2^32

-- the deadlines d and b of ends whose clocks are lag times 2^32 apart; the second clock is c, and `start` the deadline of the start
abbrev pub NearDeadlines : Parameters → Option ℕ → ℕ → ℕ → Option ℕ → Option ℕ → Type 0
NearDeadlines p start c lag None None = Unit {0}
NearDeadlines p start c lag (Some d) (Some b) = (b ≤ d) × (d ≤ b + lag * 4294967296) × ((b ≤ c + 4294967296 + p.t_max) ⊎ (start ≡ Some b) × (d ≡ b))
NearDeadlines p start c lag (Some d) None = ⊥
NearDeadlines p start c lag None (Some b) = ⊥

pub record IsNear (p : Parameters) (start : Option ℕ) (e : EndState) (clock : ℕ) (deadline : Option ℕ) : Type 0 where
  pub lag : ℕ
  pub clocks : e.clock ≡ clock + lag * 4294967296
  pub deadlines : NearDeadlines p start clock lag e.deadline deadline

set_apart : (p : Parameters) (c lag k cts : ℕ) → k ≡ c + lag * 4294967296 → deadline_from p k cts ≡ deadline_from p c cts + lag * 4294967296
set_apart p c lag k cts h = omega arith

set_most : (p : Parameters) (c cts : ℕ) → deadline_from p c cts ≤ c + 4294967296 + p.t_max
set_most p c cts = omega arith

near_next : (p : Parameters) (start : Option ℕ) (c lag k : ℕ) (s t : Bool) (d b : Option ℕ) (cts : ℕ) → k ≡ c + lag * 4294967296 → NearDeadlines p start c lag d b
    → NearDeadlines p start c lag (next_deadline p s t k d cts) (next_deadline p s t c b cts)
near_next p start c lag k s t d b cts h g = grind arith

pub near_effect : (p : Parameters) (start : Option ℕ) (row : TakeRow) (e : EndState) (x : SafetyPdu) (clock : ℕ) (deadline : Option ℕ) → IsNear p start e clock deadline
    → IsNear p start (effect p row e x) clock (deadline_by p row clock deadline x)
near_effect p start row e x clock deadline n = record {
  lag = n.lag;
  clocks = effect_clock p row e x ∙ n.clocks;
  deadlines = subst (λ (d : Option ℕ). NearDeadlines p start clock n.lag d (deadline_by p row clock deadline x)) (sym (effect_deadline p row e x))
      (near_next p start clock n.lag e.clock (sets_deadline row) (is_timed x.kind) e.deadline deadline x.cts n.clocks n.deadlines);
}

-- what the later end isn't past, the earlier one isn't past
pub not_past : (p : Parameters) (start : Option ℕ) (c lag k m : ℕ) (d b : Option ℕ) → NearDeadlines p start c lag d b → m + lag * 4294967296 ≤ k → is_past p d k ≡ false → is_past p b m ≡ false
not_past p start c lag k m d b h g l = grind arith
