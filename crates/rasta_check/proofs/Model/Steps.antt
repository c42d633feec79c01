-- What a step adds and leaves alone, and what holds at the start.
use Rattle.std.proofs.Common.{◌≡◌, ℕ, ◌≤◌, true, [], ◌∷◌, ◌++◌, length, Option, Some, None, slice_get, refl, arith}
use Rattle.rasta_check.proofs.Prelude.{nat_tests, Side, Parameters, SafetyPdu, TakeRow, Requested, position_confirmed, effect, after_take, Quiet, Why, Made, EndState, Makes, has_ended}
use Rattle.rasta_check.proofs.Prelude.{after_make_by, start_by, get_front}
use Rattle.rasta_check.proofs.Model.Counts.{answers_in}
use Rattle.rasta_check.proofs.Model.ConveyedUnits.{values, values_push, values_asks}
use Rattle.rasta_check.proofs.Model.TakeRows.{take_by, take_made}
use Rattle.rasta_check.proofs.Model.MakeRows.{Passed, passed, MadeBy, made_by, after_row}

-- what of an end stays
pub record Grown (e e' : EndState) : Type 0 where
  pub made : (i : ℕ) (m : Made) → slice_get e.made i ≡ Some m → slice_get e'.made i ≡ Some m
  pub kept : (i v : ℕ) → slice_get (values e) i ≡ Some v → slice_get (values e') i ≡ Some v
  pub over : has_ended e ≡ true → e' ≡ e

pub same_grown : (e : EndState) → Grown e e
same_grown e = record { made = λ i m g. g; kept = λ i v g. g; over = λ h. refl }

pub grown_make : (p : Parameters) (e : EndState) (x : SafetyPdu) (clock : ℕ) (why : Why) (b : MadeBy e x why) → Passed p e x clock why → Grown e (after_make_by (Some b.row) e x clock)
grown_make p e x clock why b pass = grind (arith, get_front, values_push)

-- nothing more was handed up
pub record SameHanded (e e' : EndState) : Type 0 where
  pub positions : e'.handed ≡ e.handed
  pub pdus : e'.handed_pdus ≡ e.handed_pdus

-- an end after a make
pub record AfterMake (e : EndState) (x : SafetyPdu) (clock : ℕ) (e' : EndState) : Type 0 where
  pub new : Made
  pub pdu : new.pdu ≡ x
  pub made : e'.made ≡ e.made ++ new ∷ []
  pub now : e'.clock ≡ clock
  pub rises : e.clock ≤ clock
  pub side : e'.side ≡ e.side
  pub base : e'.base ≡ e.base
  pub same : SameHanded e e'
  pub grown : Grown e e'

pub made_more : (p : Parameters) (e : EndState) (x : SafetyPdu) (clock : ℕ) (why : Why) (e' : EndState) → Makes p e x clock why e' → AfterMake e x clock e'
made_more p e x clock why e' mk =
    let pass = passed p e x clock why mk.0 in
    let m = made_by p e x clock why pass in
    grind (arith, after_row, grown_make, nat_tests)

-- a take leaves the units conveyed through each position
values_take : (q : Parameters) (e : EndState) (x : SafetyPdu) → answers_in e.made ≤ length e.asks → values (after_take q e x) ≡ values e
values_take q e x h = take_by q e x (λ g. values g ≡ values e) refl (λ r away knows. by r)
  where
    by : (r : TakeRow) → values (effect q r e x) ≡ values e
    by Requested = cc (values_asks e.asks (position_confirmed e x) e.made h)
    by _ = grind (arith, values_asks e.asks (position_confirmed e x) e.made h)

pub grown_take : (q : Parameters) (e : EndState) (x : SafetyPdu) → answers_in e.made ≤ length e.asks → Grown e (after_take q e x)
grown_take q e x h = grind (arith, take_by, take_made, values_take)

-- the position of the first PDU of a sent list: 0, or 1 from a quiet point
abbrev pub base_by : Option Quiet → ℕ
base_by None = 0
base_by (Some q) = 1

abbrev pub base : Parameters → ℕ
base p = base_by p.quiet

pub base_small : (q : Option Quiet) → base_by q ≤ 1
base_small q = grind arith

-- a quiet point counts as one PDU made, and nothing is handed up before the start
pub start_is : (q : Option Quiet) (s : Side) → ((start_by q s).base ≡ base_by q) × (length (start_by q s).made ≡ base_by q) × ((start_by q s).side ≡ s) × (length (start_by q s).handed ≡ 0)
start_is q s = grind arith

pub start_base : (q : Option Quiet) (s : Side) → (start_by q s).base ≡ base_by q
start_base q s = (start_is q s).0

pub start_made : (q : Option Quiet) (s : Side) → length (start_by q s).made ≡ base_by q
start_made q s = (start_is q s).1

pub start_side : (q : Option Quiet) (s : Side) → (start_by q s).side ≡ s
start_side q s = (start_is q s).2
