-- What an allowed make has passed, and the rows of the make table, one by one.
use Rattle.std.proofs.Common.{◌≡◌, ◌<◌, ℕ, Bool, true, false, List, [], ◌∷◌, Some, ap, sym, arith}
use Rattle.rasta_check.proofs.Prelude.{Side, Client, Server, Kind, ConnectionRequest, ConnectionResponse, RetransmissionRequest, RetransmissionResponse, DisconnectionRequest, Data}
use Rattle.rasta_check.proofs.Prelude.{RetransmittedData, SafetyPdu, Parameters, Phase, Closed, Start, Up, Why, MakeRow, Owed, OweConnectionResponse, OweRetransmissionResponse}
use Rattle.rasta_check.proofs.Prelude.{OweResend, OweRetransmissionRequest, Made, EndState, is_connected, row_of, after_make, after_make_by, not, ◌&&◌, ◌==◌, nat_lt, nat_tests}
use Rattle.rasta_check.proofs.Prelude.{content_of, wrapped, has_ended}
use Rattle.std.specs.Prelude.{All, IsFalse}
use Rattle.std.proofs.lemmas.Bool.{and_parts}
use Rattle.std.specs.Bool.{then_some}
use Rattle.rasta_pdu.specs.declared.kind.Kind.TheVariants.{Heartbeat}
use Rattle.rasta_end.specs.declared.why.Why.TheVariants.{Open, Reply, Beat, Fresh, Again, Ask, Bye, Expired}
use Rattle.rasta_end.specs.declared.make_row.MakeRow.TheVariants.{Opens, Answers, StartsBeating, Resumes, Resends, Requests, Beats, Offers, Leaves, TimesOut}
use Rattle.rasta_end.specs.declared.owed.Owed.TheVariants.{FirstHeartbeat as OweFirstHeartbeat}
use Rattle.rasta_end.specs.declared.owed.Demand.{Demand}
use Rattle.rasta_end.specs.declared.owed.Demand.TheVariants.{First, Nothing, Anything}
use Rattle.rasta_end.specs.State.{is_active}
use Rattle.rasta_end.specs.MakeRule.{make_row, demand_of, lacks, owes_else, is_refused_row, is_owing_else, unit_of, make_tests, is_next_sn, is_judged, confirms_last, differs, is_expired}
use Rattle.rasta_end.specs.MakeRule.{is_past, is_early, confirms_a_time}

-- what an allowed make has passed
pub record Passed (p : Parameters) (e : EndState) (x : SafetyPdu) (clock : ℕ) (why : Why) : Type 0 where
  pub open_yet : has_ended e ≡ false
  pub row : is_refused_row (row_of e x why) e.owed ≡ false
  pub owed : is_owing_else (row_of e x why) e.owed ≡ false
  pub sn : not (is_next_sn e.made x.sn) ≡ false
  pub stamp : not (x.ts == wrapped clock) ≡ false
  pub rises : nat_lt clock e.clock ≡ false
  pub in_time : (not (is_expired why) && is_past p e.deadline clock) ≡ false
  pub late : (is_expired why && is_early p e.deadline clock) ≡ false
  pub cs : (is_judged e x.kind && not (confirms_last e x.cs)) ≡ false
  pub cts : (is_judged e x.kind && not (confirms_a_time e x.cts)) ≡ false
  pub same : differs e.made (row_of e x why) (content_of x.body) ≡ false

pub passed : (p : Parameters) (e : EndState) (x : SafetyPdu) (clock : ℕ) (why : Why) → All IsFalse (make_tests p e x clock why) → Passed p e x clock why
passed p e x clock why h = search (arith, h 0 true, h 1 true, h 2 true, h 3 true, h 4 true, h 5 true, h 6 true, h 7 true, h 8 true, h 9 true, h 10 true)

pub un_not : (b : Bool) → not b ≡ false → b ≡ true
un_not b e = grind arith

-- a CS that is judged: something was accepted, and it is the SN of the last accepted PDU
pub cs_is : (e : EndState) (kind : Kind) (cs : ℕ) → is_judged e kind ≡ true → (is_judged e kind && not (confirms_last e cs)) ≡ false → (0 < e.accepted) × (cs ≡ e.last_sn)
cs_is e kind cs j h = grind (arith, nat_tests)

-- which row allows a make: side, phase, why, type, what is owed, and the row
pub data Making : Side → Phase → Why → Kind → List Owed → MakeRow → Type 0 where
  opening : {os : List Owed} → Making Client Closed Open ConnectionRequest os Opens
  response : {os : List Owed} → Making Server Start Reply ConnectionResponse (OweConnectionResponse ∷ os) Answers
  first_beat : {os : List Owed} → Making Client Up Reply Heartbeat (OweFirstHeartbeat ∷ os) StartsBeating
  answer : {s : Side} {ph : Phase} {os : List Owed} → is_connected ph ≡ true → Making s ph Reply RetransmissionResponse (OweRetransmissionResponse ∷ os) Resumes
  again : {s : Side} {ph : Phase} {k : ℕ} {os : List Owed} → is_connected ph ≡ true → Making s ph (Again k) RetransmittedData (OweResend k ∷ os) (Resends k)
  ask : {s : Side} {ph : Phase} {os : List Owed} → is_connected ph ≡ true → Making s ph Ask RetransmissionRequest (OweRetransmissionRequest ∷ os) Requests
  beat : {s : Side} {ph : Phase} → is_connected ph ≡ true → Making s ph Beat Heartbeat [] Beats
  fresh : {s : Side} {ph : Phase} → is_connected ph ≡ true → Making s ph Fresh Data [] Offers
  bye : {s : Side} {ph : Phase} {os : List Owed} → is_active ph ≡ true → Making s ph Bye DisconnectionRequest os Leaves
  expired : {s : Side} {ph : Phase} {os : List Owed} → is_active ph ≡ true → Making s ph Expired DisconnectionRequest os TimesOut

-- what a row's demand says of the owed list
Met : Demand → List Owed → Type 0
Met (First o) os = (rest : List Owed) × (os ≡ o ∷ rest)
Met Nothing os = os ≡ []
Met Anything os = Unit {0}

-- ---- each row in turn

meets : (d : Demand) (os : List Owed) → lacks d os ≡ false → owes_else d os ≡ false → Met d os
unfolding Met
meets d os h g = grind arith

-- the row that a test lets through
row_by : {s : Side} {ph : Phase} {why : Why} {k : Kind} (row : MakeRow) (b : Bool) (os : List Owed) → is_refused_row (then_some b row) os ≡ false → is_owing_else (then_some b row) os ≡ false
    → (b ≡ true → Met (demand_of row) os → Making s ph why k os row) → (r : MakeRow) × (then_some b row ≡ Some r) × Making s ph why k os r
row_by row b os e f how = grind (arith, meets)

-- the row of a make that is neither refused nor kept back by what is owed
pub making : (s : Side) (ph : Phase) (reason : ℕ) (why : Why) (k : Kind) (os : List Owed)
    → is_refused_row (make_row s ph reason why k) os ≡ false → is_owing_else (make_row s ph reason why k) os ≡ false
    → (row : MakeRow) × (make_row s ph reason why k ≡ Some row) × Making s ph why k os row
unfolding Met
making s ph reason Open ConnectionRequest os e f = row_by Opens _ os e f (λ b m. (let z : (s ≡ Client) × (ph ≡ Closed) = grind (arith, b) in rw (z.0, z.1) opening))
making s ph reason Reply ConnectionResponse os e f = row_by Answers _ os e f (λ b m. (let z : (s ≡ Server) × (ph ≡ Start) = grind (arith, b) in rw (z.0, z.1, m.1) response))
making s ph reason Reply Heartbeat os e f = row_by StartsBeating _ os e f (λ b m. (let z : (s ≡ Client) × (ph ≡ Up) = grind (arith, b) in rw (z.0, z.1, m.1) first_beat))
making s ph reason Reply RetransmissionResponse os e f = row_by Resumes _ os e f (λ b m. rw m.1 (answer b))
making s ph reason (Again j) RetransmittedData os e f = row_by (Resends j) _ os e f (λ b m. rw m.1 (again b))
making s ph reason Ask RetransmissionRequest os e f = row_by Requests _ os e f (λ b m. rw m.1 (ask b))
making s ph reason Beat Heartbeat os e f = row_by Beats _ os e f (λ b m. rw m (beat b))
making s ph reason Fresh Data os e f = row_by Offers _ os e f (λ b m. rw m (fresh b))
making s ph reason Bye DisconnectionRequest os e f = row_by Leaves _ os e f (λ b m. bye (and_parts _ _ b).0)
making s ph reason Expired DisconnectionRequest os e f = row_by TimesOut _ os e f (λ b m. expired (and_parts _ _ b).0)
making s ph reason _ _ os e f = absurd (cc)

-- ---- the row of a make

-- the row by which an end makes a PDU
pub record MadeBy (e : EndState) (x : SafetyPdu) (why : Why) : Type 0 where
  pub row : MakeRow
  pub is : row_of e x why ≡ Some row
  pub how : Making e.side e.phase why x.kind e.owed row

pub made_by : (p : Parameters) (e : EndState) (x : SafetyPdu) (clock : ℕ) (why : Why) → Passed p e x clock why → MadeBy e x why
made_by p e x clock why pass = grind (arith, making)

-- the end after a make is that of its row
pub after_row : (e : EndState) (x : SafetyPdu) (clock : ℕ) (why : Why) (m : MadeBy e x why) → after_make_by (Some m.row) e x clock ≡ after_make e x clock why
after_row e x clock why m = ap (λ r. after_make_by r e x clock) (sym m.is)

-- what a row adds to the PDUs made
abbrev pub new_made : MakeRow → EndState → SafetyPdu → Made
new_made row e x = record { pdu = x; unit = unit_of row e.offered }
