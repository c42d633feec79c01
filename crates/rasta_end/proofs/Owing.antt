-- How many things are owed.
use Rattle.std.proofs.Common.{subst, ◌≡◌, ℕ, zero, suc, ◌+◌, ◌≤◌, Bool, true, false, ◌++◌, length, Option, Some, None, refl, ap, arith, length-append}
use Rattle.rasta_end.specs.declared.owed.Owed.{Owed}
use Rattle.rasta_end.specs.declared.owed.Owed.TheVariants.{ConnectionResponse as OweConnectionResponse, FirstHeartbeat as OweFirstHeartbeat, RetransmissionResponse as OweRetransmissionResponse, Resend as OweResend, RetransmissionRequest as OweRetransmissionRequest}
use Rattle.rasta_end.specs.declared.owed.Owes.{Owes}
use Rattle.rasta_end.specs.declared.owed.Demand.TheVariants.{First}
use Rattle.rasta_end.specs.declared.make_row.MakeRow.{MakeRow}
use Rattle.rasta_end.specs.declared.make_row.MakeRow.TheVariants.{Resumes}
use Rattle.rasta_end.specs.MakeRule.{lacks, owes_else, is_refused_row, is_owing_else}
use Rattle.rasta_end.specs.Judged.{responses_owed, responses_paid}
use Rattle.rasta_end.specs.TakeRule.{resends}
use Rattle.rasta_end.specs.Kept.{owed_list, owed_reply, owed_request}

pub length-resends : (unit units : ℕ) → length (resends unit units) ≡ units
length-resends unit zero = refl
length-resends unit (suc n) = ap suc (length-resends (suc unit) n)

pub length-owed : (o : Owes) → length (owed_list o) ≡ length (owed_reply o.reply) + (o.units + length (owed_request o.request))
length-owed o =
    let outer = length-append (owed_reply o.reply) (resends o.unit o.units ++ owed_request o.request) in
    let inner = length-append (resends o.unit o.units) (owed_request o.request) in
    let units = length-resends o.unit o.units in
    omega (arith, outer, inner, units)

pub one-reply : (r : Option Owed) → length (owed_reply r) ≤ 1
one-reply None = omega arith
one-reply (Some o) = omega arith

pub one-request : (b : Bool) → length (owed_request b) ≤ 1
one-request true = omega arith
one-request false = omega arith

-- where a retransmission response is the first thing owed it is the reply
pub owes-response : (r : Option Owed) (unit units : ℕ) (b : Bool)
    → lacks (First OweRetransmissionResponse) (owed_reply r ++ (resends unit units ++ owed_request b)) ≡ false
    → owes_else (First OweRetransmissionResponse) (owed_reply r ++ (resends unit units ++ owed_request b)) ≡ false
    → responses_owed r ≡ 1
owes-response (Some OweRetransmissionResponse) unit units b l e = refl
owes-response (Some OweConnectionResponse) unit units b l e = absurd (cc)
owes-response (Some OweFirstHeartbeat) unit units b l e = absurd (cc)
owes-response (Some (OweResend k)) unit units b l e = absurd (cc)
owes-response (Some OweRetransmissionRequest) unit units b l e = absurd (cc)
owes-response None unit (suc n) b l e = absurd (cc)
owes-response None unit zero true l e = absurd (cc)
owes-response None unit zero false l e = absurd (cc)

pub resumes-pays : (row : MakeRow) (o : Owes) (r : Option Owed) → row ≡ Resumes → r ≡ None
    → is_refused_row (Some row) (owed_list o) ≡ false → is_owing_else (Some row) (owed_list o) ≡ false
    → responses_paid row + responses_owed r ≤ responses_owed o.reply
resumes-pays row o r is none allowed owing =
    rw (is, none) (by (owes-response o.reply o.unit o.units o.request
    (subst (λ (w : MakeRow). is_refused_row (Some w) (owed_list o) ≡ false) is allowed)
    (subst (λ (w : MakeRow). is_owing_else (Some w) (owed_list o) ≡ false) is owing)))
  where
    by : responses_owed o.reply ≡ 1 → 1 + 0 ≤ responses_owed o.reply
    by e = omega (arith, e)
