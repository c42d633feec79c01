-- What the bytes that are there tell of what comes next.
use Rattle.std.proofs.Common.{◌≡◌, ◌∙◌, ℕ, ◌+◌, ◌<◌, ◌≤◌, List, [], ◌++◌, append-nil, length, length-append, take, Option, None, Some, IfSome, Result, Ok, Err, ap, sym, subst, arith}
use Rattle.std.specs.Io.KnownBytes.{IsAtEnd, prepend_known}
use lib.Seq.{take-append-le}
use Rattle.seatmelon_pcapng.specs.Blocks.{front_of, turn_of}
use Rattle.seatmelon_pcapng.specs.Comings.{IsCut, Tells, stands}
use Rattle.seatmelon_pcapng.specs.Readings.{EndsWithin, by_turn, next_of}
use Rattle.seatmelon_pcapng.specs.Readings.Next.{refused, goes}
use Rattle.seatmelon_pcapng.specs.declared.block.Turn.{Turn}
use Rattle.seatmelon_pcapng.specs.declared.coming.Coming.{Coming}
use Rattle.seatmelon_pcapng.specs.declared.coming.Coming.TheVariants.{Block, Refused}
use Rattle.seatmelon_pcapng.specs.declared.front.Front.{Front}
use Rattle.seatmelon_pcapng.specs.declared.interface.Interface.{Interface}
use Rattle.seatmelon_pcapng.specs.declared.order.Order.{Order}
use Rattle.seatmelon_pcapng.specs.declared.refusal.Reason.{Reason}
use Rattle.seatmelon_pcapng.specs.declared.refusal.Reason.TheVariants.{Cut}
use Rattle.seatmelon_pcapng.proofs.Steps.{front-append, goes-whole, next-block, next-wrong_front}

-- ---- what a function tells that looks at them

module _ (order : Option Order) (interfaces : List Interface) (bytes : List ℕ) where
  long_enough : (n : ℕ) (more : List ℕ) → n ≤ length bytes → n ≤ length (bytes ++ more)
  long_enough n more h = (let size : length (bytes ++ more) ≡ length bytes + length more = length-append bytes more in omega (arith, size))

  pub tells-wrong_front : (reason : Reason) → 12 ≤ length bytes → Err reason ≡ front_of order bytes → Tells order interfaces bytes (Refused reason)
  tells-wrong_front reason h e at more =
      next-wrong_front (stands order interfaces at (bytes ++ more)) reason (long_enough 12 more h) (front-append order bytes more h ∙ sym e)

  module _ (front : Front) (h : 12 ≤ length bytes) (e : Ok front ≡ front_of order bytes) where
    says : (turn : Result Turn Reason) → front.len ≤ length bytes → turn ≡ turn_of interfaces front (take front.len bytes) → (at : ℕ) (more : List ℕ)
        → next_of (stands order interfaces at (bytes ++ more)) ≡ by_turn front turn
    says turn whole is at more =
        next-block (stands order interfaces at (bytes ++ more)) front turn (long_enough 12 more h) (front-append order bytes more h ∙ sym e) (long_enough front.len more whole)
        (ap (turn_of interfaces front) (take-append-le front.len bytes more whole) ∙ sym is)

    pub tells-block : (turn : Turn) → front.len ≤ length bytes → Ok turn ≡ turn_of interfaces front (take front.len bytes) → EndsWithin front.len turn
        → Tells order interfaces bytes (Block front turn)
    tells-block turn whole is within = (says (Ok turn) whole is, within)

    pub tells-refused : (reason : Reason) → front.len ≤ length bytes → Err reason ≡ turn_of interfaces front (take front.len bytes)
        → Tells order interfaces bytes (Refused reason)
    tells-refused reason whole is = says (Err reason) whole is

  -- a block that is told is there
  pub block-there : (front : Front) (turn : Turn) → Tells order interfaces bytes (Block front turn) → (12 ≤ front.len) × (front.len ≤ length bytes)
  block-there front turn h =
      goes-whole (stands order interfaces 0 bytes) front turn (subst (λ l. next_of (stands order interfaces 0 l) ≡ goes front turn) (append-nil bytes) (h.0 0 []))

pub tells-same : (order order' : Option Order) (interfaces interfaces' : List Interface) (bytes bytes' : List ℕ) (coming : Coming) → order' ≡ order → interfaces' ≡ interfaces → bytes' ≡ bytes
    → Tells order interfaces bytes coming → Tells order' interfaces' bytes' coming
tells-same order order' interfaces interfaces' bytes bytes' coming a b c h =
    subst (λ o. Tells o interfaces' bytes' coming) (sym a) (subst (λ i. Tells order i bytes' coming) (sym b) (subst (λ l. Tells order interfaces l coming) (sym c) h))

-- ---- before what a source will give

pub told-known : (P : List ℕ → Type 0) (bytes : List ℕ) (known : Option (List ℕ)) → ((more : List ℕ) → P (bytes ++ more)) → IfSome (prepend_known bytes known) P
told-known P bytes None h = tt
told-known P bytes (Some more) h = h more

pub cut-known : (order : Option Order) (interfaces : List Interface) (at : ℕ) (bytes : List ℕ) (known : Option (List ℕ)) → IsCut order interfaces bytes → 0 < length bytes → IsAtEnd known
    → IfSome (prepend_known bytes known) (λ rest. next_of (stands order interfaces at rest) ≡ refused Cut)
cut-known order interfaces at bytes None cut some end = tt
cut-known order interfaces at bytes (Some more) cut some end =
    subst (λ l. next_of (stands order interfaces at l) ≡ refused Cut) (sym (ap (λ l. bytes ++ l) end ∙ append-nil bytes)) (cut at some)
