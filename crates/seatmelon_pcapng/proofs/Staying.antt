-- What is told of a file beside its packets stays the same on the way.
use Rattle.std.proofs.Common.{◌≡◌, ◌∙◌, ℕ, ◌+◌, ◌%◌, ◌^◌, ◌≤◌, List, [], ◌++◌, length, drop, Option, None, Some, IfSome, option_map, ap, sym, refl}
use Rattle.std.specs.Io.KnownBytes.{prepend_known}
use lib.Seq.{drop-append-le}
use Rattle.seatmelon_pcapng.specs.Blocks.{interfaces_after, link_types_of}
use Rattle.seatmelon_pcapng.specs.Classics.{Stays, remarks_left_by}
use Rattle.seatmelon_pcapng.specs.Comings.{stands}
use Rattle.seatmelon_pcapng.specs.LinkTypes.{first_of, no_link_types}
use Rattle.seatmelon_pcapng.specs.Progress.{IsReading}
use Rattle.seatmelon_pcapng.specs.Readings.{behind, next_of, order_after, reading_left, reading_of, remarks_by, remarks_of}
use Rattle.seatmelon_pcapng.specs.Readings.Next.{refused, goes}
use Rattle.seatmelon_pcapng.specs.declared.block.Turn.{Turn}
use Rattle.seatmelon_pcapng.specs.declared.classic.Progress.{Progress}
use Rattle.seatmelon_pcapng.specs.declared.classic.Progress.TheVariants.{Going, Ended}
use Rattle.seatmelon_pcapng.specs.declared.front.Front.{Front}
use Rattle.seatmelon_pcapng.specs.declared.interface.Interface.{Interface}
use Rattle.seatmelon_pcapng.specs.declared.link_types.LinkTypes.{LinkTypes}
use Rattle.seatmelon_pcapng.specs.declared.order.Order.{Order}
use Rattle.seatmelon_pcapng.specs.declared.refusal.Reason.{Reason}
use Rattle.seatmelon_pcapng.specs.declared.refusal.Refusal.{Refusal}
use Rattle.seatmelon_pcapng.specs.declared.remarks.Remarks.{Remarks}
use Rattle.seatmelon_pcapng.proofs.LinkTypeLemmas.{first_of-assoc, first_of-none}
use Rattle.seatmelon_pcapng.proofs.Steps.{remarks-ended, remarks-goes, remarks-refused}

-- ---- what stays

pub Stays-refl : (a : Option Remarks) → Stays a a
Stays-refl None = tt
Stays-refl (Some r) = refl

pub Stays-trans : (a b c : Option Remarks) → Stays a b → Stays b c → Stays a c
Stays-trans None b c p q = tt
Stays-trans (Some r) b c p q = rw p at q

-- ---- behind what was met

behind-none : (met : LinkTypes) (refusal : Option Refusal) → remarks_by refusal met ≡ behind met (remarks_by refusal no_link_types)
behind-none met refusal = ap (remarks_by refusal) (first_of-none met)

behind-both : (first second : LinkTypes) (r : Remarks) → behind (first_of first second) r ≡ behind first (behind second r)
behind-both first second r = ap (remarks_by r.refusal) (first_of-assoc first second (record { other = r.other_link_type; cooked = r.cooked_link_type }))

-- ---- by where it stands

by-reading : (met : LinkTypes) (old new : Option Remarks) (p : Progress) → IsReading p → Stays old new → Stays (remarks_left_by met old p) new
by-reading met old new Going r h = h
by-reading met old new (Ended refusal) r h = absurd r

abbrev ends_with : LinkTypes → Option Order → List Interface → ℕ → List ℕ → Remarks
ends_with met order interfaces at rest = behind met (remarks_of (reading_left (record { order = order; interfaces = interfaces; at = at; rest = rest })))

abbrev some : Remarks → Option Remarks
some r = Some r

module _ (met : LinkTypes) (order : Option Order) (interfaces : List Interface) (at : ℕ) where
  -- at a block that is refused
  met-known : (known : Option (List ℕ)) (reason : Reason) → IfSome known (λ rest. next_of (stands order interfaces at rest) ≡ refused reason)
      → Stays (option_map (ends_with met order interfaces at) known) (some (remarks_by (Some (record { reason = reason; at = at })) met))
  met-known None reason next = tt
  met-known (Some rest) reason next =
      ap some (behind-none met (Some (record { reason = reason; at = at })) ∙ ap (behind met) (sym (remarks-refused (stands order interfaces at rest) reason next)))

  pub remarks-met : (known : Option (List ℕ)) (p : Progress) (reason : Reason) → IsReading p → IfSome known (λ rest. next_of (stands order interfaces at rest) ≡ refused reason)
      → Stays (remarks_left_by met (option_map (ends_with met order interfaces at) known) p) (some (remarks_by (Some (record { reason = reason; at = at })) met))
  remarks-met known p reason r next = by-reading met _ _ p r (met-known known reason next)

  -- at the end of the file
  none-known : (known : Option (List ℕ)) → IfSome known (λ rest. rest ≡ []) → Stays (option_map (ends_with met order interfaces at) known) (some (remarks_by None met))
  none-known None end = tt
  none-known (Some rest) end = ap some (behind-none met None ∙ ap (behind met) (sym (remarks-ended (stands order interfaces at rest) end)))

  pub remarks-none : (known : Option (List ℕ)) (p : Progress) → IsReading p → IfSome known (λ rest. rest ≡ [])
      → Stays (remarks_left_by met (option_map (ends_with met order interfaces at) known) p) (some (remarks_by None met))
  remarks-none known p r end = by-reading met _ _ p r (none-known known end)

  -- behind a block
  gone-known : (bytes : List ℕ) (known : Option (List ℕ)) (front : Front) (turn : Turn)
      → IfSome (prepend_known bytes known) (λ rest. next_of (stands order interfaces at rest) ≡ goes front turn) → front.len ≤ length bytes
      → (met' : LinkTypes) (order' : Option Order) (interfaces' : List Interface) (at' : ℕ) (bytes' : List ℕ) → met' ≡ first_of met (link_types_of turn)
      → order' ≡ order_after order front turn → interfaces' ≡ interfaces_after interfaces turn → at' ≡ (at + front.len) % 2 ^ 64 → bytes' ≡ drop front.len bytes
      → Stays (option_map (ends_with met order interfaces at) (prepend_known bytes known))
      (option_map (ends_with met' order' interfaces' at') (prepend_known bytes' known))
  gone-known bytes None front turn next whole met' order' interfaces' at' bytes' m a b c d = tt
  gone-known bytes (Some more) front turn next whole met' order' interfaces' at' bytes' m a b c d =
      let rest = bytes ++ more in
      let follows : drop front.len rest ≡ drop front.len bytes ++ more = drop-append-le front.len bytes more whole in
      ap some
      (ap (λ l. ends_with met' order' interfaces' at' (l ++ more)) d
      ∙ ap (λ o. ends_with met' o interfaces' at' (drop front.len bytes ++ more)) a
      ∙ ap (λ i. ends_with met' (order_after order front turn) i at' (drop front.len bytes ++ more)) b
      ∙ ap (λ n. ends_with met' (order_after order front turn) (interfaces_after interfaces turn) n (drop front.len bytes ++ more)) c
      ∙ ap (λ l. ends_with met' (order_after order front turn) (interfaces_after interfaces turn) ((at + front.len) % 2 ^ 64) l) (sym follows)
      ∙ ap (λ o. ends_with o (order_after order front turn) (interfaces_after interfaces turn) ((at + front.len) % 2 ^ 64) (drop front.len rest)) m
      ∙ behind-both met (link_types_of turn) _
      ∙ ap (behind met) (sym (remarks-goes (stands order interfaces at rest) front turn next)))

  pub remarks-gone : (bytes : List ℕ) (known : Option (List ℕ)) (p : Progress) (front : Front) (turn : Turn) → IsReading p
      → IfSome (prepend_known bytes known) (λ rest. next_of (stands order interfaces at rest) ≡ goes front turn) → front.len ≤ length bytes
      → (met' : LinkTypes) (order' : Option Order) (interfaces' : List Interface) (at' : ℕ) (bytes' : List ℕ) → met' ≡ first_of met (link_types_of turn)
      → order' ≡ order_after order front turn → interfaces' ≡ interfaces_after interfaces turn → at' ≡ (at + front.len) % 2 ^ 64 → bytes' ≡ drop front.len bytes
      → Stays (remarks_left_by met (option_map (ends_with met order interfaces at) (prepend_known bytes known)) p)
      (remarks_left_by met' (option_map (ends_with met' order' interfaces' at') (prepend_known bytes' known)) p)
  remarks-gone bytes known Going front turn r next whole met' order' interfaces' at' bytes' m a b c d =
      gone-known bytes known front turn next whole met' order' interfaces' at' bytes' m a b c d
  remarks-gone bytes known (Ended refusal) front turn r next whole met' order' interfaces' at' bytes' m a b c d = absurd r

-- ---- where nothing was read

pub remarks-begin : (met : LinkTypes) (order : Option Order) (interfaces : List Interface) (at : ℕ) (block file : List ℕ) (known : Option (List ℕ))
    → met ≡ no_link_types → order ≡ None → interfaces ≡ [] → at ≡ 0 → block ≡ [] → known ≡ Some file
    → option_map (ends_with met order interfaces at) (prepend_known block known) ≡ Some (remarks_of (reading_of file))
remarks-begin met order interfaces at block file None m a b c d is = absurd cc
remarks-begin met order interfaces at block file (Some first) m a b c d is =
    let same : first ≡ file = cc in
    ap some (ap (λ l. ends_with met order interfaces at (l ++ first)) d
    ∙ ap (λ o. ends_with met o interfaces at first) a
    ∙ ap (λ i. ends_with met None i at first) b
    ∙ ap (λ n. ends_with met None [] n first) c
    ∙ ap (λ l. ends_with met None [] 0 l) same
    ∙ ap (λ o. ends_with o None [] 0 file) m)
