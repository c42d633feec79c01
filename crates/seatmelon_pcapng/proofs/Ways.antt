-- What a source of a classic capture will give stays the same on its way.
use Rattle.std.proofs.Common.{◌≡◌, ◌∙◌, ℕ, ◌+◌, ◌-◌, ◌%◌, ◌^◌, ◌<◌, ◌≤◌, List, [], ◌∷◌, ◌++◌, append-nil, append_assoc, length, length-drop, length-take, min, slice_range, take, drop, Option, None, Some, IfSome, option_map, Result, Ok, Err, OnOk, OnErr, is_err, true, false, nat_eq, ap, sym, refl, arith}
use Rattle.std.specs.List.{flat_map}
use Rattle.std.specs.Io.KnownBytes.{Consumes, IsAtEnd, Keeps, prepend_known}
use Rattle.std.proofs.lemmas.Bool.Decides.{nat_tests}
use Rattle.std.proofs.lemmas.List.{nil_from_length}
use Rattle.std.proofs.lemmas.List.Concat.{flat_map-cons}
use Rattle.byteorder.specs.Endian.{little_bytes}
use lib.Seq.{drop-append-le, take-append-le}
use Rattle.seatmelon_pcapng.specs.Blocks.{interfaces_after}
use Rattle.seatmelon_pcapng.specs.Classics.{given_by, left_by}
use Rattle.seatmelon_pcapng.specs.Comings.{stands}
use Rattle.seatmelon_pcapng.specs.Progress.{IsReading}
use Rattle.seatmelon_pcapng.specs.Readings.{StandsWithin, classic_of, front_by, header_bytes, next_of, order_after, packet_bytes, packet_in, packets_in, reading_left, reading_of, records_bytes, state_after}
use Rattle.seatmelon_pcapng.specs.Readings.Next.{refused, goes}
use Rattle.seatmelon_pcapng.specs.declared.block.Found.{Found}
use Rattle.seatmelon_pcapng.specs.declared.block.Turn.{Turn}
use Rattle.seatmelon_pcapng.specs.declared.classic.Progress.{Progress}
use Rattle.seatmelon_pcapng.specs.declared.classic.Progress.TheVariants.{Going, Ended}
use Rattle.seatmelon_pcapng.specs.declared.front.Front.{Front}
use Rattle.seatmelon_pcapng.specs.declared.interface.Interface.{Interface}
use Rattle.seatmelon_pcapng.specs.declared.order.Order.{Order}
use Rattle.seatmelon_pcapng.specs.declared.refusal.Reason.{Reason}
use Rattle.seatmelon_pcapng.proofs.Steps.{refused-some, spelled-ended, spelled-goes, spelled-refused}

-- ---- what an answer says

pub not_err_so : {A E : Type 0} (r : Result A E) (P : Type 0) → OnOk r P → is_err r ≡ false → P
not_err_so (Ok x) P h e = h
not_err_so (Err x) P h e = absurd cc

pub err_so : {A E : Type 0} (r : Result A E) (P : Type 0) → OnErr r P → is_err r ≡ true → P
err_so (Ok x) P h e = absurd cc
err_so (Err x) P h e = h

pub OnOk-then : {A E : Type 0} (r : Result A E) (P Q : Type 0) → OnOk r P → (P → Q) → OnOk r Q
OnOk-then (Ok x) P Q h step = step h
OnOk-then (Err x) P Q h step = tt

pub empty_so : (l : List ℕ) → nat_eq (length l) 0 ≡ true → l ≡ []
empty_so l e = (let none : length l ≡ 0 = grind (arith, nat_tests) in nil_from_length l (omega (arith, none)))

pub some_so : (l : List ℕ) → nat_eq (length l) 0 ≡ false → 0 < length l
some_so l e = grind (arith, nat_tests)

-- ---- what is spelled of a packet

pub spelled-packet : (block : List ℕ) (found : Found) → StandsWithin (length block) found
    → front_by found ++ slice_range block found.start found.end ≡ flat_map packet_bytes (packet_in block found ∷ [])
spelled-packet block found within =
    let bytes = slice_range block found.start found.end in
    let size : length bytes ≡ min (found.end - found.start) (length (drop found.start block)) = length-take (found.end - found.start) (drop found.start block) in
    let behind : length (drop found.start block) ≡ length block - found.start = length-drop found.start block in
    let whole : found.end - found.start ≡ length bytes = omega (arith, size, behind, within.0, within.1) in
    ap (λ n. (little_bytes 4 found.moment.seconds ++ (little_bytes 4 found.moment.nanoseconds ++ (little_bytes 4 n ++ little_bytes 4 found.original))) ++ bytes) whole
    ∙ sym (flat_map-cons packet_bytes (packet_in block found) [] ∙ append-nil (packet_bytes (packet_in block found)))

-- ---- by where it stands

left_by-reading : (held : List ℕ) (old new : Option (List ℕ)) (p : Progress) → IsReading p → Keeps old new → Keeps (left_by held old p) new
left_by-reading held old new Going r h = h
left_by-reading held old new (Ended refusal) r h = absurd r

pub Keeps-map : (f : List ℕ → List ℕ) (old new : Option (List ℕ)) → Keeps old new → Keeps (option_map f old) (option_map f new)
Keeps-map f None new h = tt
Keeps-map f (Some x) None h = absurd h
Keeps-map f (Some x) (Some y) h = ap f h

-- ---- at a block that is refused

module _ (order : Option Order) (interfaces : List Interface) (at : ℕ) (held : List ℕ) (none : held ≡ []) where
  refused-known : (known : Option (List ℕ)) (reason : Reason) (bytes : List ℕ) → IfSome known (λ rest. next_of (stands order interfaces at rest) ≡ refused reason) → bytes ≡ 0 ∷ []
      → Keeps (option_map (given_by order interfaces at held) known) (Some bytes)
  refused-known None reason bytes next is = tt
  refused-known (Some rest) reason bytes next is =
      let spelled = spelled-refused (stands order interfaces at rest) reason (refused-some (stands order interfaces at rest) reason next) next in
      is ∙ sym (ap (λ l. l ++ records_bytes (reading_left (stands order interfaces at rest))) none ∙ spelled)

  pub left-refused : (known : Option (List ℕ)) (p : Progress) (reason : Reason) (bytes : List ℕ) → IsReading p → IfSome known (λ rest. next_of (stands order interfaces at rest) ≡ refused reason)
      → bytes ≡ 0 ∷ [] → Keeps (left_by held (option_map (given_by order interfaces at held) known) p) (Some bytes)
  left-refused known p reason bytes r next is = left_by-reading held _ _ p r (refused-known known reason bytes next is)

  ended-known : (known : Option (List ℕ)) (bytes : List ℕ) → IfSome known (λ rest. rest ≡ []) → bytes ≡ []
      → Keeps (option_map (given_by order interfaces at held) known) (Some bytes)
  ended-known None bytes end is = tt
  ended-known (Some rest) bytes end is = is ∙ sym (ap (λ l. l ++ records_bytes (reading_left (stands order interfaces at rest))) none ∙ spelled-ended (stands order interfaces at rest) end)

  -- at the end of the file
  pub left-done : (known : Option (List ℕ)) (p : Progress) (bytes : List ℕ) → IsReading p → IfSome known (λ rest. rest ≡ []) → bytes ≡ []
      → Keeps (left_by held (option_map (given_by order interfaces at held) known) p) (Some bytes)
  left-done known p bytes r end is = left_by-reading held _ _ p r (ended-known known bytes end is)

-- ---- behind a block

module _ (order : Option Order) (interfaces : List Interface) (at : ℕ) (held : List ℕ) where
  gone-known : (bytes : List ℕ) (known : Option (List ℕ)) (front : Front) (turn : Turn) → IfSome (prepend_known bytes known) (λ rest. next_of (stands order interfaces at rest) ≡ goes front turn)
      → front.len ≤ length bytes → (order' : Option Order) (interfaces' : List Interface) (at' : ℕ) (held' bytes' : List ℕ) → order' ≡ order_after order front turn
      → interfaces' ≡ interfaces_after interfaces turn → at' ≡ (at + front.len) % 2 ^ 64 → held' ≡ held ++ flat_map packet_bytes (packets_in (take front.len bytes) turn)
      → bytes' ≡ drop front.len bytes
      → Keeps (option_map (given_by order interfaces at held) (prepend_known bytes known)) (option_map (given_by order' interfaces' at' held') (prepend_known bytes' known))
  gone-known bytes None front turn next whole order' interfaces' at' held' bytes' a b c d e = tt
  gone-known bytes (Some more) front turn next whole order' interfaces' at' held' bytes' a b c d e =
      let rest = bytes ++ more in
      let begins : take front.len rest ≡ take front.len bytes = take-append-le front.len bytes more whole in
      let follows : drop front.len rest ≡ drop front.len bytes ++ more = drop-append-le front.len bytes more whole in
      let spells = flat_map packet_bytes (packets_in (take front.len rest) turn) in
      let after = state_after (stands order interfaces at rest) (goes front turn) in
      ap (λ l. given_by order' interfaces' at' held' (l ++ more)) e
      ∙ ap (λ o. given_by o interfaces' at' held' (drop front.len bytes ++ more)) a
      ∙ ap (λ i. given_by (order_after order front turn) i at' held' (drop front.len bytes ++ more)) b
      ∙ ap (λ n. given_by (order_after order front turn) (interfaces_after interfaces turn) n held' (drop front.len bytes ++ more)) c
      ∙ ap (λ l. given_by (order_after order front turn) (interfaces_after interfaces turn) ((at + front.len) % 2 ^ 64) held' l) (sym follows)
      ∙ ap (λ h. h ++ records_bytes (reading_left after)) d
      ∙ ap (λ l. (held ++ flat_map packet_bytes (packets_in l turn)) ++ records_bytes (reading_left after)) (sym begins)
      ∙ append_assoc held spells (records_bytes (reading_left after))
      ∙ ap (λ l. held ++ l) (sym (spelled-goes (stands order interfaces at rest) front turn next))

  pub left-gone : (bytes : List ℕ) (known : Option (List ℕ)) (p : Progress) (front : Front) (turn : Turn) → IsReading p
      → IfSome (prepend_known bytes known) (λ rest. next_of (stands order interfaces at rest) ≡ goes front turn) → front.len ≤ length bytes
      → (order' : Option Order) (interfaces' : List Interface) (at' : ℕ) (held' bytes' : List ℕ) → order' ≡ order_after order front turn
      → interfaces' ≡ interfaces_after interfaces turn → at' ≡ (at + front.len) % 2 ^ 64 → held' ≡ held ++ flat_map packet_bytes (packets_in (take front.len bytes) turn)
      → bytes' ≡ drop front.len bytes
      → Keeps (left_by held (option_map (given_by order interfaces at held) (prepend_known bytes known)) p)
      (left_by held' (option_map (given_by order' interfaces' at' held') (prepend_known bytes' known)) p)
  left-gone bytes known Going front turn r next whole order' interfaces' at' held' bytes' a b c d e =
      gone-known bytes known front turn next whole order' interfaces' at' held' bytes' a b c d e
  left-gone bytes known (Ended refusal) front turn r next whole order' interfaces' at' held' bytes' a b c d e = absurd r

-- ---- where nothing was read

pub left-begins : (order : Option Order) (interfaces : List Interface) (at : ℕ) (held block : List ℕ) (known : Option (List ℕ)) → order ≡ None → interfaces ≡ [] → at ≡ 0
    → held ≡ header_bytes → block ≡ []
    → option_map (given_by order interfaces at held) (prepend_known block known) ≡ option_map (λ file. classic_of (reading_of file)) known
left-begins order interfaces at held block None a b c d e = refl
left-begins order interfaces at held block (Some file) a b c d e =
    ap (λ (l : List ℕ). Some l) (ap (λ l. given_by order interfaces at held (l ++ file)) e
    ∙ ap (λ o. given_by o interfaces at held file) a
    ∙ ap (λ i. given_by None i at held file) b
    ∙ ap (λ n. given_by None [] n held file) c
    ∙ ap (λ h. given_by None [] 0 h file) d)

-- ---- where some of what it holds is given

Keeps-Consumes : (a b c : Option (List ℕ)) (bs : List ℕ) → Keeps a b → Consumes b c bs → Consumes a c bs
Keeps-Consumes None b c bs p q = tt
Keeps-Consumes (Some x) None c bs p q = absurd p
Keeps-Consumes (Some x) (Some y) None bs p q = absurd q
Keeps-Consumes (Some x) (Some y) (Some z) bs p q = sym p ∙ q

module _ (order : Option Order) (interfaces : List Interface) (at : ℕ) (held held' front : List ℕ) (is : held ≡ front ++ held') where
  given-front : (known : Option (List ℕ)) → Consumes (option_map (given_by order interfaces at held) known) (option_map (given_by order interfaces at held') known) front
  given-front None = tt
  given-front (Some rest) =
      let more = records_bytes (reading_left (record { order = order; interfaces = interfaces; at = at; rest = rest })) in
      ap (λ l. l ++ more) is ∙ append_assoc front held' more

  gives : (known : Option (List ℕ)) (p : Progress)
      → Consumes (left_by held (option_map (given_by order interfaces at held) known) p) (left_by held' (option_map (given_by order interfaces at held') known) p) front
  gives known Going = given-front known
  gives known (Ended refusal) = is

  pub left-given : (old known : Option (List ℕ)) (p : Progress) → Keeps old (left_by held (option_map (given_by order interfaces at held) known) p)
      → Consumes old (left_by held' (option_map (given_by order interfaces at held') known) p) front
  left-given old known p kept = Keeps-Consumes old _ _ front kept (gives known p)

-- ---- what comes next

pub no_more : (bytes : List ℕ) (known : Option (List ℕ)) → bytes ≡ [] → IsAtEnd known → IfSome (prepend_known bytes known) (λ rest. rest ≡ [])
no_more bytes None none end = tt
no_more bytes (Some more) none end = ap (λ l. l ++ more) none ∙ end
