-- The steps of a reading.
use Rattle.std.proofs.Common.{◌≡◌, ◌∙◌, ℕ, zero, suc, ◌+◌, ◌-◌, ◌<◌, ◌≤◌, List, [], ◌∷◌, ◌++◌, append_assoc, length, length-drop, take, drop, Option, None, Some, Result, Ok, Err, Bool, true, false, nat_lt, nat_eq, not, cond, refl, ap, sym, arith}
use Rattle.std.specs.Prelude.{◌||◌, ◌%◌}
use Rattle.std.specs.List.{flat_map}
use Rattle.std.proofs.lemmas.List.{drop-append-le, nil_from_length}
use Rattle.std.proofs.lemmas.List.Concat.{flat_map-append}
use Rattle.std.proofs.lemmas.Bool.{ltb-false}
use Rattle.std.proofs.lemmas.Bool.Decides.{nat_tests}
use Rattle.byteorder.specs.Endian.{big_number, little_number}
use Rattle.byteorder.specs.Numbers.{big_from-append, little_from-append}
use Rattle.seatmelon_pcapng.specs.Blocks.{enhanced_packet, front_by, front_of, interface_description, kind_in, least_length, length_in, link_types_of, most_length, obsolete_packet, or_else, order_of, section_header, simple_packet, turn_of}
use Rattle.seatmelon_pcapng.specs.LinkTypes.{first_of, no_link_types}
use Rattle.seatmelon_pcapng.specs.Orders.{byte_order_magic, field}
use Rattle.seatmelon_pcapng.specs.Readings.{Next, Packet, Reading, State, behind, by_front, by_turn, mark_of, next_of, packet_bytes, packets_in, read_step, reading_from, reading_left, records_bytes, remarks_by, remarks_of, state_after}
use Rattle.seatmelon_pcapng.specs.Readings.Next.{ended, refused, goes}
use Rattle.seatmelon_pcapng.specs.declared.block.Turn.{Turn}
use Rattle.seatmelon_pcapng.specs.declared.block.Turn.TheVariants as turns
use Rattle.seatmelon_pcapng.specs.declared.front.Front.{Front}
use Rattle.seatmelon_pcapng.specs.declared.link_types.LinkTypes.{LinkTypes}
use Rattle.seatmelon_pcapng.specs.declared.order.Order.{Order}
use Rattle.seatmelon_pcapng.specs.declared.order.Order.TheVariants.{Little, Big}
use Rattle.seatmelon_pcapng.specs.declared.refusal.Reason.{Reason}
use Rattle.seatmelon_pcapng.specs.declared.refusal.Reason.TheVariants.{ByteOrder, Cut, Length, NotPcapng, TooLong}

-- ---- a front doesn't depend on what follows it

pub field-append : (order : Order) (n at : ℕ) (xs ys : List ℕ) → at + n ≤ length xs → field order n at (xs ++ ys) ≡ field order n at xs
field-append Little n at xs ys h =
    ap (little_number n) (drop-append-le at xs ys (omega arith)) ∙ little_from-append n (drop at xs) ys (simp length-drop (omega arith))
field-append Big n at xs ys h =
    ap (big_number n) (drop-append-le at xs ys (omega arith)) ∙ big_from-append n (drop at xs) ys (simp length-drop (omega arith))

-- the byte order by the fields that tell it
abbrev told_by : ℕ → ℕ → Option Order
told_by little big = cond (nat_eq little byte_order_magic) (Some Little) (cond (nat_eq big byte_order_magic) (Some Big) None)

abbrev order_by : Option Order → ℕ → ℕ → ℕ → Result Order Reason
order_by known kind little big = cond (nat_eq kind section_header) (or_else (told_by little big) ByteOrder) (or_else known NotPcapng)

order-append : (known : Option Order) (xs ys : List ℕ) → 12 ≤ length xs → order_of known (xs ++ ys) ≡ order_of known xs
order-append known xs ys h =
    ap (λ k. order_by known k (field Little 4 8 (xs ++ ys)) (field Big 4 8 (xs ++ ys))) (field-append Little 4 0 xs ys (omega arith))
    ∙ ap (λ l. order_by known (field Little 4 0 xs) l (field Big 4 8 (xs ++ ys))) (field-append Little 4 8 xs ys (omega arith))
    ∙ ap (λ b. order_by known (field Little 4 0 xs) (field Little 4 8 xs) b) (field-append Big 4 8 xs ys (omega arith))

abbrev front_so : Order → ℕ → ℕ → Result Front Reason
front_so order kind len =
    cond (not (nat_eq (len % 4) 0) || nat_lt len (least_length kind)) (Err Length)
    (cond (nat_lt most_length len) (Err TooLong) (Ok (record { order = order; kind = kind; len = len })))

front_by-append : (o : Result Order Reason) (xs ys : List ℕ) → 12 ≤ length xs → front_by o (xs ++ ys) ≡ front_by o xs
front_by-append (Err reason) xs ys h = refl
front_by-append (Ok order) xs ys h =
    ap (λ k. front_so order k (length_in order (xs ++ ys))) (field-append order 4 0 xs ys (omega arith))
    ∙ ap (λ l. front_so order (kind_in order xs) l) (field-append order 4 4 xs ys (omega arith))

pub front-append : (known : Option Order) (xs ys : List ℕ) → 12 ≤ length xs → front_of known (xs ++ ys) ≡ front_of known xs
front-append known xs ys h = front_by-append (order_of known (xs ++ ys)) xs ys h ∙ ap (λ o. front_by o xs) (order-append known xs ys h)

-- ---- a block has 12 bytes at least

least_of : (b : Bool) (n m : ℕ) → 12 ≤ n → 12 ≤ m → 12 ≤ cond b n m
least_of true n m h k = h
least_of false n m h k = k

pub least : (kind : ℕ) → 12 ≤ least_length kind
least kind =
    least_of (nat_eq kind section_header) 28 _ (omega arith)
    (least_of (nat_eq kind interface_description) 20 _ (omega arith)
    (least_of (nat_eq kind obsolete_packet) 32 _ (omega arith)
    (least_of (nat_eq kind simple_packet) 16 _ (omega arith)
    (least_of (nat_eq kind enhanced_packet) 32 12 (omega arith) (omega arith)))))

abbrev ok : Front → Result Front Reason
ok front = Ok front

same_front : (a b : Front) → ok a ≡ ok b → b.len ≡ a.len
same_front a b e = (let same : a ≡ b = cc in ap (λ (f : Front). f.len) (sym same))

not_less : (n m : ℕ) → nat_lt n m ≡ false → m ≤ n
not_less n m e = ltb-false n m e

so_long : (odd short long : Bool) (front found : Front) → cond (odd || short) (Err Length) (cond long (Err TooLong) (ok front)) ≡ ok found
    → (short ≡ false) × (found.len ≡ front.len)
so_long true short long front found e = absurd cc
so_long false true long front found e = absurd cc
so_long false false true front found e = absurd cc
so_long false false false front found e = (refl, same_front front found e)

front_by-least : (o : Result Order Reason) (bytes : List ℕ) (front : Front) → front_by o bytes ≡ Ok front → 12 ≤ front.len
front_by-least (Err reason) bytes front e = absurd cc
front_by-least (Ok order) bytes front e =
    let len = length_in order bytes in
    let kind = kind_in order bytes in
    let found = so_long (not (nat_eq (len % 4) 0)) (nat_lt len (least_length kind)) (nat_lt most_length len) (record { order = order; kind = kind; len = len }) front e in
    let long : least_length kind ≤ len = not_less len (least_length kind) found.0 in
    let some : 12 ≤ least_length kind = least kind in
    omega (arith, long, some, found.1)

pub front-least : (known : Option Order) (bytes : List ℕ) (front : Front) → front_of known bytes ≡ Ok front → 12 ≤ front.len
front-least known bytes front e = front_by-least (order_of known bytes) bytes front e

-- ---- what comes next

not_zero : (n : ℕ) → 12 ≤ n → nat_eq n 0 ≡ false
not_zero n h = grind (arith, nat_tests)

at_least : (n m : ℕ) → m ≤ n → nat_lt n m ≡ false
at_least n m h = grind (arith, nat_tests)

abbrev next_by : Bool → Bool → Next → Next
next_by none short more = cond none ended (cond short (refused Cut) more)

pub next-front : (s : State) → 12 ≤ length s.rest → next_of s ≡ by_front s (front_of s.order s.rest)
next-front s h =
    ap (λ b. next_by b (nat_lt (length s.rest) 12) (by_front s (front_of s.order s.rest))) (not_zero (length s.rest) h)
    ∙ ap (λ b. next_by false b (by_front s (front_of s.order s.rest))) (at_least (length s.rest) 12 h)

pub next-ended : (s : State) → s.rest ≡ [] → next_of s ≡ ended
next-ended s h = ap (λ (l : List ℕ). next_by (nat_eq (length l) 0) (nat_lt (length l) 12) (by_front s (front_of s.order s.rest))) h

pub next-wrong_front : (s : State) (reason : Reason) → 12 ≤ length s.rest → front_of s.order s.rest ≡ Err reason → next_of s ≡ refused reason
next-wrong_front s reason h e = next-front s h ∙ ap (by_front s) e

abbrev by_block : Bool → State → Front → Next
by_block cut s front = cond cut (refused Cut) (by_turn front (turn_of s.interfaces front (take front.len s.rest)))

pub next-block : (s : State) (front : Front) (turn : Result Turn Reason) → 12 ≤ length s.rest → front_of s.order s.rest ≡ Ok front → front.len ≤ length s.rest
    → turn_of s.interfaces front (take front.len s.rest) ≡ turn → next_of s ≡ by_turn front turn
next-block s front turn h e whole is =
    next-front s h ∙ ap (by_front s) e ∙ ap (λ b. by_block b s front) (at_least (length s.rest) front.len whole) ∙ ap (by_turn front) is

-- a block that says something stands there whole
turn_front : (front other : Front) (o : Result Turn Reason) (turn : Turn) → by_turn front o ≡ goes other turn → other.len ≡ front.len
turn_front front other (Err reason) turn e = absurd cc
turn_front front other (Ok t) turn e = (let same : front ≡ other = cc in ap (λ (f : Front). f.len) (sym same))

block_whole : (s : State) (cut : Bool) (front other : Front) (turn : Turn) → by_block cut s front ≡ goes other turn → (cut ≡ false) × (other.len ≡ front.len)
block_whole s true front other turn e = absurd cc
block_whole s false front other turn e = (refl, turn_front front other _ turn e)

front_whole : (s : State) (o : Result Front Reason) (other : Front) (turn : Turn) → front_of s.order s.rest ≡ o → by_front s o ≡ goes other turn
    → (12 ≤ other.len) × (other.len ≤ length s.rest)
front_whole s (Err reason) other turn is e = absurd cc
front_whole s (Ok front) other turn is e =
    let found = block_whole s (nat_lt (length s.rest) front.len) front other turn e in
    let some : 12 ≤ front.len = front-least s.order s.rest front is in
    let within : front.len ≤ length s.rest = ltb-false (length s.rest) front.len found.0 in
    (omega (arith, some, found.1), omega (arith, within, found.1))

next_whole : (s : State) (none short : Bool) (front : Front) (turn : Turn) → next_by none short (by_front s (front_of s.order s.rest)) ≡ goes front turn
    → (12 ≤ front.len) × (front.len ≤ length s.rest)
next_whole s true short front turn e = absurd cc
next_whole s false true front turn e = absurd cc
next_whole s false false front turn e = front_whole s (front_of s.order s.rest) front turn refl e

pub goes-whole : (s : State) (front : Front) (turn : Turn) → next_of s ≡ goes front turn → (12 ≤ front.len) × (front.len ≤ length s.rest)
goes-whole s front turn e = next_whole s (nat_eq (length s.rest) 0) (nat_lt (length s.rest) 12) front turn e

-- ---- as many blocks as there are bytes are enough

abbrev nothing_more : Reading
nothing_more = record { packets = []; refusal = None; met = no_link_types }

reading-suc : (left : ℕ) (s : State) (n : Next) → next_of s ≡ n → reading_from (suc left) s ≡ read_step s n (reading_from left (state_after s n))
unfolding reading_from
reading-suc left s n e = ap (λ (x : Next). read_step s x (reading_from left (state_after s x))) e

reading-zero : (s : State) → reading_from zero s ≡ nothing_more
unfolding reading_from
reading-zero s = refl

reading-none : (left : ℕ) (s : State) → length s.rest ≤ 0 → reading_from left s ≡ nothing_more
reading-none zero s h = reading-zero s
reading-none (suc left) s h = reading-suc left s ended (next-ended s (nil_from_length s.rest (omega arith)))

-- what is left behind a block
shorter : (n len left : ℕ) → 12 ≤ len → len ≤ n → n ≤ suc left → n - len ≤ left
shorter n len left some within h = omega arith

same_step : (s : State) (next : Next) (one other : ℕ) → next_of s ≡ next
    → ((t : State) → length t.rest ≤ one → length t.rest ≤ other → reading_from one t ≡ reading_from other t)
    → length s.rest ≤ suc one → length s.rest ≤ suc other
    → read_step s next (reading_from one (state_after s next)) ≡ read_step s next (reading_from other (state_after s next))
same_step s ended one other e same h k = refl
same_step s (refused reason) one other e same h k = refl
same_step s (goes front turn) one other e same h k =
    let whole = goes-whole s front turn e in
    let size : length (drop front.len s.rest) ≡ length s.rest - front.len = length-drop front.len s.rest in
    let less : length s.rest - front.len ≤ one = shorter (length s.rest) front.len one whole.0 whole.1 h in
    let less_too : length s.rest - front.len ≤ other = shorter (length s.rest) front.len other whole.0 whole.1 k in
    ap (read_step s (goes front turn)) (same (state_after s (goes front turn)) (omega (arith, size, less)) (omega (arith, size, less_too)))

pub enough : (one other : ℕ) (s : State) → length s.rest ≤ one → length s.rest ≤ other → reading_from one s ≡ reading_from other s
enough zero other s h k = reading-zero s ∙ sym (reading-none other s h)
enough (suc one) zero s h k = reading-none (suc one) s k ∙ sym (reading-zero s)
enough (suc one) (suc other) s h k =
    reading-suc one s (next_of s) refl ∙ same_step s (next_of s) one other refl (enough one other) h k ∙ sym (reading-suc other s (next_of s) refl)

-- ---- what is spelled

no_length : (l : List ℕ) → l ≡ [] → length l ≤ 0
no_length l e = (let size : length l ≡ 0 = ap length e in omega (arith, size))

-- at least one byte is left where a block is refused, or says something
some_bytes : (n : ℕ) → 0 < n → n ≡ suc (n - 1)
some_bytes n h = omega arith

reading_left-suc : (s : State) (next : Next) → 0 < length s.rest → next_of s ≡ next
    → reading_left s ≡ read_step s next (reading_from (length s.rest - 1) (state_after s next))
reading_left-suc s next some e = ap (λ n. reading_from n s) (some_bytes (length s.rest) some) ∙ reading-suc (length s.rest - 1) s next e

some_left : (n : ℕ) (short : Bool) (more : Next) (reason : Reason) → next_by (nat_eq n 0) short more ≡ refused reason → 0 < n
some_left zero short more reason e = absurd cc
some_left (suc n) short more reason e = omega arith

pub refused-some : (s : State) (reason : Reason) → next_of s ≡ refused reason → 0 < length s.rest
refused-some s reason e = some_left (length s.rest) (nat_lt (length s.rest) 12) (by_front s (front_of s.order s.rest)) reason e

pub spelled-ended : (s : State) → s.rest ≡ [] → records_bytes (reading_left s) ≡ []
spelled-ended s h = ap records_bytes (reading-none (length s.rest) s (no_length s.rest h))

pub spelled-refused : (s : State) (reason : Reason) → 0 < length s.rest → next_of s ≡ refused reason → records_bytes (reading_left s) ≡ 0 ∷ []
spelled-refused s reason some e = ap records_bytes (reading_left-suc s (refused reason) some e)

spelled-more : (s : State) (front : Front) (turn : Turn) (more : Reading)
    → records_bytes (read_step s (goes front turn) more) ≡ flat_map packet_bytes (packets_in (take front.len s.rest) turn) ++ records_bytes more
spelled-more s front turn more =
    let packets = packets_in (take front.len s.rest) turn in
    ap (λ l. l ++ mark_of more.refusal) (flat_map-append packet_bytes packets more.packets)
    ∙ append_assoc (flat_map packet_bytes packets) (flat_map packet_bytes more.packets) (mark_of more.refusal)

pub spelled-goes : (s : State) (front : Front) (turn : Turn) → next_of s ≡ goes front turn
    → records_bytes (reading_left s) ≡ flat_map packet_bytes (packets_in (take front.len s.rest) turn) ++ records_bytes (reading_left (state_after s (goes front turn)))
spelled-goes s front turn e =
    let whole = goes-whole s front turn e in
    let size : length (drop front.len s.rest) ≡ length s.rest - front.len = length-drop front.len s.rest in
    let next = state_after s (goes front turn) in
    ap records_bytes (reading_left-suc s (goes front turn) (omega (arith, whole.0, whole.1)) e)
    ∙ spelled-more s front turn (reading_from (length s.rest - 1) next)
    ∙ ap (λ r. flat_map packet_bytes (packets_in (take front.len s.rest) turn) ++ records_bytes r)
    (enough (length s.rest - 1) (length (drop front.len s.rest)) next (omega (arith, size, whole.0, whole.1)) (omega (arith, size)))

-- ---- what is told beside the packets

pub remarks-ended : (s : State) → s.rest ≡ [] → remarks_of (reading_left s) ≡ remarks_by None no_link_types
remarks-ended s h = ap remarks_of (reading-none (length s.rest) s (no_length s.rest h))

pub remarks-refused : (s : State) (reason : Reason) → next_of s ≡ refused reason
    → remarks_of (reading_left s) ≡ remarks_by (Some (record { reason = reason; at = s.at })) no_link_types
remarks-refused s reason e = ap remarks_of (reading_left-suc s (refused reason) (refused-some s reason e) e)

pub remarks-goes : (s : State) (front : Front) (turn : Turn) → next_of s ≡ goes front turn
    → remarks_of (reading_left s) ≡ behind (link_types_of turn) (remarks_of (reading_left (state_after s (goes front turn))))
remarks-goes s front turn e =
    let whole = goes-whole s front turn e in
    let size : length (drop front.len s.rest) ≡ length s.rest - front.len = length-drop front.len s.rest in
    ap remarks_of (reading_left-suc s (goes front turn) (omega (arith, whole.0, whole.1)) e)
    ∙ ap (λ (r : Reading). behind (link_types_of turn) (remarks_of r)) (enough (length s.rest - 1) (length (drop front.len s.rest)) (state_after s (goes front turn))
    (omega (arith, size, whole.0, whole.1)) (omega (arith, size)))

-- where no packet is read, no link type is told
packets-none : (block : List ℕ) (turn : Turn) (packets : List Packet) (met : LinkTypes) → (packets ≡ [] → met ≡ no_link_types)
    → packets_in block turn ++ packets ≡ [] → first_of (link_types_of turn) met ≡ no_link_types
packets-none block turns.Section packets met h e = h e
packets-none block (turns.Interface i) packets met h e = h e
packets-none block (turns.Packet found) packets met h e = absurd cc
packets-none block (turns.Cooked found kind) packets met h e = absurd cc
packets-none block (turns.Foreign found link_type) packets met h e = absurd cc
packets-none block turns.Other packets met h e = h e

step-none : (s : State) (next : Next) (more : Reading) → (more.packets ≡ [] → more.met ≡ no_link_types) → (read_step s next more).packets ≡ []
    → (read_step s next more).met ≡ no_link_types
step-none s ended more h e = refl
step-none s (refused reason) more h e = refl
step-none s (goes front turn) more h e = packets-none (take front.len s.rest) turn more.packets more.met h e

pub met-none : (left : ℕ) (s : State) → (reading_from left s).packets ≡ [] → (reading_from left s).met ≡ no_link_types
unfolding reading_from
met-none zero s e = refl
met-none (suc left) s e = step-none s (next_of s) (reading_from left (state_after s (next_of s))) (met-none left (state_after s (next_of s))) e
