-- The header of a file, and the cursor after it.
use Rattle.std.proofs.Common.{◌≡◌, ℕ, ◌+◌, ◌*◌, ◌≤◌, ◌⊎◌, ◌∙◌, inl, inr, List, ◌++◌, length, take, drop, slice_index, Option, Some, None, Result, Ok, Err, Bool, true, false, nat_lt, nat_eq, cond, refl, ap, sym, arith, subst, length-take, length-drop, length-append, min}
use Rattle.std.specs.Prelude.{◌&&◌}
use Rattle.std.proofs.lemmas.List.{take-append-drop, drop-append-le}
use Rattle.std.proofs.lemmas.Bool.{ltb-false, eqb-true}
use Rattle.std.proofs.lemmas.Bool.Decides.{nat_tests}
use Rattle.byteorder.specs.Endian.{little_number, big_number}
use Rattle.byteorder.specs.Numbers.{big_from-append, little_from-append}
use Rattle.rasta_pcap.specs.declared.fault.Fault.{Fault}
use Rattle.rasta_pcap.specs.declared.pcap.Endianness.{Endianness}
use Rattle.rasta_pcap.specs.declared.pcap.Endianness.TheVariants.{Little, Big}
use Rattle.rasta_pcap.specs.Fault.{fault_at, not_pcap, wrong_version, wrong_link_type, cut_header}
use Rattle.rasta_pcap.specs.Capture.{FileCursor, IsHeader, number_in, microseconds, nanoseconds, is_magic, order_of, opening, opening_in}

-- a number does not depend on what follows its bytes
pub number_in-append : (order : Endianness) (n : ℕ) (xs ys : List ℕ) → n ≤ length xs → number_in order n (xs ++ ys) ≡ number_in order n xs
number_in-append Little n xs ys h = little_from-append n xs ys h
number_in-append Big n xs ys h = big_from-append n xs ys h

-- a number at a place does not depend on what follows its bytes
pub number_at-append : (order : Endianness) (place n : ℕ) (xs ys : List ℕ) → place + n ≤ length xs
    → number_in order n (drop place (xs ++ ys)) ≡ number_in order n (drop place xs)
number_at-append order place n xs ys h =
    ap (number_in order n) (drop-append-le place xs ys (omega arith))
    ∙ number_in-append order n (drop place xs) ys (simp length-drop (omega arith))

-- a number is one of the magic numbers
abbrev pub IsMagic : ℕ → Type 0
IsMagic n = (n ≡ microseconds) ⊎ (n ≡ nanoseconds)

-- the bytes of a magic number are none in the other order
pub one_order : (a b c d : ℕ) → IsMagic (a + 256 * (b + 256 * (c + 256 * (d + 0))))
    → IsMagic (a * 16777216 + (b * 65536 + (c * 256 + (d * 1 + 0)))) → ⊥
one_order a b c d (inl x) (inl y) = omega arith
one_order a b c d (inl x) (inr y) = omega arith
one_order a b c d (inr x) (inl y) = omega arith
one_order a b c d (inr x) (inr y) = omega arith

pub magic-one_order : (bytes : List ℕ) → IsMagic (little_number 4 bytes) → IsMagic (big_number 4 bytes) → ⊥
magic-one_order bytes x y = one_order (slice_index bytes 0) (slice_index bytes 1) (slice_index bytes 2) (slice_index bytes 3) x y

is_magic-from : (n : ℕ) → IsMagic n → is_magic n ≡ true
is_magic-from n h = grind (arith, nat_tests)

is_magic-true : (n : ℕ) → is_magic n ≡ true → IsMagic n
is_magic-true n h = grind (arith, nat_tests)

is_magic-false : (n : ℕ) → (IsMagic n → ⊥) → is_magic n ≡ false
is_magic-false n h = elim (is_magic n) as (λ b. is_magic n ≡ b → b ≡ false) [ true ↦ λ e. absurd (h (is_magic-true n e)) | false ↦ λ e. refl ] refl

-- the order by the two tests
abbrev order_by : Bool → Bool → Option Endianness
order_by little big = cond little (Some Little) (cond big (Some Big) None)

-- the test of an order
abbrev test_of : Endianness → Bool → Bool → Bool
test_of Little little big = little
test_of Big little big = big

order_by-some : (little big : Bool) (order : Endianness) → order_by little big ≡ Some order → test_of order little big ≡ true
order_by-some true big Little h = refl
order_by-some true big Big h = absurd (cc)
order_by-some false true Little h = absurd (cc)
order_by-some false true Big h = refl
order_by-some false false order h = absurd (cc)

order_of-is_magic : (file : List ℕ) (order : Endianness) → order_of file ≡ Some order → IsMagic (number_in order 4 file)
order_of-is_magic file Little h = is_magic-true (little_number 4 file) (order_by-some (is_magic (little_number 4 file)) (is_magic (big_number 4 file)) Little h)
order_of-is_magic file Big h = is_magic-true (big_number 4 file) (order_by-some (is_magic (little_number 4 file)) (is_magic (big_number 4 file)) Big h)

order_of-magic : (file : List ℕ) (order : Endianness) → IsMagic (number_in order 4 file) → order_of file ≡ Some order
order_of-magic file Little h = ap (λ b. order_by b (is_magic (big_number 4 file))) (is_magic-from (little_number 4 file) h)
order_of-magic file Big h =
    ap (λ b. order_by b (is_magic (big_number 4 file))) (is_magic-false (little_number 4 file) (λ x. magic-one_order file x h))
    ∙ ap (order_by false) (is_magic-from (big_number 4 file) h)

-- the cursor after the header of a file
abbrev pub at_start : Endianness → List ℕ → FileCursor
at_start order file = record { order = order; rest = drop 24 file; count = 0 }

-- the header of a file by its tests
abbrev judged : Bool → Bool → Bool → FileCursor → Result FileCursor Fault
judged major minor link_type c = cond (major && minor) (cond link_type (Ok c) (Err (fault_at wrong_link_type 0))) (Err (fault_at wrong_version 0))

abbrev of_fault : Fault → Result FileCursor Fault
of_fault f = Err f

at_place_0 : (f : Fault) (number : ℕ) → of_fault (fault_at number 0) ≡ of_fault f → f ≡ fault_at f.number 0
at_place_0 f number h = let e : fault_at number 0 ≡ f = cc in rw (← e) refl

record IsJudged (major minor link_type : Bool) (c d : FileCursor) : Type 0 where
  is : d ≡ c
  major_is : major ≡ true
  minor_is : minor ≡ true
  link_is : link_type ≡ true

judged-ok : (major minor link_type : Bool) (c d : FileCursor) → judged major minor link_type c ≡ Ok d → IsJudged major minor link_type c d
judged-ok false minor link_type c d h = absurd (cc)
judged-ok true false link_type c d h = absurd (cc)
judged-ok true true false c d h = absurd (cc)
judged-ok true true true c d h = record { is = cc; major_is = refl; minor_is = refl; link_is = refl }

-- what the tests read stands within the first 24 bytes
number-in_header : (order : Endianness) (place n : ℕ) (file : List ℕ) → place + n ≤ 24 → 24 ≤ length file
    → number_in order n (drop place file) ≡ number_in order n (drop place (take 24 file))
number-in_header order place n file within long =
    ap (λ l. number_in order n (drop place l)) (sym (take-append-drop 24 file))
    ∙ number_at-append order place n (take 24 file) (drop 24 file) (simp length-take (omega arith))

equal-true : (a b : ℕ) → a ≡ b → nat_eq a b ≡ true
equal-true a b h = grind (arith, nat_tests)

long-enough : (n : ℕ) → 24 ≤ n → nat_lt n 24 ≡ false
long-enough n h = grind (arith, nat_tests)

-- a file with such a header is opened
pub opening-header : (order : Endianness) (file : List ℕ) → IsHeader order (take 24 file) → opening file ≡ Ok (at_start order file)
opening-header order file h =
    let long : 24 ≤ length file = let size = h.size in (let s : min 24 (length file) ≡ 24 = rw (← length-take) size in omega arith) in
    let magic = order_of-magic file order (subst IsMagic (sym (number-in_header order 0 4 file (omega arith) long)) h.magic) in
    let major = equal-true _ 2 (number-in_header order 4 2 file (omega arith) long ∙ h.major) in
    let minor = equal-true _ 4 (number-in_header order 6 2 file (omega arith) long ∙ h.minor) in
    let link = equal-true _ 1 (number-in_header order 20 4 file (omega arith) long ∙ h.link_type) in
    let c = at_start order file in
    let major_of = nat_eq (number_in order 2 (drop 4 file)) 2 in
    let minor_of = nat_eq (number_in order 2 (drop 6 file)) 4 in
    let link_of = nat_eq (number_in order 4 (drop 20 file)) 1 in
    ap (λ b. cond b (Err (fault_at cut_header 0)) (opening_in (order_of file) file)) (long-enough (length file) long)
    ∙ ap (λ o. opening_in o file) magic
    ∙ ap (λ b. judged b minor_of link_of c) major
    ∙ ap (λ b. judged true b link_of c) minor
    ∙ ap (λ b. judged true true b c) link

opened : (short : Bool) (o : Option Endianness) (file : List ℕ) (c : FileCursor) → cond short (Err (fault_at cut_header 0)) (opening_in o file) ≡ Ok c
    → (short ≡ false) × (o ≡ Some c.order) × IsJudged (nat_eq (number_in c.order 2 (drop 4 file)) 2) (nat_eq (number_in c.order 2 (drop 6 file)) 4)
    (nat_eq (number_in c.order 4 (drop 20 file)) 1) (at_start c.order file) c
opened true o file c h = absurd (cc)
opened false None file c h = absurd (cc)
opened false (Some order) file c h =
    let j = judged-ok (nat_eq (number_in order 2 (drop 4 file)) 2) (nat_eq (number_in order 2 (drop 6 file)) 4)
    (nat_eq (number_in order 4 (drop 20 file)) 1) (at_start order file) c h in
    let e : c.order ≡ order = ap (λ (k : FileCursor). k.order) j.is in (
      refl,
      ap Some (sym e),
      subst (λ (x : Endianness). IsJudged (nat_eq (number_in x 2 (drop 4 file)) 2) (nat_eq (number_in x 2 (drop 6 file)) 4)
          (nat_eq (number_in x 4 (drop 20 file)) 1) (at_start x file) c) (sym e) j,
    )

-- a file that is opened has such a header, and the cursor stands after it
pub opening-is_header : (file : List ℕ) (c : FileCursor) → opening file ≡ Ok c → IsHeader c.order (take 24 file) × (c ≡ at_start c.order file)
opening-is_header file c h =
    let o = opened (nat_lt (length file) 24) (order_of file) file c h in
    let long = ltb-false (length file) 24 o.0 in (
      record {
        size = simp length-take (omega arith);
        magic = subst IsMagic (number-in_header c.order 0 4 file (omega arith) long) (order_of-is_magic file c.order o.1);
        major = sym (number-in_header c.order 4 2 file (omega arith) long) ∙ eqb-true _ 2 o.2.major_is;
        minor = sym (number-in_header c.order 6 2 file (omega arith) long) ∙ eqb-true _ 4 o.2.minor_is;
        link_type = sym (number-in_header c.order 20 4 file (omega arith) long) ∙ eqb-true _ 1 o.2.link_is;
      },
      o.2.is,
    )

-- a header has one order
pub IsHeader-one_order : (a b : Endianness) (header : List ℕ) → IsHeader a header → IsHeader b header → a ≡ b
IsHeader-one_order Little Little header x y = refl
IsHeader-one_order Little Big header x y = absurd (magic-one_order header x.magic y.magic)
IsHeader-one_order Big Little header x y = absurd (magic-one_order header y.magic x.magic)
IsHeader-one_order Big Big header x y = refl

judged-fault : (major minor link_type : Bool) (c : FileCursor) (f : Fault) → judged major minor link_type c ≡ Err f → f ≡ fault_at f.number 0
judged-fault false minor link_type c f h = at_place_0 f wrong_version h
judged-fault true false link_type c f h = at_place_0 f wrong_version h
judged-fault true true false c f h = at_place_0 f wrong_link_type h
judged-fault true true true c f h = absurd (cc)

refused : (short : Bool) (o : Option Endianness) (file : List ℕ) (f : Fault) → cond short (Err (fault_at cut_header 0)) (opening_in o file) ≡ Err f
    → f ≡ fault_at f.number 0
refused true o file f h = at_place_0 f cut_header h
refused false None file f h = at_place_0 f not_pcap h
refused false (Some order) file f h =
    judged-fault (nat_eq (number_in order 2 (drop 4 file)) 2) (nat_eq (number_in order 2 (drop 6 file)) 4)
    (nat_eq (number_in order 4 (drop 20 file)) 1) (at_start order file) f h

-- a header's fault is at no record, and speaks of no end
pub opening-fault_place : (file : List ℕ) (f : Fault) → opening file ≡ Err f → f ≡ fault_at f.number 0
opening-fault_place file f h = refused (nat_lt (length file) 24) (order_of file) file f h

-- The header of a file that goes on.

-- the cursor of a file that goes on
abbrev pub with_more : List ℕ → Result FileCursor Fault → Result FileCursor Fault
with_more more (Ok c) = Ok (record { order = c.order; rest = c.rest ++ more; count = c.count })
with_more more (Err f) = Err f

judged-with_more : (major minor link_type : Bool) (c : FileCursor) (more : List ℕ)
    → judged major minor link_type (record { order = c.order; rest = c.rest ++ more; count = c.count })
    ≡ with_more more (judged major minor link_type c)
judged-with_more false minor link_type c more = refl
judged-with_more true false link_type c more = refl
judged-with_more true true false c more = refl
judged-with_more true true true c more = refl

opening_in-with_more : (o : Option Endianness) (file more : List ℕ) → 24 ≤ length file
    → opening_in o (file ++ more) ≡ with_more more (opening_in o file)
opening_in-with_more None file more long = refl
opening_in-with_more (Some order) file more long =
    let whole = file ++ more in
    let major = nat_eq (number_in order 2 (drop 4 file)) 2 in
    let minor = nat_eq (number_in order 2 (drop 6 file)) 4 in
    let link = nat_eq (number_in order 4 (drop 20 file)) 1 in
    let minor_of = nat_eq (number_in order 2 (drop 6 whole)) 4 in
    let link_of = nat_eq (number_in order 4 (drop 20 whole)) 1 in
    ap (λ n. judged (nat_eq n 2) minor_of link_of (at_start order whole)) (number_at-append order 4 2 file more (omega arith))
    ∙ ap (λ n. judged major (nat_eq n 4) link_of (at_start order whole)) (number_at-append order 6 2 file more (omega arith))
    ∙ ap (λ n. judged major minor (nat_eq n 1) (at_start order whole)) (number_at-append order 20 4 file more (omega arith))
    ∙ ap (λ (l : List ℕ). judged major minor link (record { order = order; rest = l; count = 0 })) (drop-append-le 24 file more long)
    ∙ judged-with_more major minor link (at_start order file) more

order_of-append : (file more : List ℕ) → 4 ≤ length file → order_of (file ++ more) ≡ order_of file
order_of-append file more long =
    ap (λ n. order_by (is_magic n) (is_magic (big_number 4 (file ++ more)))) (little_from-append 4 file more long)
    ∙ ap (λ n. order_by (is_magic (little_number 4 file)) (is_magic n)) (big_from-append 4 file more long)

-- what follows a whole header changes nothing but what is left
pub opening-with_more : (file more : List ℕ) → 24 ≤ length file → opening (file ++ more) ≡ with_more more (opening file)
opening-with_more file more long =
    let longer : 24 ≤ length (file ++ more) = simp length-append (omega arith) in
    ap (λ b. cond b (Err (fault_at cut_header 0)) (opening_in (order_of (file ++ more)) (file ++ more))) (long-enough (length (file ++ more)) longer)
    ∙ ap (λ o. opening_in o (file ++ more)) (order_of-append file more (omega arith))
    ∙ opening_in-with_more (order_of file) file more long
    ∙ ap (λ b. with_more more (cond b (Err (fault_at cut_header 0)) (opening_in (order_of file) file))) (sym (long-enough (length file) long))
