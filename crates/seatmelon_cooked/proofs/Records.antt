-- Records that are read, and what is told of them.
use Rattle.std.proofs.Common.{◌≡◌, ◌∙◌, ℕ, ◌+◌, ◌<◌, ◌≤◌, ◌&&◌, Bool, true, false, cond, nat_le, nat_lt, List, ◌++◌, append-nil, length, length-append, length-drop, take, drop, Option, None, Some, IfSome, ap, refl, subst, sym, arith}
use Rattle.std.specs.Io.KnownBytes.{Appends}
use borrow.Author.Tests.{le-leb, lt-leb}
use lib.Seq.{drop-append-le, drop_at, take-append_seam}
use Rattle.byteorder.specs.Numbers.{big_from-append, little_from-append}
use Rattle.rasta_pcap.specs.Capture.{max_captured}
use Rattle.rasta_pcap.specs.Filling.{IsFilled}
use Rattle.seatmelon_cooked.specs.declared.form.Form.{Form}
use Rattle.seatmelon_cooked.specs.declared.order.Order.{Order}
use Rattle.seatmelon_cooked.specs.declared.order.Order.TheVariants.{Little, Big}
use Rattle.seatmelon_cooked.specs.declared.record.Sent.{Sent}
use Rattle.seatmelon_cooked.specs.Ethernet.{behind, captured_by, captured_in, holds_record}
use Rattle.seatmelon_cooked.specs.Forms.{number_in}
use Rattle.seatmelon_cooked.specs.Frames.{ethernet_record}
use Rattle.seatmelon_cooked.specs.Steps.{Goes}

-- ---- tests

and-false : (a b : Bool) → b ≡ false → (a && b) ≡ false
and-false true b h = h
and-false false b h = refl

first-false : (a b : Bool) → a ≡ false → (a && b) ≡ false
first-false true b h = absurd cc
first-false false b h = refl

and-true : (a b : Bool) → a ≡ true → b ≡ true → (a && b) ≡ true
and-true true b g h = h
and-true false b g h = absurd cc

some_by : (short many : Bool) (k n : ℕ) → cond short None (cond many None (Some k)) ≡ Some n → k ≡ n
some_by true many k n h = absurd cc
some_by false true k n h = absurd cc
some_by false false k n h = cc

-- ---- numbers

-- a number does not depend on what follows its bytes
number-append : (order : Order) (n : ℕ) (xs ys : List ℕ) → n ≤ length xs → number_in order n (xs ++ ys) ≡ number_in order n xs
number-append Little n xs ys h = little_from-append n xs ys h
number-append Big n xs ys h = big_from-append n xs ys h

captured-append : (form : Form) (xs ys : List ℕ) → 16 ≤ length xs → captured_in form (xs ++ ys) ≡ captured_in form xs
captured-append form xs ys h =
    let long : 4 ≤ length (drop 8 xs) = omega (arith, length-drop 8 xs) in
    ap (number_in form.order 4) (drop-append-le 8 xs ys (omega arith)) ∙ number-append form.order 4 (drop 8 xs) ys long

-- ---- behind a header

module _ (form : Form) (header : List ℕ) (n : ℕ) (size : length header ≡ 16) (told : captured_by form header ≡ Some n) where
  captured-told : (rest : List ℕ) → captured_in form (header ++ rest) ≡ n
  captured-told rest =
      captured-append form header rest (omega (arith, size))
      ∙ some_by (nat_lt (length header) 16) (nat_lt max_captured (captured_in form header)) (captured_in form header) n told

  cut_short : (packet : List ℕ) → length packet < n → holds_record form (header ++ packet) ≡ false
  cut_short packet cut =
      let bytes = header ++ packet in
      let short : length bytes < 16 + captured_in form bytes = omega (arith, size, cut, captured-told packet, length-append header packet) in
      and-false (nat_le 16 (length bytes)) _
      (and-false (nat_le (captured_in form bytes) max_captured) _ (lt-leb (16 + captured_in form bytes) (length bytes) short))

  -- where its packet was cut, all is written as it is
  pub goes_cut : (old left start now : Option (List ℕ)) (packet : List ℕ) → IsFilled n old left packet → length packet < n → Appends start now (header ++ packet)
      → IfSome old (λ rest. Goes form (header ++ rest) left start now None)
  goes_cut None left start now packet filled cut out = tt
  goes_cut (Some rest) None start now packet filled cut out = absurd filled.consumed
  goes_cut (Some rest) (Some more) start now packet filled cut out =
      let same : rest ≡ packet = filled.consumed ∙ ap (λ l. packet ++ l) (filled.at_end cut) ∙ append-nil packet in (
        subst (λ (l : List ℕ). holds_record form (header ++ l) ≡ false) (sym same) (cut_short packet cut),
        subst (λ (l : List ℕ). Appends start now (header ++ l)) (sym same) out,
      )

  module _ (most : n ≤ max_captured) (packet more : List ℕ) (full : length packet ≡ n) where
    abbrev all : List ℕ
    all = header ++ (packet ++ more)

    holds : holds_record form all ≡ true
    holds =
        let long : length all ≡ 16 + (n + length more) = length-append header (packet ++ more) ∙ omega (arith, size, full, length-append packet more) in
        let told_now = captured-told (packet ++ more) in
        and-true (nat_le 16 (length all)) _ (le-leb 16 (length all) (omega (arith, long)))
        (and-true (nat_le (captured_in form all) max_captured) _ (le-leb (captured_in form all) max_captured (omega (arith, told_now, most)))
        (le-leb (16 + captured_in form all) (length all) (omega (arith, long, told_now))))

    header_there : take 16 all ≡ header
    header_there = ap (λ (k : ℕ). take k all) (sym size) ∙ take-append_seam header (packet ++ more)

    behind_header : drop 16 all ≡ packet ++ more
    behind_header = drop_at header (packet ++ more) 16 size

    packet_there : take (captured_in form all) (drop 16 all) ≡ packet
    packet_there =
        ap (λ (k : ℕ). take k (drop 16 all)) (captured-told (packet ++ more) ∙ sym full) ∙ ap (take (length packet)) behind_header ∙ take-append_seam packet more

    behind_packet : behind form all ≡ more
    behind_packet =
        ap (λ (k : ℕ). drop k (drop 16 all)) (captured-told (packet ++ more)) ∙ ap (drop n) behind_header ∙ drop_at packet more n full

    goes_all : (sent : Sent) (start now : Option (List ℕ)) → Appends start now (ethernet_record form header packet) → Goes form all (Some more) start now (Some sent)
    goes_all sent start now out = (
      holds,
      ap Some (sym behind_packet),
      subst (λ (l : List ℕ). Appends start now (ethernet_record form l (take (captured_in form all) (drop 16 all)))) (sym header_there)
          (subst (λ (l : List ℕ). Appends start now (ethernet_record form header l)) (sym packet_there) out),
    )

  -- where it is whole, its record is one of Ethernet
  pub goes_whole : n ≤ max_captured → (sent : Sent) (old left start now : Option (List ℕ)) (packet : List ℕ) → IsFilled n old left packet → length packet ≡ n
      → Appends start now (ethernet_record form header packet) → IfSome old (λ rest. Goes form (header ++ rest) left start now (Some sent))
  goes_whole most sent None left start now packet filled full out = tt
  goes_whole most sent (Some rest) None start now packet filled full out = absurd filled.consumed
  goes_whole most sent (Some rest) (Some more) start now packet filled full out =
      subst (λ (l : List ℕ). Goes form (header ++ l) (Some more) start now (Some sent)) (sym filled.consumed) (goes_all most packet more full sent start now out)
