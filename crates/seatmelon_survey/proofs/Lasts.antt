-- The last place of a list at which a test passes, found from behind.
use Rattle.std.proofs.Common.{◌≡◌, ◌∙◌, ℕ, zero, suc, ◌+◌, min, max, Bool, true, false, ◌==◌, ◌&&◌, cond, List, [], ◌∷◌, slice_get, take, Option, Some, None, unwrap_or, ap, sym, refl, add-one, arith}
use Rattle.std.proofs.lemmas.Bool.{and_from, and_parts, eq-eqb, eqb-true, true≢false}
use Rattle.std.proofs.Math.Nat.{max_comm, min_comm}
use Rattle.std.specs.Option.{option_map_or}
use Rattle.seatmelon_packets.specs.declared.packet.Packet.{Packet}
use Rattle.seatmelon_connections.specs.declared.channel.End.TheVariants.{First, Second}
use Rattle.seatmelon_connections.specs.declared.connection.Connection.{Connection}
use Rattle.seatmelon_connections.specs.Comparing.{can_have, can_have_from}
use Rattle.seatmelon_survey.specs.Belonging.{ends_of, is_between, last_between, last_for, last_place, or_first}
use Rattle.seatmelon_survey.specs.Places.{same_ends}
use Rattle.seatmelon_survey.proofs.Placed.{or_first-alone, or_first-cond}

-- the last of the first places, with one more: that one, or the last of those before it
pub last_place-step : {A : Type 0} (test : A → Bool) (xs : List A) (n : ℕ)
    → last_place test (take (suc n) xs) ≡ cond (option_map_or test (slice_get xs n) false) (Some n) (last_place test (take n xs))
last_place-step test [] zero = refl
last_place-step test [] (suc n) = refl
last_place-step test (x ∷ xs) zero = or_first-alone (test x)
last_place-step test (x ∷ xs) (suc n) =
    ap (λ r. or_first r (test x)) (last_place-step test xs n)
    ∙ or_first-cond (option_map_or test (slice_get xs n) false) (test x) n (last_place test (take n xs))
    ∙ ap (λ k. cond (option_map_or test (slice_get xs n) false) (Some k) (or_first (last_place test (take n xs)) (test x))) (add-one n)

-- ---- a test that passes only where a wider one does

or_first-none : (r : Option ℕ) (b : Bool) → or_first r b ≡ None → (r ≡ None) × (b ≡ false)
or_first-none (Some n) b e = absurd (cc)
or_first-none None true e = absurd (cc)
or_first-none None false e = (refl, refl)

or_first-zero : (b : Bool) (n : ℕ) → or_first None b ≡ Some (suc n) → ⊥
or_first-zero true n e = cc
or_first-zero false n e = cc

or_first-more : (m n : ℕ) (b : Bool) → or_first (Some m) b ≡ Some (suc n) → m ≡ n
or_first-more m n b e = let one : m + 1 ≡ suc n = ap (λ o. unwrap_or o 0) e in omega (arith, one)

or_first-no_zero : (m : ℕ) (b : Bool) → or_first (Some m) b ≡ Some 0 → ⊥
or_first-no_zero m b e = let one : m + 1 ≡ 0 = ap (λ o. unwrap_or o 0) e in omega (arith, one)

module _ {A : Type 0} (test wider : A → Bool) (within : (x : A) → wider x ≡ false → test x ≡ false) where
  -- it passes nowhere, where the wider one doesn't
  pub last_place-none : (xs : List A) → last_place wider xs ≡ None → last_place test xs ≡ None
  last_place-none [] e = refl
  last_place-none (x ∷ xs) e =
      let none = or_first-none (last_place wider xs) (wider x) e in
      ap (λ r. or_first r (test x)) (last_place-none xs none.0) ∙ ap (or_first None) (within x none.1)

  -- the same, one place further on
  within-at : (x : A) (xs : List A) (n : ℕ) (r : Option ℕ) → last_place wider xs ≡ r
      → ((m : ℕ) → last_place wider xs ≡ Some m → last_place test xs ≡ cond (option_map_or test (slice_get xs m) false) (Some m) (last_place test (take m xs)))
      → or_first r (wider x) ≡ Some n
      → last_place test (x ∷ xs) ≡ cond (option_map_or test (slice_get (x ∷ xs) n) false) (Some n) (last_place test (take n (x ∷ xs)))
  within-at x xs zero (Some m) h before e = absurd (or_first-no_zero m (wider x) e)
  within-at x xs zero None h before e = ap (λ r. or_first r (test x)) (last_place-none xs h) ∙ or_first-alone (test x)
  within-at x xs (suc n) (Some m) h before e =
      ap (λ r. or_first r (test x)) (before n (h ∙ ap Some (or_first-more m n (wider x) e)))
      ∙ or_first-cond (option_map_or test (slice_get xs n) false) (test x) n (last_place test (take n xs))
      ∙ ap (λ k. cond (option_map_or test (slice_get xs n) false) (Some k) (or_first (last_place test (take n xs)) (test x))) (add-one n)
  within-at x xs (suc n) None h before e = absurd (or_first-zero (wider x) n e)

  -- the last place at which it passes is the last one of the wider test, or stands before that
  pub last_place-within : (xs : List A) (n : ℕ) → last_place wider xs ≡ Some n
      → last_place test xs ≡ cond (option_map_or test (slice_get xs n) false) (Some n) (last_place test (take n xs))
  last_place-within [] n e = absurd (cc)
  last_place-within (x ∷ xs) n e = within-at x xs n (last_place wider xs) refl (last_place-within xs) e

-- ---- connections that can have a packet

same_ends-self : (a b c d : ℕ) → a ≡ c → b ≡ d → same_ends (ends_of a b) (ends_of c d) ≡ true
same_ends-self a b c d first second =
    and_from _ _ (eq-eqb _ _ (λ i. min (first i) (second i))) (eq-eqb _ _ (λ i. max (first i) (second i)))

same_ends-swapped : (a b c d : ℕ) → a ≡ d → b ≡ c → same_ends (ends_of a b) (ends_of c d) ≡ true
same_ends-swapped a b c d first second =
    and_from _ _ (eq-eqb _ _ ((λ i. min (first i) (second i)) ∙ min_comm d c)) (eq-eqb _ _ ((λ i. max (first i) (second i)) ∙ max_comm d c))

-- what ends are those of a packet, by what the tests of a connection's ends answer
sender-none : (f g s r : ℕ) (one other : Bool) → ((s == f) && (r == g)) ≡ one → ((s == g) && (r == f)) ≡ other
    → same_ends (ends_of f g) (ends_of s r) ≡ false → cond one (Some First) (cond other (Some Second) None) ≡ None
sender-none f g s r true other h k not =
    let parts = and_parts _ _ h in
    absurd (true≢false (sym (same_ends-self f g s r (sym (eqb-true _ _ parts.0)) (sym (eqb-true _ _ parts.1))) ∙ not))
sender-none f g s r false true h k not =
    let parts = and_parts _ _ k in
    absurd (true≢false (sym (same_ends-swapped f g s r (sym (eqb-true _ _ parts.1)) (sym (eqb-true _ _ parts.0))) ∙ not))
sender-none f g s r false false h k not = refl

-- a connection that isn't between the ends of a packet can't have it
can_have-within : (p : Packet) (c : Connection) → is_between (ends_of p.way.sender p.way.receiver) c ≡ false → can_have c p ≡ false
can_have-within p c not =
    ap (λ end. option_map_or (can_have_from c p) end false) (sender-none c.first.id c.second.id p.way.sender p.way.receiver _ _ refl refl not)

-- if no connection is between the ends of a packet, none can have it
pub last_for-none : (p : Packet) (cs : List Connection) → last_between (ends_of p.way.sender p.way.receiver) cs ≡ None → last_for p cs ≡ None
last_for-none p cs e = last_place-none (λ c. can_have c p) (is_between (ends_of p.way.sender p.way.receiver)) (can_have-within p) cs e

-- the last connection that can have a packet is the last one between its ends, or stands before that
pub last_for-some : (p : Packet) (cs : List Connection) (n : ℕ) → last_between (ends_of p.way.sender p.way.receiver) cs ≡ Some n
    → last_for p cs ≡ cond (option_map_or (λ c. can_have c p) (slice_get cs n) false) (Some n) (last_for p (take n cs))
last_for-some p cs n e = last_place-within (λ c. can_have c p) (is_between (ends_of p.way.sender p.way.receiver)) (can_have-within p) cs n e

-- of the first connections, the last one can have a packet: it is the last one that can
pub last_for-here : (p : Packet) (cs : List Connection) (place n : ℕ) → suc n ≡ place → option_map_or (λ c. can_have c p) (slice_get cs n) false ≡ true
    → last_for p (take place cs) ≡ Some n
last_for-here p cs place n at can =
    ap (λ k. last_for p (take k cs)) (sym at) ∙ last_place-step (λ c. can_have c p) cs n ∙ ap (λ b. cond b (Some n) (last_for p (take n cs))) can

-- it can't have it: the last one that can stands before it
pub last_for-before : (p : Packet) (cs : List Connection) (place n : ℕ) → suc n ≡ place → option_map_or (λ c. can_have c p) (slice_get cs n) false ≡ false
    → last_for p (take place cs) ≡ last_for p (take n cs)
last_for-before p cs place n at can =
    ap (λ k. last_for p (take k cs)) (sym at) ∙ last_place-step (λ c. can_have c p) cs n ∙ ap (λ b. cond b (Some n) (last_for p (take n cs))) can

-- the last connection between the ends of a packet can have it, in the same list
pub last_for-last : (p : Packet) (cs ds : List Connection) (n : ℕ) → ds ≡ cs → last_between (ends_of p.way.sender p.way.receiver) cs ≡ Some n
    → option_map_or (λ c. can_have c p) (slice_get ds n) false ≡ true → last_for p cs ≡ Some n
last_for-last p cs ds n same e can =
    last_for-some p cs n e ∙ ap (λ b. cond b (Some n) (last_for p (take n cs))) (ap (λ xs. option_map_or (λ c. can_have c p) (slice_get xs n) false) (sym same) ∙ can)

-- it can't have it
pub last_for-earlier : (p : Packet) (cs ds : List Connection) (n : ℕ) → ds ≡ cs → last_between (ends_of p.way.sender p.way.receiver) cs ≡ Some n
    → option_map_or (λ c. can_have c p) (slice_get ds n) false ≡ false → last_for p cs ≡ last_for p (take n ds)
last_for-earlier p cs ds n same e can =
    last_for-some p cs n e
    ∙ ap (λ b. cond b (Some n) (last_for p (take n cs))) (ap (λ xs. option_map_or (λ c. can_have c p) (slice_get xs n) false) (sym same) ∙ can)
    ∙ ap (λ xs. last_for p (take n xs)) (sym same)
