-- Connections that are placed by tables.
use Rattle.std.proofs.Common.{◌≡◌, ◌∙◌, ℕ, ◌+◌, min, max, Bool, true, false, cond, List, [], ◌∷◌, ◌++◌, length, map, get_or, set, Option, Some, None, ap, sym, refl, add-one}
use Rattle.std.proofs.lemmas.List.{length-map, map-append}
use Rattle.std.specs.Option.{option_map}
use Rattle.std.proofs.Math.Seq.{map-set_same}
use Rattle.seatmelon_packets.specs.declared.packet.Packet.{Packet}
use Rattle.seatmelon_connections.specs.declared.connection.Connection.{Connection}
use Rattle.seatmelon_connections.specs.Comparing.{HasSameOpening, request_in}
use Rattle.seatmelon_connections.specs.Noted.{first_id_in, request_of, second_id_in}
use Rattle.seatmelon_survey.specs.declared.places.Ends.{Ends}
use Rattle.seatmelon_survey.specs.declared.places.Opening.{Opening}
use Rattle.seatmelon_survey.specs.Belonging.{ArePlaced, ends_of, is_between, last_place, last_true, opening_between, opening_in, opening_of, or_first}
use Rattle.seatmelon_survey.specs.Places.{Tables, is_opening, last_at, opened_at, same_ends}

-- ends with the lower and the higher one of two ids are those of the ids
pub ends_of-low-high : (e : Ends) (a b : ℕ) → e.low ≡ min a b → e.high ≡ max a b → e ≡ ends_of a b
ends_of-low-high e a b low high = λ i. record { low = low i; high = high i }

-- ---- a connection that changes

-- a connection that keeps its ends is between the same
is_between-same : (e : Ends) (c d : Connection) → HasSameOpening c d → is_between e d ≡ is_between e c
is_between-same e c d same = λ i. same_ends (ends_of (same.first i) (same.second i)) e

opening_of-same : (c d : Connection) → HasSameOpening c d → opening_of d ≡ opening_of c
opening_of-same c d same = λ i. option_map (opening_between (same.first i) (same.second i)) (same.request i)

-- one connection changes, and keeps its ends and its request
pub ArePlaced-set : (cs : List Connection) (t : Tables) (i : ℕ) (c d : Connection) → HasSameOpening (get_or cs i c) d → ArePlaced cs t
    → ArePlaced (set cs i d) t
ArePlaced-set cs t i c d same are =
    let old = get_or cs i c in record {
      last = λ e. are.last e ∙ ap last_true (sym (map-set_same (is_between e) cs i d c (is_between-same e old d same)));
      opened = λ o. are.opened o
          ∙ ap last_true (sym (map-set_same (λ x. is_opening (opening_of x) o) cs i d c (ap (λ p. is_opening p o) (opening_of-same old d same))));
    }

-- ---- a connection that begins

pub or_first-cond : (b first : Bool) (n : ℕ) (r : Option ℕ) → or_first (cond b (Some n) r) first ≡ cond b (Some (n + 1)) (or_first r first)
or_first-cond true first n r = refl
or_first-cond false first n r = refl

pub or_first-alone : (b : Bool) → or_first None b ≡ cond b (Some 0) None
or_first-alone true = refl
or_first-alone false = refl

last_true-push : (bs : List Bool) (b : Bool) → last_true (bs ++ b ∷ []) ≡ cond b (Some (length bs)) (last_true bs)
last_true-push [] b = or_first-alone b
last_true-push (a ∷ bs) b =
    ap (λ r. or_first r a) (last_true-push bs b)
    ∙ or_first-cond b a (length bs) (last_true bs)
    ∙ ap (λ n. cond b (Some n) (or_first (last_true bs) a)) (add-one (length bs))

-- the last of some at which a test passes is one more, or the last of those before
pub last_place-push : {A : Type 0} (test : A → Bool) (xs : List A) (x : A)
    → last_place test (xs ++ x ∷ []) ≡ cond (test x) (Some (length xs)) (last_place test xs)
last_place-push test xs x =
    ap last_true (map-append test xs (x ∷ []))
    ∙ last_true-push (map test xs) (test x)
    ∙ ap (λ n. cond (test x) (Some n) (last_place test xs)) (length-map xs test)

-- a connection begins, and its place is set
pub ArePlaced-push : (cs : List Connection) (s t : Tables) (c : Connection) (ends : Ends) (opening : Option Opening) (place : ℕ)
    → place ≡ length cs → ends ≡ ends_of (first_id_in c) (second_id_in c) → opening ≡ opening_of c
    → ((e : Ends) → last_at t e ≡ cond (same_ends ends e) (Some place) (last_at s e))
    → ((o : Opening) → opened_at t o ≡ cond (is_opening opening o) (Some place) (opened_at s o))
    → ArePlaced cs s → ArePlaced (cs ++ c ∷ []) t
ArePlaced-push cs s t c ends opening place at between opened last_set opened_set are = record {
  last = λ e. last_set e ∙ (λ i. cond (same_ends (between i) e) (Some (at i)) (are.last e i)) ∙ sym (last_place-push (is_between e) cs c);
  opened = λ o. opened_set o ∙ (λ i. cond (is_opening (opened i) o) (Some (at i)) (are.opened o i)) ∙ sym (last_place-push (λ x. is_opening (opening_of x) o) cs c);
}

-- a connection that begins with a packet has the ends and the opening of the packet
pub opening_of-begun : (c d : Connection) (p : Packet) → first_id_in c ≡ p.way.sender → second_id_in c ≡ p.way.receiver → request_of c ≡ request_in p
    → HasSameOpening c d → opening_in p ≡ opening_of d
opening_of-begun c d p first second request same = λ i. option_map (opening_between (sym (same.first ∙ first) i) (sym (same.second ∙ second) i)) (sym (same.request ∙ request) i)

pub ends_of-begun : (c d : Connection) (p : Packet) → first_id_in c ≡ p.way.sender → second_id_in c ≡ p.way.receiver → HasSameOpening c d
    → ends_of p.way.sender p.way.receiver ≡ ends_of (first_id_in d) (second_id_in d)
ends_of-begun c d p first second same = λ i. ends_of (sym (same.first ∙ first) i) (sym (same.second ∙ second) i)
