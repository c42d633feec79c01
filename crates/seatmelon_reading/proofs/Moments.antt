-- What is noted of the time of one record more.
use Rattle.std.proofs.Common.{◌≡◌, ◌∙◌, ℕ, ◌+◌, ◌<◌, ◌≤◌, List, [], ◌∷◌, ◌++◌, length, map, filter, cond, not, ◌&&◌, ◌==◌, Bool, true, false, nat_le, Option, None, Some, option_map, ap, refl, sym, min, append-nil, arith}
use Rattle.std.proofs.lemmas.Bool.Decides.{nat_tests}
use Rattle.std.proofs.lemmas.List.{length-append, length-map, map-append}
use Rattle.std.proofs.lemmas.List.Elements.{filter-append}
use Rattle.std.specs.List.{last_or}
use Rattle.std.specs.Option.{option_or}
use Rattle.rasta_pcap.specs.declared.time.CaptureTime.{CaptureTime}
use Rattle.rasta_pcap.specs.declared.time.FractionUnit.{FractionUnit}
use Rattle.rasta_pcap.specs.declared.time.FractionUnit.TheVariants.{Microseconds, Nanoseconds}
use Rattle.rasta_pcap.specs.Captured.{Captured}
use Rattle.seatmelon_reading.specs.Times.{AreTimes, falling_in, falls, falls_below, first_number, if_noticed, in_second, is_earlier, is_overlong, is_time, last_time, later_of, neighbours, noticed, overlong_in, time_of, time_told, timed_in}
use Rattle.seatmelon_reading.specs.declared.times.Noticed.{Noticed}
use Rattle.seatmelon_reading.specs.declared.times.TimeNotes.{TimeNotes}
use Rattle.seatmelon_reading.proofs.Filters.{length_filter-most}
use Rattle.seatmelon_reading.proofs.Neighbours.{joined, last_or-push, length_neighbours-most, neighbours-push}

-- ---- records that are noticed

first-push : (records : List Captured) (r : Captured) → option_or (first_number records) (Some r.number) ≡ first_number (records ++ r ∷ [])
first-push [] r = refl
first-push (x ∷ records) r = refl

abbrev pub notice : ℕ → Option ℕ → Noticed
notice count first = record { count = count; first = first }

saturated : (n bound : ℕ) → n ≤ bound → bound < 4294967296 → min (n + 1) 18446744073709551615 ≡ n + 1
saturated n bound most few = omega arith

pub noticed_more : (records : List Captured) (r : Captured) (old : Noticed) (number : ℕ) → old ≡ noticed records → length records < 4294967296 → r.number ≡ number
    → notice (min (old.count + 1) 18446744073709551615) (option_or old.first (Some number)) ≡ noticed (records ++ r ∷ [])
noticed_more records r old number is few numbered =
    ap (λ (n : Noticed). notice (min (n.count + 1) 18446744073709551615) (option_or n.first (Some number))) is
    ∙ ap (λ n. notice n (option_or (first_number records) (Some number))) (saturated (length records) (length records) (omega arith) few ∙ sym (length-append records (r ∷ [])))
    ∙ ap (λ n. notice (length (records ++ r ∷ [])) (option_or (first_number records) (Some n))) (sym numbered)
    ∙ ap (notice (length (records ++ r ∷ []))) (first-push records r)

pub noticed_still : (records : List Captured) (old : Noticed) → old ≡ noticed records → old ≡ noticed (records ++ [])
noticed_still records old is = is ∙ ap noticed (sym (append-nil records))

-- ---- one record more

abbrev option_time : Option Captured → Option CaptureTime
option_time o = option_map (λ (r : Captured). r.time) o

falling_if : (b : Bool) (before r : Captured) → map later_of (cond b ((before, r) ∷ []) []) ≡ if_noticed b r
falling_if true before r = refl
falling_if false before r = refl

falling_by : (o : Option Captured) (r : Captured) → map later_of (filter falls (joined o r)) ≡ if_noticed (falls_below r.time (option_time o)) r
falling_by None r = refl
falling_by (Some before) r = falling_if (is_earlier r.time before.time) before r

falling-push : (records : List Captured) (r : Captured) → falling_in (records ++ r ∷ []) ≡ falling_in records ++ if_noticed (falls_below r.time (last_time records)) r
falling-push records r =
    ap (λ l. map later_of (filter falls l)) (neighbours-push records r)
    ∙ ap (map later_of) (filter-append falls (neighbours records) (joined (last_or None records) r))
    ∙ map-append later_of (filter falls (neighbours records)) (filter falls (joined (last_or None records) r))
    ∙ ap (λ l. falling_in records ++ l) (falling_by (last_or None records) r)

overlong_if : (b : Bool) (r : Captured) → cond b (r ∷ []) [] ≡ if_noticed b r
overlong_if true r = refl
overlong_if false r = refl

overlong-push : (records : List Captured) (r : Captured) → overlong_in (records ++ r ∷ []) ≡ overlong_in records ++ if_noticed (is_overlong r) r
overlong-push records r = filter-append is_overlong records (r ∷ []) ∙ ap (λ l. overlong_in records ++ l) (overlong_if (is_overlong r) r)

falling_most : (records : List Captured) → length (falling_in records) ≤ length records
falling_most records =
    let kept = length_filter-most falls (neighbours records) in
    let pairs = length_neighbours-most records in
    let same = length-map (filter falls (neighbours records)) later_of in
    omega (arith, kept, pairs, same)

-- what a note of some records becomes by one more
abbrev NoticesNext : Noticed → Noticed → Bool → ℕ → Type 0
NoticesNext old new is_noticed number = (records : List Captured) (r : Captured) → old ≡ noticed records → length records < 4294967296 → r.number ≡ number
    → new ≡ noticed (records ++ if_noticed is_noticed r)

-- ---- records that have a time

abbrev a_time : CaptureTime → Option CaptureTime
a_time t = Some t

abbrev no_time : Option CaptureTime
no_time = None

told_by : (b : Bool) (a t : CaptureTime) → a_time a ≡ cond b (Some t) None → (a ≡ t) × (b ≡ true)
told_by true a t e = (cc, refl)
told_by false a t e = absurd cc

-- a time that is told is what was read, and is one
pub told_time : (zero : Bool) (a t : CaptureTime) → a_time a ≡ time_told zero (Some t) → (a ≡ t) × (is_time zero t ≡ true)
told_time zero a t e = told_by (is_time zero t) a t e

none_by : (b : Bool) (t : CaptureTime) → no_time ≡ cond b (Some t) None → b ≡ false
none_by true t e = absurd cc
none_by false t e = refl

last_of_three : (a b c : Bool) → not (a && (b && c)) ≡ false → c ≡ true
last_of_three a b true e = refl
last_of_three true true false e = absurd cc
last_of_three true false false e = absurd cc
last_of_three false b false e = absurd cc

zero_is_short : (u : FractionUnit) (n : ℕ) → (n == 0) ≡ true → nat_le (in_second u) n ≡ false
zero_is_short Microseconds n e = grind (arith, nat_tests)
zero_is_short Nanoseconds n e = grind (arith, nat_tests)

module _ (zero : Bool) (records : List Captured) (r : Captured) where
  timed-push : (b : Bool) → is_time zero r.time ≡ b → timed_in zero (records ++ r ∷ []) ≡ timed_in zero records ++ cond b (r ∷ []) []
  timed-push b e = filter-append (λ (x : Captured). is_time zero x.time) records (r ∷ []) ∙ ap (λ c. timed_in zero records ++ cond c (r ∷ []) []) e

  -- one that has no time changes nothing
  pub times_same : (t : TimeNotes) → AreTimes zero records t → no_time ≡ time_of zero r → AreTimes zero (records ++ r ∷ []) t
  times_same t h none =
      let untimed : is_time zero r.time ≡ false = none_by (is_time zero r.time) r.time none in
      let same : timed_in zero (records ++ r ∷ []) ≡ timed_in zero records = timed-push false untimed ∙ append-nil _ in
      let short : is_overlong r ≡ false = zero_is_short r.time.unit r.time.fraction (last_of_three zero (r.time.seconds == 0) (r.time.fraction == 0) untimed) in record {
        falling = h.falling ∙ ap (λ l. noticed (falling_in l)) (sym same);
        overlong = h.overlong ∙ ap noticed (sym (overlong-push records r ∙ ap (λ b. overlong_in records ++ if_noticed b r) short ∙ append-nil _));
        last = h.last ∙ ap last_time (sym same);
      }

pub times_next : (zero : Bool) (records : List Captured) (r : Captured) (old new : TimeNotes) (falls overlong : Bool) (time : CaptureTime) (number : ℕ) → AreTimes zero records old
    → length records < 4294967296 → r.number ≡ number → a_time time ≡ time_of zero r → falls ≡ falls_below time old.last → overlong ≡ nat_le (in_second time.unit) time.fraction
    → NoticesNext old.falling new.falling falls number → NoticesNext old.overlong new.overlong overlong number → new.last ≡ Some time → AreTimes zero (records ++ r ∷ []) new
times_next zero records r old new falls overlong time number h few numbered told fallen over falling overlongs last =
    let timed = timed_in zero records in
    let is = told_time zero time r.time told in
    let same : time ≡ r.time = is.0 in
    let pushed : timed_in zero (records ++ r ∷ []) ≡ timed ++ r ∷ [] = timed-push zero records r true is.1 in
    let falls_is = fallen ∙ ap (λ t. falls_below t old.last) same ∙ ap (falls_below r.time) h.last in
    let over_is = over ∙ ap (λ (t : CaptureTime). nat_le (in_second t.unit) t.fraction) same in
    let kept : length (overlong_in records) ≤ length records = length_filter-most is_overlong records in
    let most : length timed ≤ length records = length_filter-most (λ (x : Captured). is_time zero x.time) records in
    let below : length (falling_in timed) ≤ length timed = falling_most timed in record {
      falling = falling (falling_in timed) r h.falling (omega (arith, below, most, few)) numbered ∙ ap (λ b. noticed (falling_in timed ++ if_noticed b r)) falls_is
          ∙ ap noticed (sym (falling-push timed r)) ∙ ap (λ l. noticed (falling_in l)) (sym pushed);
      overlong = overlongs (overlong_in records) r h.overlong (omega (arith, kept, few)) numbered ∙ ap (λ b. noticed (overlong_in records ++ if_noticed b r)) over_is ∙ ap noticed (sym (overlong-push records r));
      last = last ∙ ap a_time same ∙ sym (ap option_time (last_or-push None timed r)) ∙ ap last_time (sym pushed);
    }
