-- What is passed over with one record more.
use Rattle.std.proofs.Common.{◌≡◌, ◌∙◌, ℕ, ◌+◌, ◌<◌, List, [], ◌∷◌, ◌++◌, length, cond, Bool, true, false, Option, None, Some, Result, Ok, Err, ap, refl, sym, add-zero, subst, arith}
use Rattle.rasta_pcap.specs.declared.fault.Fault.{Fault}
use Rattle.rasta_pcap.specs.Captured.{Captured}
use Rattle.rasta_udp.specs.declared.channel.Channel.{Channel}
use Rattle.rasta_udp.specs.Frame.{Packet, packet_in}
use Rattle.rasta_pdu.specs.Params.{Parameters}
use Rattle.seatmelon_reading.specs.Noted.{Seen, count_for, is_left_out, passed_over, seen_by, seen_in, why_passed}
use Rattle.seatmelon_reading.specs.PassedOver.{AreFew, is_for, passed_with, why_by}
use Rattle.seatmelon_reading.specs.declared.passed_over.PassedOver.{PassedOver}
use Rattle.seatmelon_reading.specs.declared.passed_over.WhyPassed.{WhyPassed}
use Rattle.seatmelon_reading.specs.declared.passed_over.WhyPassed.TheVariants.{LeftOut, NotUdp, Tagged, Elsewhere, Unreadable}
use Rattle.seatmelon_reading.proofs.Filters.{length_filter-most, length_filter-push}

-- ---- why a record is passed over

none_by : (channels : List Channel) (r : Captured) (s : Seen) (left_out : Bool) (found : Result (Option Packet) Fault)
    → cond left_out None (seen_by r found) ≡ Some s → cond left_out (Some LeftOut) (why_by channels r.bytes found) ≡ None
none_by channels r s true found e = absurd cc
none_by channels r s false (Ok None) e = absurd cc
none_by channels r s false (Ok (Some packet)) e = refl
none_by channels r s false (Err fault) e = absurd cc

-- one with a packet isn't
pub seen_none : (p : Parameters) (without : List ℕ) (r : Captured) (s : Seen) → seen_in p without r ≡ Some s → why_passed p without r ≡ None
seen_none p without r s e = none_by p.channels r s (is_left_out without r.number) (packet_in p.channels r.bytes) e

module _ (p : Parameters) (without : List ℕ) (r : Captured) where
  pub left_out_why : is_left_out without r.number ≡ true → why_passed p without r ≡ Some LeftOut
  left_out_why e = ap (λ b. cond b (Some LeftOut) (why_by p.channels r.bytes (packet_in p.channels r.bytes))) e

  pub why_of : (found : Result (Option Packet) Fault) → is_left_out without r.number ≡ false → packet_in p.channels r.bytes ≡ found
      → why_passed p without r ≡ why_by p.channels r.bytes found
  why_of found stays is = ap (λ b. cond b (Some LeftOut) (why_by p.channels r.bytes (packet_in p.channels r.bytes))) stays ∙ ap (why_by p.channels r.bytes) is

  pub seen_of : (found : Result (Option Packet) Fault) → is_left_out without r.number ≡ false → packet_in p.channels r.bytes ≡ found → seen_in p without r ≡ seen_by r found
  seen_of found stays is = ap (λ b. cond b None (seen_by r (packet_in p.channels r.bytes))) stays ∙ ap (seen_by r) is

  pub left_out_none : is_left_out without r.number ≡ true → seen_in p without r ≡ None
  left_out_none e = ap (λ b. cond b None (seen_by r (packet_in p.channels r.bytes))) e

-- ---- how many there are

abbrev five : ℕ → ℕ → ℕ → ℕ → ℕ → PassedOver
five left_out not_udp tagged elsewhere unreadable =
    record { left_out = left_out; not_udp = not_udp; tagged = tagged; elsewhere = elsewhere; unreadable = unreadable }

same_five : (a b c d e f g h i j : ℕ) → a ≡ f → b ≡ g → c ≡ h → d ≡ i → e ≡ j → five a b c d e ≡ five f g h i j
same_five a b c d e f g h i j first second third fourth fifth =
    ap (λ x. five x b c d e) first ∙ ap (λ x. five f x c d e) second ∙ ap (λ x. five f g x d e) third ∙ ap (λ x. five f g h x e) fourth
    ∙ ap (λ x. five f g h i x) fifth

abbrev passed_after : PassedOver → Option WhyPassed → PassedOver
passed_after n None = n
passed_after n (Some why) = passed_with n why

module _ (p : Parameters) (without : List ℕ) (records : List Captured) (r : Captured) where
  count_push : (why : WhyPassed) (o : Option WhyPassed) → why_passed p without r ≡ o
      → count_for p without (records ++ r ∷ []) why ≡ count_for p without records why + cond (is_for why o) 1 0
  count_push why o e = length_filter-push (λ (c : Captured). is_for why (why_passed p without c)) records r (is_for why o) (ap (is_for why) e)

  count_same : (why : WhyPassed) (o : Option WhyPassed) → why_passed p without r ≡ o → is_for why o ≡ false
      → count_for p without (records ++ r ∷ []) why ≡ count_for p without records why
  count_same why o e other = count_push why o e ∙ ap (λ b. count_for p without records why + cond b 1 0) other ∙ add-zero _

  push_by : (o : Option WhyPassed) → why_passed p without r ≡ o
      → passed_over p without (records ++ r ∷ []) ≡ passed_after (passed_over p without records) o
  push_by None e = same_five _ _ _ _ _ _ _ _ _ _
      (count_same LeftOut None e refl) (count_same NotUdp None e refl) (count_same Tagged None e refl) (count_same Elsewhere None e refl) (count_same Unreadable None e refl)
  push_by (Some LeftOut) e = same_five _ _ _ _ _ _ _ _ _ _
      (count_push LeftOut (Some LeftOut) e) (count_same NotUdp (Some LeftOut) e refl) (count_same Tagged (Some LeftOut) e refl) (count_same Elsewhere (Some LeftOut) e refl) (count_same Unreadable (Some LeftOut) e refl)
  push_by (Some NotUdp) e = same_five _ _ _ _ _ _ _ _ _ _
      (count_same LeftOut (Some NotUdp) e refl) (count_push NotUdp (Some NotUdp) e) (count_same Tagged (Some NotUdp) e refl) (count_same Elsewhere (Some NotUdp) e refl) (count_same Unreadable (Some NotUdp) e refl)
  push_by (Some Tagged) e = same_five _ _ _ _ _ _ _ _ _ _
      (count_same LeftOut (Some Tagged) e refl) (count_same NotUdp (Some Tagged) e refl) (count_push Tagged (Some Tagged) e) (count_same Elsewhere (Some Tagged) e refl) (count_same Unreadable (Some Tagged) e refl)
  push_by (Some Elsewhere) e = same_five _ _ _ _ _ _ _ _ _ _
      (count_same LeftOut (Some Elsewhere) e refl) (count_same NotUdp (Some Elsewhere) e refl) (count_same Tagged (Some Elsewhere) e refl) (count_push Elsewhere (Some Elsewhere) e) (count_same Unreadable (Some Elsewhere) e refl)
  push_by (Some Unreadable) e = same_five _ _ _ _ _ _ _ _ _ _
      (count_same LeftOut (Some Unreadable) e refl) (count_same NotUdp (Some Unreadable) e refl) (count_same Tagged (Some Unreadable) e refl) (count_same Elsewhere (Some Unreadable) e refl) (count_push Unreadable (Some Unreadable) e)

  -- a record of this sort is one more of it
  pub passed_over-push : (why : WhyPassed) → why_passed p without r ≡ Some why
      → passed_over p without (records ++ r ∷ []) ≡ passed_with (passed_over p without records) why
  passed_over-push why e = push_by (Some why) e

  -- one with a packet counts for nothing
  pub passed_over-seen : (s : Seen) → seen_in p without r ≡ Some s → passed_over p without (records ++ r ∷ []) ≡ passed_over p without records
  passed_over-seen s some = push_by None (seen_none p without r s some)

few : (p : Parameters) (without : List ℕ) (records : List Captured) → length records < 4294967296 → AreFew (passed_over p without records)
few p without records most =
    let each = λ (why : WhyPassed). length_filter-most (λ (c : Captured). is_for why (why_passed p without c)) records in
    record {
      left_out = (let h = each LeftOut in omega (arith, h, most));
      not_udp = (let h = each NotUdp in omega (arith, h, most));
      tagged = (let h = each Tagged in omega (arith, h, most));
      elsewhere = (let h = each Elsewhere in omega (arith, h, most));
      unreadable = (let h = each Unreadable in omega (arith, h, most));
    }

-- what is counted is what was counted with one more
pub passed_next : (p : Parameters) (without : List ℕ) (records : List Captured) (r : Captured) (old new : PassedOver) (why : WhyPassed) (number : ℕ)
    → old ≡ passed_over p without records → number ≡ length records + 1 → number < 4294967296 → why_passed p without r ≡ Some why
    → (AreFew old → new ≡ passed_with old why) → new ≡ passed_over p without (records ++ r ∷ [])
passed_next p without records r old new why number is next fits is_why counted =
    counted (subst AreFew (sym is) (few p without records (omega (arith, next, fits)))) ∙ ap (λ (n : PassedOver). passed_with n why) is
    ∙ sym (passed_over-push p without records r why is_why)
