-- What is kept of one more record behind what crossed.
use Rattle.std.proofs.Common.{◌≡◌, ◌∙◌, ℕ, ◌≤◌, ◌+◌, List, [], ◌∷◌, ◌++◌, append_assoc, append-nil, length, length-append, drop, map, true, false, not, ◌&&◌, nat_le, Option, None, Some, Ok, ap, refl, sym, subst, arith}
use Rattle.std.proofs.Math.Seq.{drop-append_seam}
use Rattle.std.proofs.lemmas.Bool.Decides.{nat_tests}
use Rattle.std.proofs.lemmas.List.{length-map, map_push, nil_from_length}
use Rattle.rasta_pcap.specs.Capture.{Numbered}
use Rattle.rasta_pcap.specs.Captured.{Captured, numbered}
use Rattle.rasta_udp.specs.Frame.{Packet, packet_in}
use Rattle.rasta_pdu.specs.Params.{Parameters}
use Rattle.rasta_check.specs.Capture.Crossing.{Crossing, nothing_crossed}
use Rattle.rasta_check.specs.Capture.Reading.{after_record}
use Rattle.seatmelon_reading.specs.Noted.{Seen, is_left_out, numbered_seen, seen_inside}
use Rattle.seatmelon_reading.specs.Passing.{AreUnjudged}
use Rattle.seatmelon_reading.specs.Reading.{HaveCrossed, standing_with}
use Rattle.seatmelon_reading.specs.Tapes.{NumberedPacket, numbered_with, taped_in}
use Rattle.seatmelon_reading.specs.Times.{time_of}
use Rattle.seatmelon_reading.specs.declared.capture_refusal.CaptureRefusal.{CaptureRefusal}
use Rattle.seatmelon_reading.specs.declared.tape.Tape.{Tape}
use Rattle.seatmelon_reading.proofs.Codes.{inside_some}
use Rattle.seatmelon_reading.proofs.Crossed.{crossed_seen}
use Rattle.seatmelon_reading.proofs.Stored.{stored_begun, taken_in}
use Rattle.seatmelon_reading.proofs.Told.{packet_of_record}

-- the packets of the connection in these records, as they are kept
abbrev kept_of : Parameters → List ℕ → List Captured → List NumberedPacket
kept_of p without records = map numbered_seen (seen_inside p without records)

-- ---- where all of them crossed

module _ (p : Parameters) (without : List ℕ) (records : List Captured) (k : Crossing) (t : Tape) (crossed : HaveCrossed p without records k) where
  crossed_many : length k.packets ≡ length (kept_of p without records)
  crossed_many = ap length (crossed_seen p without records k crossed) ∙ length-map (seen_inside p without records) (λ (s : Seen). s.packet)
      ∙ sym (length-map (seen_inside p without records) numbered_seen)

  -- nothing is kept
  pub none_unjudged : AreUnjudged p without records k t → taped_in t ≡ []
  none_unjudged h =
      let many = crossed_many in
      let counted = h.counted in
      let whole : length (kept_of p without records) ≡ length h.first + length (taped_in t) = ap length h.whole ∙ length-append h.first (taped_in t) in
      nil_from_length (taped_in t) (omega (arith, many, counted, whole))

  pub all_crossed : taped_in t ≡ [] → AreUnjudged p without records k t
  all_crossed none = record {
    first = kept_of p without records;
    counted = sym crossed_many;
    whole = sym (append-nil (kept_of p without records)) ∙ ap (λ l. kept_of p without records ++ l) (sym none);
  }

-- where nothing was read
pub unjudged_begun : (p : Parameters) (without : List ℕ) (k : Crossing) (refusal : Option CaptureRefusal) (t : Tape) → standing_with k refusal ≡ Ok (nothing_crossed p) → taped_in t ≡ []
    → AreUnjudged p without [] k t
unjudged_begun p without k None t e none = all_crossed p without [] k t (stored_begun p without k None e) none
unjudged_begun p without k (Some r) t e none = absurd cc

-- ---- one record more

module _ (p : Parameters) (without : List ℕ) (records : List Captured) (q : Captured) where
  -- one that adds none
  pub unjudged_same : (k : Crossing) (t : Tape) → seen_inside p without (records ++ q ∷ []) ≡ seen_inside p without records → AreUnjudged p without records k t
      → AreUnjudged p without (records ++ q ∷ []) k t
  unjudged_same k t same h = record { first = h.first; counted = h.counted; whole = ap (map numbered_seen) same ∙ h.whole }

  -- one whose packet crossed, if it holds one
  pub unjudged_taken : (k n : Crossing) (t : Tape) (number : ℕ) (bytes : List ℕ) → numbered q ≡ (number, bytes) → is_left_out without number ≡ false → number ≤ p.last_record
      → HaveCrossed p without records k → after_record k (number, bytes) ≡ Ok n → AreUnjudged p without records k t → AreUnjudged p without (records ++ q ∷ []) n t
  unjudged_taken k n t number bytes is stays last before crosses h =
      let number_is : q.number ≡ number = ap (λ (r : Numbered). r.0) is in
      let within : nat_le q.number p.last_record ≡ true = grind (arith, nat_tests, number_is, last) in
      let judged : (not (is_left_out without q.number) && nat_le q.number p.last_record) ≡ true =
      ap (λ m. not (is_left_out without m) && nat_le q.number p.last_record) number_is ∙ ap (λ b. not b && nat_le q.number p.last_record) stays ∙ within in
      all_crossed p without (records ++ q ∷ []) n t (taken_in p without records q k n judged before (ap (after_record k) is ∙ crosses)) (none_unjudged p without records k t before h)

  module _ (number : ℕ) (bytes : List ℕ) (is : numbered q ≡ (number, bytes)) (stays : is_left_out without number ≡ false) (first : p.first_record ≤ number) (last : number ≤ p.last_record) where
    -- a record of the window adds its packet
    added_next : (a : Packet) → packet_in p.channels bytes ≡ Ok (Some a) → kept_of p without (records ++ q ∷ []) ≡ kept_of p without records ++ numbered_with number a ∷ []
    added_next a found =
        let s : Seen = record { captured = q; packet = a } in
        let here = packet_of_record true p without q a number bytes (time_of true q) found is refl stays first last in
        ap (map numbered_seen) (inside_some p without records q s here.seen here.inside) ∙ map_push numbered_seen (seen_inside p without records) s
        ∙ ap (λ (r : Numbered). kept_of p without records ++ numbered_with r.0 a ∷ []) is

    -- one that is kept
    pub unjudged_next : (k n : Crossing) (t u : Tape) (a : Packet) → packet_in p.channels bytes ≡ Ok (Some a) → n ≡ k → taped_in u ≡ taped_in t ++ numbered_with number a ∷ []
        → AreUnjudged p without records k t → AreUnjudged p without (records ++ q ∷ []) n u
    unjudged_next k n t u a found same taped h = record {
      first = h.first;
      counted = h.counted ∙ ap (λ (c : Crossing). length c.packets) (sym same);
      whole = added_next a found ∙ ap (λ l. l ++ numbered_with number a ∷ []) h.whole ∙ append_assoc h.first (taped_in t) (numbered_with number a ∷ []) ∙ ap (λ l. h.first ++ l) (sym taped);
    }

-- at the end, what is kept still is
pub unjudged_still : (p : Parameters) (without : List ℕ) (records : List Captured) (k n : Crossing) (t u : Tape) → n ≡ k → u ≡ t → AreUnjudged p without records k t
    → AreUnjudged p without records n u
unjudged_still p without records k n t u same tape h =
    subst (λ (x : Tape). AreUnjudged p without records n x) (sym tape) (subst (λ (c : Crossing). AreUnjudged p without records c t) (sym same) h)

-- ---- the whole

pub unjudged_as : (p q : Parameters) (v w : List ℕ) (records : List Captured) (k : Crossing) (t : Tape) → p ≡ q → v ≡ w → AreUnjudged p v records k t → AreUnjudged q w records k t
unjudged_as p q v w records k t e f h = subst (λ (x : List ℕ). AreUnjudged q x records k t) f (subst (λ (x : Parameters). AreUnjudged x v records k t) e h)

-- what is kept is behind what crossed
pub unjudged_behind : (p : Parameters) (without : List ℕ) (records : List Captured) (k : Crossing) (t : Tape) → AreUnjudged p without records k t
    → taped_in t ≡ drop (length k.packets) (map numbered_seen (seen_inside p without records))
unjudged_behind p without records k t h =
    sym (drop-append_seam h.first (taped_in t)) ∙ ap (λ n. drop n (h.first ++ taped_in t)) h.counted ∙ ap (drop (length k.packets)) (sym h.whole)
