-- Scripts that fit are in order, and what is written of them in one pass is their run.
use Rattle.std.proofs.Common.{◌≡◌, ℕ, zero, suc, ◌+◌, Bool, true, false, List, [], ◌∷◌, ◌++◌, length, Option, Some, None, slice_get, nat_eq, refl, ap, sym, ◌∙◌, arith}
use Rattle.std.specs.Prelude.{◌==◌, nat_lt, not, cond, position, if◌then◌else◌}
use Rattle.std.specs.List.{flat_map, position_or_len}
use Rattle.std.proofs.lemmas.Bool.Decides.{nat_tests}
use Rattle.std.proofs.lemmas.Grind.{flat_map-append}
use Rattle.std.proofs.lemmas.List.{append-nil}
use Rattle.rasta_pcap.specs.declared.fault.Side.{Side}
use Rattle.rasta_pcap.specs.declared.fault.Side.TheVariants.{Client, Server}
use Rattle.rasta_udp.specs.Frame as udp
use Rattle.rasta_pdu.specs.Params.{Parameters}
use Rattle.rasta_end.specs.declared.why.Why.{Why}
use Rattle.rasta_end.specs.State.{EndState}
use Rattle.rasta_cert.specs.declared.entry.Entry.{Entry}
use Rattle.rasta_cert.specs.declared.entry.Entry.TheVariants.{Take, Make}
use Rattle.rasta_cert.specs.Certificate.{Scripts}
use Rattle.rasta_check.specs.Capture.SentLists.{FirstCopy}
use Rattle.rasta_check.specs.Capture.Lists.{places_of, position_of_place}
use Rattle.rasta_check.specs.Capture.Crossing.{Crossing}
use Rattle.rasta_check.specs.Script.Fitting.{AreInOrder, Fits, places_made}
use Rattle.rasta_check.specs.Run.Lines.{Line, number_of}
use Rattle.rasta_check.specs.Run.Levels.{makes_at, takes_at, by_side_lines, crossed_lines, each_make, each_take, level_lines, levels_lines, packet_lines, takes_lines}
use Rattle.rasta_verdict.specs.RunText.{copy_text, line_text, make_text, run_text, take_text, what_text}
use Rattle.rasta_verdict.specs.Told.{IsOrderedFrom, IsTold, of_side, takes_text, told_crossing, told_level, told_levels, told_packet}
use Rattle.rasta_check.proofs.Run.Entries.{makes_here, makes_none, makes_other, makes_past}

-- ---- where a place stands among the places of a list

abbrev is_found : ℕ → List ℕ → Bool
is_found n [] = false
is_found n (x ∷ xs) = if nat_eq n x then true else is_found n xs

more : (i l : ℕ) → nat_lt (1 + i) (suc l) ≡ nat_lt i l
more i l = grind (arith, nat_tests)

none_lt : (l : ℕ) → nat_lt 0 (suc l) ≡ true
none_lt l = grind (arith, nat_tests)

within_more : (b f : Bool) (i l : ℕ) → nat_lt i l ≡ f → nat_lt (cond (not b) (1 + i) 0) (suc l) ≡ (if b then true else f)
within_more b f i l h = grind arith

within : (n : ℕ) (xs : List ℕ) → nat_lt (position_or_len (nat_eq n) xs) (length xs) ≡ is_found n xs
within n [] = refl
within n (x ∷ xs) = within_more (nat_eq n x) (is_found n xs) (position_or_len (nat_eq n) xs) (length xs) (within n xs)

by_test : (b : Bool) (i : ℕ) → cond b (Some i) None ≡ None → b ≡ false
by_test b i h = grind arith

by_place : (b : Bool) (i j : ℕ) → cond b (Some i) None ≡ Some j → b ≡ true
by_place b i j h = grind arith

not_found : (n : ℕ) (xs : List ℕ) → position (nat_eq n) xs ≡ None → is_found n xs ≡ false
not_found n xs e = sym (within n xs) ∙ by_test (nat_lt (position_or_len (nat_eq n) xs) (length xs)) (position_or_len (nat_eq n) xs) e

found : (n i : ℕ) (xs : List ℕ) → position (nat_eq n) xs ≡ Some i → is_found n xs ≡ true
found n i xs e = sym (within n xs) ∙ by_place (nat_lt (position_or_len (nat_eq n) xs) (length xs)) (position_or_len (nat_eq n) xs) i e

-- ---- makes by their indexes

differ : (n m : ℕ) → nat_eq n m ≡ false → (m == n) ≡ false
differ n m e = grind (arith, nat_tests)

equal : (n m : ℕ) → nat_eq n m ≡ true → n ≡ m
equal n m e = grind (arith, nat_tests)

-- a place that is no index is not made
no_make_more : (place index clock : ℕ) (why : Why) (es : List Entry) (b f : Bool) → nat_eq place index ≡ b → (f ≡ false → makes_at place es ≡ [])
    → (if b then true else f) ≡ false → makes_at place (Make index clock why ∷ es) ≡ []
no_make_more place index clock why es true f t rest e = absurd (cc)
no_make_more place index clock why es false f t rest e = makes_other place index clock why es (differ place index t) ∙ rest e

no_make : (place : ℕ) (es : List Entry) → is_found place (places_made es) ≡ false → makes_at place es ≡ []
no_make place [] e = makes_none place
no_make place (Take slot number ∷ es) e = makes_past place slot number es ∙ no_make place es e
no_make place (Make index clock why ∷ es) e =
    no_make_more place index clock why es (nat_eq place index) (is_found place (places_made es)) refl (λ h. no_make place es h) e

-- an index is made
abbrev HasMake : ℕ → List Entry → Type 0
HasMake place es = (m : ℕ × Why) × (more : List (ℕ × Why)) × (makes_at place es ≡ m ∷ more)

a_make_more : (place index clock : ℕ) (why : Why) (es : List Entry) (b f : Bool) → nat_eq place index ≡ b → (f ≡ true → HasMake place es)
    → (if b then true else f) ≡ true → HasMake place (Make index clock why ∷ es)
a_make_more place index clock why es true f t rest e = (
  (clock, why),
  makes_at place es,
  ap (λ n. makes_at place (Make n clock why ∷ es)) (sym (equal place index t)) ∙ makes_here place clock why es,
)
a_make_more place index clock why es false f t rest e = (let h = rest e in (h.0, h.1, makes_other place index clock why es (differ place index t) ∙ h.2))

a_make : (place : ℕ) (es : List Entry) → is_found place (places_made es) ≡ true → HasMake place es
a_make place [] e = absurd (cc)
a_make place (Take slot number ∷ es) e = (let h = a_make place es e in (h.0, h.1, makes_past place slot number es ∙ h.2))
a_make place (Make index clock why ∷ es) e =
    a_make_more place index clock why es (nat_eq place index) (is_found place (places_made es)) refl (λ h. a_make place es h) e

-- ---- the text of lines

takes_say : (level : ℕ) (side : Side) (numbers : List ℕ) → flat_map line_text (each_take level side numbers) ≡ flat_map (take_text level side) numbers
unfolding line_text what_text
takes_say level side [] = refl
takes_say level side (n ∷ ns) = ap (λ (l : List ℕ). take_text level side n ++ l) (takes_say level side ns)

makes_say : (place : ℕ) (side : Side) (number : ℕ) (ms : List (ℕ × Why)) → flat_map line_text (each_make place side number ms) ≡ flat_map (make_text place side number) ms
unfolding line_text what_text
makes_say place side number [] = refl
makes_say place side number (m ∷ ms) = ap (λ (l : List ℕ). make_text place side number m ++ l) (makes_say place side number ms)

copy_says : (place : ℕ) (side : Side) (number : ℕ) (ms : List (ℕ × Why)) → flat_map line_text (crossed_lines place side number None ms) ≡ copy_text place side number
unfolding line_text what_text
copy_says place side number ms = append-nil (copy_text place side number)

-- ---- what is no make is a copy

crossed : (place : ℕ) (side : Side) (number : ℕ) (es : List Entry) (own : List FirstCopy) → places_made es ≡ places_of own
    → flat_map line_text (crossed_lines place side number (position_of_place own place) (makes_at place es)) ≡ told_crossing place side number (makes_at place es)
unfolding told_crossing
crossed place side number es own same = by (position_of_place own place) refl
  where
    by : (o : Option ℕ) → position_of_place own place ≡ o → flat_map line_text (crossed_lines place side number o (makes_at place es)) ≡ told_crossing place side number (makes_at place es)
    by None e =
        let none = no_make place es (ap (is_found place) same ∙ not_found place (places_of own) e) in
        copy_says place side number (makes_at place es) ∙ sym (ap (told_crossing place side number) none)
    by (Some i) e =
        let some = a_make place es (ap (is_found place) same ∙ found place i (places_of own) e) in
        makes_say place side number (makes_at place es)
        ∙ (ap (λ (l : List (ℕ × Why)). flat_map (make_text place side number) l) some.2
        ∙ sym (ap (told_crossing place side number) some.2))

three : (xs ys zs : List Line) → flat_map line_text (xs ++ (ys ++ zs)) ≡ flat_map line_text xs ++ (flat_map line_text ys ++ flat_map line_text zs)
three xs ys zs = flat_map-append line_text xs (ys ++ zs) ∙ ap (λ (l : List ℕ). flat_map line_text xs ++ l) (flat_map-append line_text ys zs)

module _ (k : Crossing) (scripts : Scripts) (told : IsTold k scripts) where
  same_packet : (place : ℕ) (packet : Option udp.Packet)
      → flat_map line_text (packet_lines place k.client k.server scripts.client scripts.server packet) ≡ told_packet place (makes_at place scripts.client) (makes_at place scripts.server) packet
  unfolding told_packet
  same_packet place None = refl
  same_packet place (Some packet) = by packet.side
    where
      by : (side : Side) → flat_map line_text (by_side_lines place (number_of packet) k.client k.server scripts.client scripts.server side)
          ≡ told_crossing place side (number_of packet) (of_side (makes_at place scripts.client) (makes_at place scripts.server) side)
      by Client = crossed place Client (number_of packet) scripts.client k.client told.client_makes
      by Server = crossed place Server (number_of packet) scripts.server k.server told.server_makes

  same_level : (level : ℕ) → flat_map line_text (level_lines k.packets k.client k.server scripts.client scripts.server level) ≡ told_level k.packets scripts level
  unfolding told_level takes_text
  same_level level =
      three (takes_lines level Client scripts.client) (takes_lines level Server scripts.server)
      (packet_lines level k.client k.server scripts.client scripts.server (slice_get k.packets level))
      ∙ (λ i. takes_say level Client (takes_at level scripts.client) i
      ++ (takes_say level Server (takes_at level scripts.server) i ++ same_packet level (slice_get k.packets level) i))

  same_levels : (level left : ℕ) → flat_map line_text (levels_lines k.packets k.client k.server scripts.client scripts.server level left) ≡ told_levels k.packets scripts level left
  unfolding told_levels
  same_levels level zero = refl
  same_levels level (suc left) =
      flat_map-append line_text (level_lines k.packets k.client k.server scripts.client scripts.server level)
      (levels_lines k.packets k.client k.server scripts.client scripts.server (suc level) left)
      ∙ (λ i. same_level level i ++ same_levels (suc level) left i)

-- what is written from the first level on is the run
pub told_whole : (k : Crossing) (scripts : Scripts) → IsTold k scripts → told_levels k.packets scripts 0 (length k.packets + 1) ≡ run_text k scripts
unfolding run_text
told_whole k scripts told =
    let one : length k.packets + 1 ≡ suc (length k.packets) = omega arith in
    ap (told_levels k.packets scripts 0) one ∙ sym (same_levels k scripts told 0 (suc (length k.packets)))

-- ---- a script that fits is in order, and makes what its side sent

in_order : (packets level : ℕ) (es : List Entry) → AreInOrder packets level es → IsOrderedFrom level es
in_order packets level [] h = tt
in_order packets level (Take slot number ∷ es) h = (h.0, in_order packets slot es h.2)
in_order packets level (Make index clock why ∷ es) h = (h.0, in_order packets (suc index) es h.1)

-- scripts that fit are told
pub fits-told : (p : Parameters) (k : Crossing) (scripts : Scripts) (a b : EndState)
    → Fits p Client (length k.packets) k.client k.server scripts.client a
    → Fits p Server (length k.packets) k.server k.client scripts.server b → IsTold k scripts
fits-told p k scripts a b f g = record {
  client_order = in_order (length k.packets) 0 scripts.client f.slots;
  server_order = in_order (length k.packets) 0 scripts.server g.slots;
  client_makes = f.makes;
  server_makes = g.makes;
}
