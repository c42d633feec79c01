-- The packet of a level: its end makes it, or it is a copy, with its lines.
use Rattle.std.proofs.Common.{◌≡◌, ℕ, suc, ◌+◌, ◌<◌, List, [], ◌∷◌, ◌++◌, length, Some, slice_get, take, refl, ap, sym, ◌∙◌, arith}
use Rattle.rasta_check.proofs.Prelude.{None, drop, length_push, length-take-le, take-append-drop, slice_get_within, dec_lt, yes, no, Side, Packet, Parameters, Entry, Take, Make}
use Rattle.rasta_check.proofs.Prelude.{Why, Made, wrapped, FirstCopy, CrossRecorded, Station, ScriptCursor, Advances, makes_next, Leads, Spells, position_of_place, makes, repeats, waits}
use Rattle.rasta_check.proofs.Prelude.{get_front, get_front_within, get_push, slice_get_some, lines_of_move}
use Rattle.rasta_check.specs.Model.World.{making, repeating, waiting}
use Rattle.rasta_check.proofs.Capture.FaultlessLists.{IsSent, ordered}
use Rattle.rasta_check.proofs.Capture.Crossings.{number_spelled}
use Rattle.rasta_check.proofs.Script.Tracks.{Tracks, Drained, next_number, next_packet, untouched}
use Rattle.rasta_check.proofs.Model.Steps.{base, made_more}
use Rattle.rasta_check.specs.Run.Lines.{number_of}
use Rattle.rasta_check.specs.Run.Levels.{make_line, waited_line, side_lines}
use Rattle.rasta_check.proofs.Run.Entries.{makes_here}
use Rattle.rasta_check.proofs.Run.Rests.{Above, says_all, says_make, lead_above, places_above, no_makes, Left}
use Rattle.rasta_check.proofs.Run.Moves.{Many, stays, moves, recast}
use Rattle.rasta_check.proofs.Run.Takes.{ahead}
use Rattle.rasta_check.proofs.Capture.Positions.{place_missing, place_named, place_once}

module _ (p : Parameters) (packets : List Packet) (k : ℕ) (s : Side) (own peer : List FirstCopy) (sent : IsSent p packets s own) (recorded : CrossRecorded p packets) (last : ScriptCursor) (whole : last.made_count ≡ length own)
    (b : Station) (here : Packet) (at : slice_get packets k ≡ Some here) where
  -- what the packet of a side leaves, made or copied: its lines are those of the packet, and of later levels the rest says what the script says
  abbrev pub Crossed : List Entry → Station → Type 0
  Crossed from a = (station : Station) × Many p b s (take k packets) a (side_lines k s (number_of here) own from) station (take (suc k) packets)
      × Left p (length packets) (suc k) s own peer last (Above (suc k)) (suc k) (suc k) from station

  long : length (take k packets) ≡ k
  long = length-take-le k packets (let l = slice_get_within packets k here at in omega (arith, l))

  make_one : (place clock : ℕ) (why : Why) (es : List Entry) (a : Station) (m : ScriptCursor) → place ≡ k
      → (f : Tracks p (length packets) k s own peer (Make place clock why ∷ es) last a)
      → Advances p (length packets) own peer (record { level = f.level; made_count = f.made_count; passed = f.passed; state = a.state }) (Make place clock why) m → Leads p (length packets) own peer m es last
      → Crossed (Make place clock why ∷ es) a
  make_one place clock why es a m pl f (makes_next c clock' why' e' lv mine mk) rest =
      let made = made_more p a.state c.pdu.safety clock why e' mk in
      let first = sent.firsts f.made_count c mine in
      let head = slice_get_some own 0 (let l = slice_get_within own f.made_count c mine in omega (arith, l)) in
      let n : Made = made.new in
      let waited : Station = record a { clock = clock } in
      let now : e'.made ≡ a.state.made ++ n ∷ [] = made.made in
      let numbered : c.pdu.number ≡ wrapped (a.first_number + length a.state.made) =
      sent.numbers f.made_count head.0 c head.1 mine ∙ sym (next_number a.first_number (base p) f.made_count (length a.state.made) head.0.pdu.number f.count (f.number head.0 head.1)) in
      let said : Spells p a.state.side (record { number = wrapped (a.first_number + length a.state.made); reserve = c.pdu.reserve; safety = c.pdu.safety; check_bytes = c.pdu.check_bytes }) first.0.payload =
      rw (f.side, sym numbered) first.3 in
      let count : length e'.made ≡ suc (base p + f.made_count) = ap length now ∙ (length_push a.state.made n ∙ (omega (arith, f.count))) in
      let newest : (i : ℕ) (d : FirstCopy) → slice_get own i ≡ Some d → i < suc f.made_count → (i < f.made_count → ⊥) → d ≡ c =
      λ i d h v no. (let last : i ≡ f.made_count = omega (arith, v, no) in let z = ap (slice_get own) last in cc) in
      let after : Above (suc k) es = lead_above p (length packets) (suc k) own peer _ last es rest (omega (arith, pl)) in
      let there : slice_get packets k ≡ Some first.0 = ap (slice_get packets) (sym pl) ∙ first.1 in
      let same_packet : first.0 ≡ here = cc in
      let shown : wrapped (a.first_number + length a.state.made) ≡ number_of here =
      sym numbered ∙ (sym (number_spelled p s c.pdu first.0.payload first.3) ∙ ap (λ (x : Packet). number_of x) same_packet) in
      let found : position_of_place own k ≡ Some f.made_count = ap (position_of_place own) (sym pl) ∙ place_named own (ordered sent) f.made_count c mine in
      let line : waited_line (length (take k packets)) s clock ∷ make_line (length (take k packets)) s (wrapped (a.first_number + length a.state.made)) (clock, why) ∷ [] ≡ side_lines k s (number_of here) own (Make c.place clock why ∷ es) =
      rw (long, shown, found, pl, makes_here k clock why es, no_makes k (suc k) es (omega arith) after) refl in
      let tracks : Tracks p (length packets) (suc k) s own peer es last (record waited { state = e' }) = record {
        level = suc c.place;
        made_count = suc f.made_count;
        passed = f.passed;
        low = omega arith;
        fits = rest;
        based = made.base ∙ f.based;
        count = omega (arith, count);
        mark = f.mark;
        clock = sym made.now;
        number = f.number;
        before = λ i d h v. (let x = f.before i d h in let y = place_once own (ordered sent) i f.made_count d c h mine in grind (arith, x, y, pl, v));
        after = λ i d h v. elim (dec_lt i f.made_count) [ yes l ↦ (let z = f.after i d h l in omega (arith, z)) | no l ↦ (let q = ap (λ (z : FirstCopy). z.place) (newest i d h v l) in omega (arith, q)) ];
        same = λ i d h v. elim (dec_lt i f.made_count) [
          | yes l ↦ (let z = f.same i d h l in (z.0, ap (λ (ms : List Made). slice_get ms (base p + i)) now ∙ get_front a.state.made (n ∷ []) (base p + i) z.0 z.1, z.2))
          | no l ↦ (let at_end : base p + i ≡ length a.state.made = omega (arith, f.count, v, l) in
              (n, ap (λ (ms : List Made). slice_get ms (base p + i)) now ∙ rw at_end (get_push a.state.made n), made.pdu ∙ ap (λ (z : FirstCopy). z.pdu.safety) (sym (newest i d h v l))))
        ];
        side = made.side ∙ f.side;
      } in (
        record waited { state = e' },
        recast line (next_packet packets k first.0 a.state.side (f.side ∙ sym first.2) there)
            (moves (waiting clock) (waits clock (let z = f.clock in omega (arith, z, made.rises)))
            (moves (making c.pdu.safety why first.0.channel c.pdu.reserve c.pdu.check_bytes) (makes {a = waited} c.pdu.safety why e' first.0.channel c.pdu.reserve c.pdu.check_bytes first.0.payload mk said (recorded c.place first.0 first.1)) stays)),
        record { rest = es; tracks = tracks; ready = after; says = says_make (suc k) (suc k) c.place clock why es (omega (arith, pl)) },
      )

  copy_moves : (es : List Entry) (a : Station) → position_of_place own k ≡ None → here.side ≡ a.state.side
      → (j : ℕ) (old : Packet) → j < k → slice_get packets j ≡ Some old → old.side ≡ here.side → old.payload ≡ here.payload → Many p b s (take k packets) a (side_lines k s (number_of here) own es) a (take (suc k) packets)
  copy_moves es a no_first sd j old l g os ob =
      let whole : record old { channel = here.channel } ≡ here = (λ i. record { channel = here.channel; side = os i; payload = ob i }) in
      let next : take k packets ++ record old { channel = here.channel } ∷ [] ≡ take (suc k) packets = ap (λ (x : Packet). take k packets ++ x ∷ []) whole ∙ next_packet packets k here here.side refl at in
      let there : slice_get (take k packets) j ≡ Some old = sym (get_front_within (take k packets) (drop k packets) j (omega (arith, l, long))) ∙ rw take-append-drop g in
      let line : lines_of_move s a b (take k packets) (repeating j here.channel) ++ [] ≡ side_lines k s (number_of here) own es = rw (there, no_first, long, ob) refl in
      recast line next (moves (repeating j here.channel) (repeats {a = a} j here.channel old there (os ∙ sd) (recorded k here at)) stays)

  copied : (es : List Entry) (a : Station) → here.side ≡ s → Above (suc k) es → Tracks p (length packets) k s own peer es last a → Crossed es a
  copied es a h1 h2 h3 = grind (arith, places_above, copy_moves, place_missing, untouched, says_all)

  pub next_is : (es : List Entry) (a : Station) → here.side ≡ s → Drained k es → Tracks p (length packets) k s own peer es last a → Crossed es a
  next_is [] a hs dr f = copied [] a hs tt f
  next_is (Take slot number ∷ es) a hs dr f = copied (Take slot number ∷ es) a hs (dr, (ahead p (length packets) s own peer last k k (Take slot number) es a (omega arith) (omega arith) f dr).1) f
  next_is (Make place clock why ∷ es) a hs dr f =
      let z = ahead p (length packets) s own peer last k k (Make place clock why) es a (omega arith) (omega arith) f tt in
      elim (dec_lt k place) [
        | yes l ↦ copied (Make place clock why ∷ es) a hs (l, z.1) f
        | no l ↦ make_one place clock why es a f.fits.0 (omega (arith, z.0)) f f.fits.1 f.fits.2
      ]
